-- What one table says of its frames, and what is seen through it.
use Rattle.std.proofs.Common.{◌≡◌, ◌≢◌, ℕ, zero, suc, ◌+◌, ◌<◌, ◌≤◌, inl, inr, List, [], ◌∷◌, ◌++◌, length, get_or, take, drop, set, map, refl, sym, ap, ap₂, ◌∙◌, arith, sum_by, Option, Some, None, length-set}
use Rattle.std.specs.Option.{option_map}
use Rattle.std.proofs.lemmas.List.{get_or_past, get_or-take, length-take, get_or-set_same, get_or-set_other, get_or_append_left, get_or_push, map-append, take-map, map-set, set-get_or}
use Rattle.std.proofs.lemmas.List.Sums.{sum_by-cons, sum_by-set, get_or-le-sum_by, sum_by-take-drop}
use Rattle.std.proofs.lemmas.Bool.{cases_lt, cases_eq}
use Rattle.hy_frames.specs.FrameTable.{FrameTable, page_of, occurrences}
use Rattle.hy_space.specs.Space.{times, table_bytes, with_frame, with_new_frame, with_first_frames, with_page, with_new_page, with_first_pages, page_at}
use Rattle.hy_space.specs.Space.{child_times}
use Rattle.hy_space.proofs.UserLaws.{same, same_yes, same_no}

-- ---- how often a frame stands in a table

pub occurrences-cons : (f frame : ℕ) (segment : List ℕ) → occurrences f (frame ∷ segment) ≡ same frame f + occurrences f segment
occurrences-cons f frame segment = sum_by-cons (λ x. same x f) frame segment

pub times-cons : (f : ℕ) (segment : List ℕ) (table : List (List ℕ)) → times f (segment ∷ table) ≡ occurrences f segment + times f table
times-cons f segment table = sum_by-cons (occurrences f) segment table

-- a frame that stands at a place
pub stands_in_segment : (segment : List ℕ) (page : ℕ) → page < length segment → 1 ≤ occurrences (get_or segment page 0) segment
stands_in_segment segment page within = omega (
  arith,
  get_or-le-sum_by (λ x. same x (get_or segment page 0)) segment page 0 within,
  same_yes (get_or segment page 0) (get_or segment page 0) refl,
)

pub stands : (table : List (List ℕ)) (segment page : ℕ) → segment < length table → page < length (get_or table segment []) → 1 ≤ times (get_or (get_or table segment []) page 0) table
stands table segment page there within =
    let f = get_or (get_or table segment []) page 0 in
    omega (arith, get_or-le-sum_by (occurrences f) table segment [] there, stands_in_segment (get_or table segment []) page within)

-- another frame at one place
pub times-with_frame : (f : ℕ) (table : List (List ℕ)) (segment page frame : ℕ) → segment < length table → page < length (get_or table segment []) → times f (with_frame table segment page frame) + same (get_or (get_or table segment []) page 0) f ≡ times f table + same frame f
times-with_frame f table segment page frame there within =
    let row = get_or table segment [] in
    omega (
      arith,
      sum_by-set (occurrences f) table segment (set row page frame) [] there,
      sum_by-set (λ x. same x f) row page frame 0 within,
    )

-- what stands at another place stays there
pub frame_no-with_frame : (table : List (List ℕ)) (segment page frame segment' page' : ℕ) → ¬ ((segment' ≡ segment) × (page' ≡ page)) → segment' < length table → (get_or (get_or (with_frame table segment page frame) segment' []) page' 0 ≡ get_or (get_or table segment' []) page' 0) × (length (get_or (with_frame table segment page frame) segment' []) ≡ length (get_or table segment' []))
frame_no-with_frame table segment page frame segment' page' other there =
    let row = set (get_or table segment []) page frame in
    elim (cases_eq segment' segment) [
      | inl here ↦
          let same_row : get_or (with_frame table segment page frame) segment' [] ≡ row = ap (λ n. get_or (with_frame table segment page frame) n []) here ∙ get_or-set_same table segment row [] (omega arith) in
          let back : get_or table segment [] ≡ get_or table segment' [] = ap (λ n. get_or table n []) (sym here) in (
            ap (λ r. get_or r page' 0) same_row ∙ get_or-set_other (get_or table segment []) page page' frame 0 (λ e. other (here, e)) ∙ ap (λ r. get_or r page' 0) back,
            ap length same_row ∙ length-set (get_or table segment []) page frame ∙ ap length back,
          )
      | inr apart ↦
          let same_row = get_or-set_other table segment segment' row [] apart in
          (ap (λ r. get_or r page' 0) same_row, ap length same_row)
    ]

-- a frame that stands once stands at no other place
pub apart_frames : (table : List (List ℕ)) (segment page segment' page' : ℕ) → segment < length table → page < length (get_or table segment []) → segment' < length table → page' < length (get_or table segment' []) → times (get_or (get_or table segment []) page 0) table ≤ 1 → ¬ ((segment' ≡ segment) × (page' ≡ page)) → get_or (get_or table segment' []) page' 0 ≢ get_or (get_or table segment []) page 0
apart_frames table segment page segment' page' there within there' within' once other e =
    let f = get_or (get_or table segment []) page 0 in
    let another = with_frame table segment page (f + 1) in
    let stays = frame_no-with_frame table segment page (f + 1) segment' page' other there' in
    let none : times f another ≡ 0 = omega (arith, times-with_frame f table segment page (f + 1) there within, same_yes f f refl, same_no (f + 1) f (λ d. absurd (omega arith))) in
    absurd (omega (
      arith,
      stands another segment' page' (omega (arith, length-set table segment (set (get_or table segment []) page (f + 1)))) (omega (arith, stays.1)),
      ap (λ x. times x another) (stays.0 ∙ e),
    ))

-- the first frames of a segment alone
pub times-cut : (f : ℕ) (table : List (List ℕ)) (segment count : ℕ) → segment < length table → times f (set table segment (take count (get_or table segment []))) + occurrences f (drop count (get_or table segment [])) ≡ times f table
times-cut f table segment count there =
    let row = get_or table segment [] in
    omega (
      arith,
      sum_by-set (occurrences f) table segment (take count row) [] there,
      sum_by-take-drop (λ x. same x f) row count,
    )

-- a segment's end has no frame more often than the table
pub occurrences-drop-le : (f : ℕ) (table : List (List ℕ)) (segment count : ℕ) → segment < length table → occurrences f (drop count (get_or table segment [])) ≤ times f table
occurrences-drop-le f table segment count there = omega (arith, times-cut f table segment count there)

-- ---- what is seen through a table

-- a read of a map, also past the end
pub get_or-map_at : {A B : Type 0} (h : A → B) (xs : List A) (i : ℕ) (d : A) → get_or (map h xs) i (h d) ≡ h (get_or xs i d)
get_or-map_at h [] i d = refl
get_or-map_at h (x ∷ xs) zero d = refl
get_or-map_at h (x ∷ xs) (suc i) d = get_or-map_at h xs i d

-- the bytes of a page, as a read of the frames
pub page_at-table_bytes : (frames : FrameTable) (table : List (List ℕ)) (segment page : ℕ) → page < length (get_or table segment []) → page_at (table_bytes frames table) segment page ≡ page_of frames (get_or (get_or table segment []) page 0)
page_at-table_bytes frames table segment page within =
    ap (λ row. get_or row page []) (get_or-map_at (map (page_of frames)) table segment []) ∙ in_row (get_or table segment []) page within
  where
    in_row : (row : List ℕ) (page : ℕ) → page < length row → get_or (map (page_of frames) row) page [] ≡ page_of frames (get_or row page 0)
    in_row [] page within = absurd (omega arith)
    in_row (x ∷ row) zero within = refl
    in_row (x ∷ row) (suc page) within = in_row row page (omega arith)

-- putting back the bytes that are there
pub with_page_same : (segments : List (List (List ℕ))) (segment page : ℕ) → with_page segments segment page (page_at segments segment page) ≡ segments
with_page_same segments segment page =
    ap (set segments segment) (set-get_or (get_or segments segment []) page []) ∙ set-get_or segments segment []

-- another frame, a new frame, and fewer frames as they are seen
pub table_bytes-with_frame : (frames : FrameTable) (table : List (List ℕ)) (segment page frame : ℕ) → table_bytes frames (with_frame table segment page frame) ≡ with_page (table_bytes frames table) segment page (page_of frames frame)
table_bytes-with_frame frames table segment page frame =
    map-set (map (page_of frames)) table segment (set (get_or table segment []) page frame)
    ∙ ap (set (table_bytes frames table) segment) (map-set (page_of frames) (get_or table segment []) page frame ∙ ap (λ row. set row page (page_of frames frame)) (sym (get_or-map_at (map (page_of frames)) table segment [])))

pub table_bytes-push : (frames : FrameTable) (table : List (List ℕ)) (segment frame : ℕ) → table_bytes frames (set table segment (get_or table segment [] ++ frame ∷ [])) ≡ with_new_page (table_bytes frames table) segment (page_of frames frame)
table_bytes-push frames table segment frame =
    map-set (map (page_of frames)) table segment (get_or table segment [] ++ frame ∷ [])
    ∙ ap (set (table_bytes frames table) segment) (map-append (page_of frames) (get_or table segment []) (frame ∷ []) ∙ ap (λ row. row ++ page_of frames frame ∷ []) (sym (get_or-map_at (map (page_of frames)) table segment [])))

pub table_bytes-cut : (frames : FrameTable) (table : List (List ℕ)) (segment count : ℕ) → table_bytes frames (set table segment (take count (get_or table segment []))) ≡ with_first_pages (table_bytes frames table) segment count
table_bytes-cut frames table segment count =
    map-set (map (page_of frames)) table segment (take count (get_or table segment []))
    ∙ ap (set (table_bytes frames table) segment) (sym (take-map (page_of frames) count (get_or table segment [])) ∙ ap (take count) (sym (get_or-map_at (map (page_of frames)) table segment [])))

-- frames whose pages stay are seen as before
pub same_segment : (old new : FrameTable) (segment : List ℕ) → ((f : ℕ) → 0 < occurrences f segment → page_of new f ≡ page_of old f) → map (page_of new) segment ≡ map (page_of old) segment
same_segment old new [] stay = refl
same_segment old new (frame ∷ segment) stay =
    ap₂ ◌∷◌ (stay frame (omega (arith, occurrences-cons frame frame segment, same_yes frame frame refl))) (same_segment old new segment (λ f more. stay f (omega (arith, occurrences-cons f frame segment))))

pub same_bytes : (old new : FrameTable) (table : List (List ℕ)) → ((f : ℕ) → 0 < times f table → page_of new f ≡ page_of old f) → table_bytes new table ≡ table_bytes old table
same_bytes old new [] stay = refl
same_bytes old new (segment ∷ table) stay =
    ap₂ ◌∷◌ (same_segment old new segment (λ f more. stay f (omega (arith, times-cons f segment table)))) (same_bytes old new table (λ f more. stay f (omega (arith, times-cons f segment table))))

-- a frame that stands at one place alone is seen at this place alone
pub written_segment : (old new : FrameTable) (segment : List ℕ) (page : ℕ) → page < length segment → ((f : ℕ) → f ≢ get_or segment page 0 → page_of new f ≡ page_of old f) → occurrences (get_or segment page 0) segment ≤ 1 → map (page_of new) segment ≡ set (map (page_of old) segment) page (page_of new (get_or segment page 0))
written_segment old new [] page within stay once = absurd (omega arith)
written_segment old new (frame ∷ segment) zero within stay once =
    ap (λ rest. page_of new frame ∷ rest) (same_segment old new segment (λ f more. stay f (λ e. absurd (omega (arith, ap (λ x. occurrences x segment) e, occurrences-cons frame frame segment, same_yes frame frame refl)))))
written_segment old new (frame ∷ segment) (suc page) within stay once =
    let here = get_or segment page 0 in
    let inside : page < length segment = omega arith in
    let apart : frame ≢ here = λ e. absurd (omega (arith, occurrences-cons here frame segment, same_yes frame here e, stands_in_segment segment page inside)) in
    ap₂ ◌∷◌ (stay frame apart) (written_segment old new segment page inside stay (omega (arith, occurrences-cons here frame segment)))

pub written_table : (old new : FrameTable) (table : List (List ℕ)) (segment page : ℕ) → segment < length table → page < length (get_or table segment []) → ((f : ℕ) → f ≢ get_or (get_or table segment []) page 0 → page_of new f ≡ page_of old f) → times (get_or (get_or table segment []) page 0) table ≤ 1 → table_bytes new table ≡ with_page (table_bytes old table) segment page (page_of new (get_or (get_or table segment []) page 0))
written_table old new [] segment page there within stay once = absurd (omega arith)
written_table old new (row ∷ table) zero page there within stay once =
    let here = get_or row page 0 in
    let counted = times-cons here row table in
    let stood = stands_in_segment row page within in
    ap₂ ◌∷◌ (written_segment old new row page within stay (omega arith)) (same_bytes old new table (λ f more. stay f (λ e. absurd (omega (arith, ap (λ x. times x table) e)))))
written_table old new (row ∷ table) (suc segment) page there within stay once =
    let here = get_or (get_or table segment []) page 0 in
    let counted = times-cons here row table in
    let stood = stands table segment page (omega arith) within in
    ap₂ ◌∷◌ (same_segment old new row (λ f more. stay f (λ e. absurd (omega (arith, ap (λ x. occurrences x row) e))))) (written_table old new table segment page (omega arith) within stay (omega arith))

-- ---- children

-- a child has a frame no more often than all children
pub child_in_sum : (f : ℕ) (children : List (Option (List (List ℕ)))) (child : ℕ) → child_times f (get_or children child None) ≤ sum_by (child_times f) children
child_in_sum f children child = elim (cases_lt child (length children)) [
  | inl within ↦ get_or-le-sum_by (child_times f) children child None within
  | inr past ↦ omega (arith, ap (child_times f) (get_or_past children child None past))
]

-- frames whose pages stay are seen as before by a child
pub same_child_bytes : (old new : FrameTable) (table : Option (List (List ℕ))) → ((f : ℕ) → 0 < child_times f table → page_of new f ≡ page_of old f) → option_map (table_bytes new) table ≡ option_map (table_bytes old) table
same_child_bytes old new None stay = refl
same_child_bytes old new (Some table) stay = ap Some (same_bytes old new table stay)

-- ---- the frame of a place after a change of the table

-- a page that was there keeps its frame when a page is added
pub frame_no-with_new_frame : (table : List (List ℕ)) (segment fresh segment' page' : ℕ) → page' < length (get_or table segment' []) → get_or (get_or (with_new_frame table segment fresh) segment' []) page' 0 ≡ get_or (get_or table segment' []) page' 0
frame_no-with_new_frame table segment fresh segment' page' within = elim (cases_eq segment' segment) [
  | inl here ↦
      let there : segment < length table = elim (cases_lt segment (length table)) [
        | inl below ↦ below
        | inr past ↦ absurd (omega (arith, ap length (get_or_past table segment' [] (omega arith))))
      ] in
      ap (λ n. get_or (get_or (with_new_frame table segment fresh) n []) page' 0) here
      ∙ ap (λ row. get_or row page' 0) (get_or-set_same table segment (get_or table segment [] ++ fresh ∷ []) [] there)
      ∙ get_or_append_left (get_or table segment []) (fresh ∷ []) 0 page' (omega (arith, ap (λ n. length (get_or table n [])) here))
      ∙ ap (λ n. get_or (get_or table n []) page' 0) (sym here)
  | inr apart ↦ ap (λ row. get_or row page' 0) (get_or-set_other table segment segment' (get_or table segment [] ++ fresh ∷ []) [] apart)
]

-- the page that was added has the fresh frame
pub frame_no-new : (table : List (List ℕ)) (segment fresh : ℕ) → segment < length table → get_or (get_or (with_new_frame table segment fresh) segment []) (length (get_or table segment [])) 0 ≡ fresh
frame_no-new table segment fresh there =
    let row = get_or table segment [] in
    ap (λ r. get_or r (length row) 0) (get_or-set_same table segment (row ++ fresh ∷ []) [] there) ∙ get_or_push row fresh 0 (length row) refl

-- a page that is there still keeps its frame when a segment is cut
pub frame_no-with_first_frames : (table : List (List ℕ)) (segment count segment' page' : ℕ) → segment < length table → page' < length (get_or (with_first_frames table segment count) segment' []) → get_or (get_or (with_first_frames table segment count) segment' []) page' 0 ≡ get_or (get_or table segment' []) page' 0
frame_no-with_first_frames table segment count segment' page' there within = elim (cases_eq segment' segment) [
  | inl here ↦
      let row = get_or table segment [] in
      let cut : get_or (with_first_frames table segment count) segment' [] ≡ take count row = ap (λ n. get_or (with_first_frames table segment count) n []) here ∙ get_or-set_same table segment (take count row) [] there in
      let short : page' < length (take count row) = omega (arith, ap length cut) in
      ap (λ r. get_or r page' 0) cut
      ∙ get_or-take count row page' 0 (omega (arith, length-take count row))
      ∙ ap (λ n. get_or (get_or table n []) page' 0) (sym here)
  | inr apart ↦ ap (λ row. get_or row page' 0) (get_or-set_other table segment segment' (take count (get_or table segment [])) [] apart)
]
