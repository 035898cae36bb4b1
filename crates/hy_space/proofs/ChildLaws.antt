-- What each change of a child's pages does to the counts, and to what the owner and the other children see.
use Rattle.std.proofs.Common.{◌≡◌, ◌≢◌, ℕ, zero, suc, false, ◌+◌, ◌<◌, ◌≤◌, inl, inr, List, [], ◌∷◌, length, get_or, drop, set, refl, sym, ap, ◌∙◌, subst, arith, sum_by, Option, Some, None, IsSomeAnd}
use Rattle.std.specs.Option.{option_map}
use Rattle.std.proofs.lemmas.List.{get_or_past, get_or_default, get_or-set_other, get_or-set_same, set-get_or}
use Rattle.std.proofs.lemmas.List.Sums.{sum_by-set}
use Rattle.std.proofs.lemmas.Bool.{cases_lt, cases_eq}
use Rattle.hy_frames.specs.FrameTable.{Frame, FrameTable, count_of, page_of, Sets, occurrences}
use Rattle.hy_space.specs.Space.{SpaceState, DropsUsers, MovesUser, child_times, times, table_bytes, owner_bytes, child_table, child_bytes, with_frame, with_page, with_first_frames, with_first_pages}
use Rattle.hy_space.specs.inside.Users.{IsCounted}
use Rattle.hy_space.proofs.UserLaws.{same, same_yes, same_no}
use Rattle.hy_space.proofs.TableLaws.{stands, times-with_frame, times-cut, table_bytes-with_frame, table_bytes-cut, same_bytes, same_child_bytes, written_table, child_in_sum, page_at-table_bytes, with_page_same}

-- an open child has its place
pub open_within : (children : List (Option (List (List ℕ)))) (child : ℕ) (table : List (List ℕ)) → get_or children child None ≡ Some table → child < length children
open_within children child table is_table = elim (cases_lt child (length children)) [
  | inl below ↦ below
  | inr past ↦ let none : None ≡ Some table = sym (get_or_past children child None past) ∙ is_table in absurd (cc)
]

-- the table in the place of an open child, and what is known of it
pub opened : (children : List (Option (List (List ℕ)))) (child : ℕ) (P : List (List ℕ) → Type 0) (slot : Option (List (List ℕ))) (table : List (List ℕ)) → IsSomeAnd (get_or children child None) P → slot ≡ get_or children child slot → slot ≡ Some table → (get_or children child None ≡ Some table) × P table
opened children child P slot table known read is = elim (cases_lt child (length children)) [
  | inl below ↦
      let e : get_or children child None ≡ Some table = sym (get_or_default children child slot None below) ∙ sym read ∙ is in
      (e, subst (λ o. IsSomeAnd o P) e known)
  | inr past ↦ absurd (subst (λ o. IsSomeAnd o P) (get_or_past children child None past) known)
]

-- the last of two writes at one place stays
pub set-set : {A : Type 0} → (xs : List A) (i : ℕ) (x y : A) → set (set xs i x) i y ≡ set xs i y
set-set [] i x y = refl
set-set (z ∷ xs) zero x y = refl
set-set (z ∷ xs) (suc i) x y = ap (λ rest. z ∷ rest) (set-set xs i x y)

-- the frame that was put at a place stands there
pub frame-with_frame : (table : List (List ℕ)) (segment page frame : ℕ) → segment < length table → page < length (get_or table segment []) → get_or (get_or (with_frame table segment page frame) segment []) page 0 ≡ frame
frame-with_frame table segment page frame there inside =
    ap (λ row. get_or row page 0) (get_or-set_same table segment (set (get_or table segment []) page frame) [] there) ∙ get_or-set_same (get_or table segment []) page frame 0 inside

-- the counts after a user of one frame moved to another
counts_moved : (old new : FrameTable) (from to : ℕ) → MovesUser old new from to → (f : ℕ) → count_of new f + same from f ≡ count_of old f + same to f
counts_moved old new from to moves f =
    let apart : from ≢ to = λ e. absurd (omega (arith, ap (count_of old) e, moves.unused, moves.left)) in
    elim (cases_eq f from) [
      | inl here ↦ omega (arith, ap (count_of new) here, ap (count_of old) here, moves.left, same_yes from f (sym here), same_no to f (λ e. apart (sym (e ∙ here))))
      | inr other ↦ elim (cases_eq f to) [
        | inl there ↦ omega (arith, ap (count_of new) there, ap (count_of old) there, moves.here, moves.unused, same_no from f (λ e. other (sym e)), same_yes to f (sym there))
        | inr neither ↦ omega (arith, moves.others f other neither, same_no from f (λ e. other (sym e)), same_no to f (λ e. neither (sym e)))
      ]
    ]

-- the counts are right, and only this child may see other bytes
pub record IsChildKept (page_size : ℕ) (old new : SpaceState) (child : ℕ) : Type 0 where
  pub counted : IsCounted page_size new
  pub owner : owner_bytes new ≡ owner_bytes old
  pub tables : (other : ℕ) → other ≢ child → child_table new other ≡ child_table old other
  pub others : (other : ℕ) → other ≢ child → child_bytes new other ≡ child_bytes old other

module _ (page_size : ℕ) (s : SpaceState) (counted : IsCounted page_size s) (child : ℕ) (table : List (List ℕ)) (is_table : child_table s child ≡ Some table) where
  within : child < length s.children
  within = open_within s.children child table is_table

  -- users of the child's table and of all others
  parts : (f : ℕ) (new_table : Option (List (List ℕ))) → sum_by (child_times f) (set s.children child new_table) + times f table ≡ sum_by (child_times f) s.children + child_times f new_table
  parts f new_table = omega (arith, sum_by-set (child_times f) s.children child new_table None within, ap (child_times f) is_table)

  child_counted : (f : ℕ) → times f table ≤ count_of s.frames f
  child_counted f = omega (arith, counted.exact f, child_in_sum f s.children child, ap (child_times f) is_table)

  once : (f : ℕ) → times f table ≤ 1
  once f = omega (arith, counted.child_once f child, ap (child_times f) is_table)

  -- a change of the child's table and of the frames, by which users come and go at this table alone
  kept : (new_table : List (List ℕ)) (new : FrameTable) → ((f : ℕ) → count_of new f + times f table ≡ count_of s.frames f + times f new_table) → ((f : ℕ) → times f new_table ≤ 1) → ((f : ℕ) → times f table + 1 ≤ count_of s.frames f → page_of new f ≡ page_of s.frames f) → IsChildKept page_size s (record { owner = s.owner; children = set s.children child (Some new_table); frames = new }) child
  kept new_table new counts new_once stay =
      let children = set s.children child (Some new_table) in
      let new_state : SpaceState = record { owner = s.owner; children = children; frames = new } in
      let read : (other : ℕ) → other ≢ child → get_or children other None ≡ child_table s other = λ other apart. get_or-set_other s.children child other (Some new_table) None apart in
      record {
        counted = record {
          exact = λ f. omega (arith, counts f, counted.exact f, parts f (Some new_table));
          owner_once = counted.owner_once;
          child_once = λ f other. elim (cases_eq other child) [
            | inl here ↦ omega (arith, ap (λ n. child_times f (get_or children n None)) here, ap (child_times f) (get_or-set_same s.children child (Some new_table) None within), new_once f)
            | inr apart ↦ omega (arith, ap (child_times f) (read other apart), counted.child_once f other)
          ];
          largest = counted.largest;
          segments = counted.segments;
        };
        owner = same_bytes s.frames new s.owner (λ f more. stay f (omega (arith, counted.exact f, child_in_sum f s.children child, ap (child_times f) is_table)));
        tables = read;
        others = λ other apart.
            ap (option_map (table_bytes new)) (read other apart)
            ∙ same_child_bytes s.frames new (child_table s other) (λ f more. stay f (omega (arith, counted.exact f, parts f None, child_in_sum f (set s.children child None) other, ap (child_times f) (get_or-set_other s.children child other None None apart))));
      }

  module _ (segment page : ℕ) (there : segment < length table) (inside : page < length (get_or table segment [])) where
    frame : ℕ
    frame = get_or (get_or table segment []) page 0

    -- a page of the child moves to a frame of its own
    pub child_moved : (fresh : ℕ) (new : FrameTable) → MovesUser s.frames new (get_or (get_or table segment []) page 0) fresh → (IsChildKept page_size s (record { owner = s.owner; children = set s.children child (Some (with_frame table segment page fresh)); frames = new }) child) × (table_bytes new (with_frame table segment page fresh) ≡ table_bytes s.frames table)
    child_moved fresh new moves =
        let from = get_or (get_or table segment []) page 0 in
        let counts = counts_moved s.frames new from fresh moves in
        let new_once : (f : ℕ) → times f (with_frame table segment page fresh) ≤ 1 = λ f. elim (cases_eq f fresh) [
          | inl here ↦ omega (arith, times-with_frame f table segment page fresh there inside, child_counted f, ap (count_of s.frames) here, moves.unused, same_yes fresh f (sym here))
          | inr apart ↦ omega (arith, times-with_frame f table segment page fresh there inside, once f, same_no fresh f (λ e. apart (sym e)))
        ] in (
          kept (with_frame table segment page fresh) new (λ f. omega (arith, counts f, times-with_frame f table segment page fresh there inside)) new_once (λ f used. moves.pages f (omega arith)),
          table_bytes-with_frame new table segment page fresh
              ∙ ap (λ all. with_page all segment page (page_of new fresh)) (same_bytes s.frames new table (λ f more. moves.pages f (omega (arith, child_counted f))))
              ∙ ap (with_page (table_bytes s.frames table) segment page) (moves.copied ∙ sym (page_at-table_bytes s.frames table segment page inside))
              ∙ with_page_same (table_bytes s.frames table) segment page,
        )

    -- a page that the child alone has is written
    pub child_written : (new : FrameTable) (bytes : List ℕ) → count_of s.frames (get_or (get_or table segment []) page 0) ≡ 1 → Sets s.frames new (get_or (get_or table segment []) page 0) (record { count = 1; bytes = bytes; lent = false }) → (IsChildKept page_size s (record { owner = s.owner; children = s.children; frames = new }) child) × (table_bytes new table ≡ with_page (table_bytes s.frames table) segment page bytes) × ((f : ℕ) → count_of new f ≡ count_of s.frames f)
    child_written new bytes own sets =
        let from = get_or (get_or table segment []) page 0 in
        let stood = stands table segment page there inside in
        let counts : (f : ℕ) → count_of new f ≡ count_of s.frames f = λ f. elim (cases_eq f from) [
          | inl here ↦ ap (count_of new) here ∙ ap (λ (x : Frame). x.count) sets.here ∙ sym own ∙ ap (count_of s.frames) (sym here)
          | inr apart ↦ ap (λ (x : Frame). x.count) (sets.others f apart)
        ] in
        let stay : (f : ℕ) → f ≢ from → page_of new f ≡ page_of s.frames f = λ f apart. ap (λ (x : Frame). x.bytes) (sets.others f apart) in
        let only : (f : ℕ) → times f table + 1 ≤ count_of s.frames f → f ≢ from = λ f more e. absurd (omega (arith, own, ap (count_of s.frames) e, ap (λ n. times n table) e)) in
        let back : set s.children child (Some table) ≡ s.children = ap (set s.children child) (sym is_table) ∙ set-get_or s.children child None in
        let done = kept table new (λ f. omega (arith, counts f)) once (λ f more. stay f (only f more)) in (
          subst (λ all. IsChildKept page_size s (record { owner = s.owner; children = all; frames = new }) child) back done,
          written_table s.frames new table segment page there inside stay (once from) ∙ ap (λ (x : Frame). with_page (table_bytes s.frames table) segment page x.bytes) sets.here,
          counts,
        )

  -- the frames at the end of a segment of the child are given up
  pub child_trimmed : (segment count : ℕ) (new : FrameTable) → segment < length table → DropsUsers s.frames new (λ f. occurrences f (drop count (get_or table segment []))) → (IsChildKept page_size s (record { owner = s.owner; children = set s.children child (Some (with_first_frames table segment count)); frames = new }) child) × (table_bytes new (with_first_frames table segment count) ≡ with_first_pages (table_bytes s.frames table) segment count)
  child_trimmed segment count new there drops =
      let short = with_first_frames table segment count in
      let cut : (f : ℕ) → times f short + occurrences f (drop count (get_or table segment [])) ≡ times f table = λ f. times-cut f table segment count there in (
        kept short new (λ f. omega (arith, drops.counts f, cut f)) (λ f. omega (arith, cut f, once f)) (λ f used. drops.pages f (omega (arith, drops.counts f, cut f))),
        same_bytes s.frames new short (λ f more. drops.pages f (omega (arith, drops.counts f, cut f, child_counted f, once f))) ∙ table_bytes-cut s.frames table segment count,
      )
