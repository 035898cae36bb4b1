-- What cutting a child does to its table and to the users of frames.
use Rattle.std.proofs.Common.{◌≡◌, ◌≢◌, ℕ, zero, suc, ◌+◌, ◌-◌, ◌<◌, ◌≤◌, false, inl, inr, List, [], ◌∷◌, length, get_or, take, drop, map, refl, sym, ap, ◌∙◌, subst, arith, Some, unwrap_or, IsSomeAnd, length-set, length-drop, get_or-set_same, get_or-set_other}
use Rattle.std.specs.Option.{option_map}
use Rattle.std.proofs.lemmas.List.{get_or-drop, length-take-le, length-map}
use Rattle.std.proofs.lemmas.List.Sums.{sum_by-cons}
use Rattle.std.proofs.lemmas.Bool.{cases_lt, cases_eq, ltb-true, ltb-false}
use Rattle.hy_frames.specs.FrameTable.{Frame, FrameTable, empty_frame, count_of, lent_at, page_of, in_use, free_of, occurrences}
use Rattle.hy_frames.proofs.FrameLaws.{above, above_yes, count_above}
use Rattle.hy_space.specs.Space.{SpaceState, HasPage, SameForOwner, SameForOthers, DropsUsers, times, table_bytes, child_table, child_bytes, child_frame_no, frame_no, page_count, with_first_frames, with_first_pages}
use Rattle.hy_space.proofs.TableLaws.{stands, stands_in_segment, times-cut, frame_no-with_first_frames, get_or-map_at}
use Rattle.hy_undo.specs.UndoLog.{UndoLog, first_pages}
use Rattle.hy_undo.specs.Touched.{PageAddress, was_there}
use Rattle.hy_undo.specs.inside.Fork.{rows_of, child_pages, IsBeside, SharesGrown, ChangesChild, IsApart, IsSplit, AllSplit}
use Rattle.hy_undo.proofs.UndoneLaws.{first_pages-more}
use Rattle.hy_undo.proofs.SplitLaws.{ChangesChild-same, ChangesChild-then, HasPage-same}

-- ---- frames in use

-- where each frame with users has users in another table too, that one has as many frames in use at least
count_above-le : (xs ys : List Frame) → ((f : ℕ) → 0 < (get_or xs f empty_frame).count → 0 < (get_or ys f empty_frame).count) → count_above 0 xs ≤ count_above 0 ys
count_above-le [] ys used = omega arith
count_above-le (x ∷ xs) [] used = omega (arith, sum_by-cons (λ (frame : Frame). above 0 frame.count) x xs, none x.count (λ more. used 0 more), count_above-le xs [] (λ f more. used (suc f) more))
  where
    none : (n : ℕ) → (0 < n → 0 < 0) → above 0 n ≡ 0
    none zero more = refl
    none (suc n) more = absurd (omega (arith, more (omega arith)))
count_above-le (x ∷ xs) (y ∷ ys) used = omega (
  arith,
  sum_by-cons (λ (frame : Frame). above 0 frame.count) x xs,
  sum_by-cons (λ (frame : Frame). above 0 frame.count) y ys,
  more x.count y.count (used 0),
  count_above-le xs ys (λ f more. used (suc f) more),
)
  where
    more : (n m : ℕ) → (0 < n → 0 < m) → above 0 n ≤ above 0 m
    more zero m yes' = omega arith
    more (suc n) zero yes' = absurd (omega (arith, yes' (omega arith)))
    more (suc n) (suc m) yes' = omega (arith, above_yes 0 (suc n) (omega arith), above_yes 0 (suc m) (omega arith))

-- where the same frames have users, as many are free
pub same_free : (old new : FrameTable) → ((f : ℕ) → 0 < count_of old f → 0 < count_of new f) → ((f : ℕ) → 0 < count_of new f → 0 < count_of old f) → new.max ≡ old.max → free_of new ≡ free_of old
same_free old new still only limit =
    let used : in_use new ≡ in_use old = omega (arith, count_above-le old.frames new.frames still, count_above-le new.frames old.frames only) in
    omega arith

-- ---- what a child sees

pub child_pages-open : (s : SpaceState) (child : ℕ) → child_table s child ≡ Some (rows_of s child) → (child_bytes s child ≡ Some (child_pages s child)) × (child_pages s child ≡ table_bytes s.frames (rows_of s child))
child_pages-open s child is_open =
    let bytes : child_bytes s child ≡ Some (table_bytes s.frames (rows_of s child)) = ap (option_map (table_bytes s.frames)) is_open in
    let pages : child_pages s child ≡ table_bytes s.frames (rows_of s child) = ap (λ o. unwrap_or o []) bytes in
    (bytes ∙ ap Some (sym pages), pages)

pub child_pages-mapped : (old new : SpaceState) (child : ℕ) (h : List (List (List ℕ)) → List (List (List ℕ))) → child_table old child ≡ Some (rows_of old child) → child_bytes new child ≡ option_map h (child_bytes old child) → child_pages new child ≡ h (child_pages old child)
child_pages-mapped old new child h is_open bytes = ap (λ o. unwrap_or o []) (bytes ∙ ap (option_map h) (child_pages-open old child is_open).0)

pub length-child_pages : (s : SpaceState) (child segment : ℕ) → child_table s child ≡ Some (rows_of s child) → length (get_or (child_pages s child) segment []) ≡ length (get_or (rows_of s child) segment [])
length-child_pages s child segment is_open =
    ap (λ all. length (get_or all segment [])) (child_pages-open s child is_open).1
    ∙ ap length (get_or-map_at (map (page_of s.frames)) (rows_of s child) segment [])
    ∙ length-map (get_or (rows_of s child) segment []) (page_of s.frames)

-- ---- one segment

-- a frame behind the first ones of a segment stands there
stands_behind : (row : List ℕ) (n page : ℕ) → n ≤ page → page < length row → 1 ≤ occurrences (get_or row page 0) (drop n row)
stands_behind row n page behind within =
    let there = stands_in_segment (drop n row) (page - n) (omega (arith, length-drop n row)) in
    let at : n + (page - n) ≡ page = omega arith in
    let read : get_or (drop n row) (page - n) 0 ≡ get_or row page 0 = get_or-drop n row (page - n) 0 ∙ ap (λ i. get_or row i 0) at in
    subst (λ (f : ℕ). 1 ≤ occurrences f (drop n row)) read there

module _ (counts : List ℕ) (now next : SpaceState) (child segment : ℕ) (beside : IsBeside now child) (there : segment < length now.owner) (shares : SharesGrown counts now child segment) (few : get_or counts segment 0 ≤ page_count now segment) (table : child_table next child ≡ option_map (λ t. with_first_frames t segment (get_or counts segment 0)) (child_table now child)) (owner : SameForOwner now next) (others : SameForOthers now next child) (users : DropsUsers now.frames next.frames (λ f. occurrences f (drop (get_or counts segment 0) (get_or (rows_of now child) segment [])))) where
  abbrev n : ℕ
  n = get_or counts segment 0

  abbrev rows : List (List ℕ)
  rows = rows_of now child

  opened : child_table next child ≡ Some (with_first_frames rows segment n)
  opened = table ∙ ap (option_map (λ t. with_first_frames t segment n)) beside.is_open

  rows_next : rows_of next child ≡ with_first_frames rows segment n
  rows_next = ap (λ o. unwrap_or o []) opened

  in_rows : segment < length rows
  in_rows = omega (arith, there, beside.segments)

  fewer : (f : ℕ) → times f (rows_of next child) + occurrences f (drop n (get_or rows segment [])) ≡ times f rows
  fewer f = omega (arith, ap (times f) rows_next, times-cut f rows segment n in_rows)

  cut_users : (f : ℕ) → times f next.owner + times f (rows_of next child) ≤ count_of next.frames f
  cut_users f = omega (arith, beside.users f, fewer f, users.counts f, ap (times f) owner.table)

  pub cut_changes : ChangesChild now next child
  cut_changes = record {
    owner = owner;
    others = others;
    counts = λ f. omega (arith, fewer f, users.counts f);
    lent = λ f used. users.lent f (omega (arith, fewer f, users.counts f));
    limit = users.limit;
  }

  pub cut_beside : IsBeside next child
  cut_beside = record {
    is_open = opened ∙ ap Some (sym rows_next);
    users = cut_users;
    owner_once = λ f. omega (arith, beside.owner_once f, ap (times f) owner.table);
    once = λ f. omega (arith, beside.once f, fewer f);
    segments = ap length rows_next ∙ length-set rows segment (take n (get_or rows segment [])) ∙ beside.segments ∙ sym (ap length owner.table);
  }

  -- no frame is freed, since the owner has those that the child gives up
  pub cut_free : free_of next.frames ≡ free_of now.frames
  cut_free =
      same_free now.frames next.frames
      (λ f used. elim (cases_lt 0 (occurrences f (drop n (get_or rows segment [])))) [
        | inl dropped ↦
            let owned = times-cut f now.owner segment n there in
            omega (arith, cut_users f, ap (times f) owner.table, ap (occurrences f) shares.grown)
        | inr stays ↦ omega (arith, users.counts f)
      ])
      (λ f used. omega (arith, users.counts f)) users.limit

  pub row_here : length (get_or (rows_of next child) segment []) ≡ n
  row_here =
      ap (λ all. length (get_or all segment [])) rows_next
      ∙ ap length (get_or-set_same rows segment (take n (get_or rows segment [])) [] in_rows)
      ∙ length-take-le n (get_or rows segment []) (omega (arith, shares.pages))

  pub row_other : (s : ℕ) → s ≢ segment → get_or (rows_of next child) s [] ≡ get_or rows s []
  row_other s apart = ap (λ all. get_or all s []) rows_next ∙ get_or-set_other rows segment s (take n (get_or rows segment [])) [] apart

  frame_stays : (s p : ℕ) → frame_no next s p ≡ frame_no now s p
  frame_stays s p = ap (λ all. get_or (get_or all s []) p 0) owner.table

  -- a page that the child gave up is the owner's alone
  pub apart_here : (p : ℕ) → n ≤ p → p < page_count now segment → IsApart next child (record { segment = segment; page = p })
  apart_here p behind within =
      let f = frame_no now segment p in
      let there = stands_behind (get_or now.owner segment []) n p behind within in
      omega (arith, ap (λ x. times x (rows_of next child)) (frame_stays segment p), fewer f, beside.once f, ap (occurrences f) shares.grown)

  pub apart_kept : (q : PageAddress) → IsApart now child q → IsApart next child q
  apart_kept q apart = omega (arith, apart, ap (λ x. times x (rows_of next child)) (frame_stays q.segment q.page), fewer (frame_no now q.segment q.page))

  -- a split page stays split
  pub split_kept : (q : PageAddress) → q.segment < length now.owner → q.page < length (get_or (rows_of next child) q.segment []) → IsSplit now child q → IsSplit next child q
  split_kept q has within split =
      let g = child_frame_no now child q.segment q.page in
      let inside : q.page < length (get_or (with_first_frames rows segment n) q.segment []) = subst (λ (all : List (List ℕ)). q.page < length (get_or all q.segment [])) rows_next within in
      let read : child_frame_no next child q.segment q.page ≡ g = ap (λ all. get_or (get_or all q.segment []) q.page 0) rows_next ∙ frame_no-with_first_frames rows segment n q.segment q.page in_rows inside in
      let stood = stands (rows_of next child) q.segment q.page (omega (arith, has, cut_beside.segments, ap length owner.table)) within in
      let one : 1 ≤ times g (rows_of next child) = omega (arith, stood, ap (λ x. times x (rows_of next child)) read) in
      record {
        apart = apart_kept q split.apart;
        private = record {
          own = omega (arith, ap (count_of next.frames) read, users.counts g, split.private.own, cut_users g);
          not_lent = ap (lent_at next.frames) read ∙ users.lent g (omega (arith, cut_users g)) ∙ split.private.not_lent;
        };
      }

-- ---- segment by segment

-- the segments before one have their first pages only
pub record IsCutUpTo (log : UndoLog) (begin now : SpaceState) (child k : ℕ) : Type 0 where
  pub changes : ChangesChild begin now child
  pub beside : IsBeside now child
  pub bytes : child_pages now child ≡ first_pages (take k log.counts) (child_pages begin child)
  pub short : (s : ℕ) → s < k → length (get_or (rows_of now child) s []) ≡ get_or log.counts s 0
  pub shares : (s : ℕ) → k ≤ s → SharesGrown log.counts now child s
  pub split : AllSplit log now child
  pub apart : (q : PageAddress) → q.segment < k → HasPage now q.segment q.page → was_there log.counts q ≡ false → IsApart now child q
  pub free : free_of now.frames ≡ free_of begin.frames

pub cut_begin : (log : UndoLog) (s : SpaceState) (child : ℕ) → IsBeside s child → ((segment : ℕ) → SharesGrown log.counts s child segment) → AllSplit log s child → IsCutUpTo log s s child 0
cut_begin log s child beside shares split = record {
  changes = ChangesChild-same s child;
  beside = beside;
  bytes = refl;
  short = λ s below. absurd (omega arith);
  shares = λ s _. shares s;
  split = split;
  apart = λ q below. absurd (omega arith);
  free = refl;
}

pub cut_next : (log : UndoLog) (begin now next : SpaceState) (child k : ℕ) → k < length now.owner → k < length log.counts → get_or log.counts k 0 ≤ page_count now k → child_table next child ≡ option_map (λ t. with_first_frames t k (get_or log.counts k 0)) (child_table now child) → child_bytes next child ≡ option_map (λ all. with_first_pages all k (get_or log.counts k 0)) (child_bytes now child) → SameForOwner now next → SameForOthers now next child → DropsUsers now.frames next.frames (λ f. occurrences f (drop (get_or log.counts k 0) (get_or (rows_of now child) k []))) → IsCutUpTo log begin now child k → IsCutUpTo log begin next child (k + 1)
cut_next log begin now next child k there counted few table bytes owner others users before =
    let counts = log.counts in
    let beside = before.beside in
    let shares = before.shares k (omega arith) in
    let here = row_here counts now next child k beside there shares few table owner others users in
    let other = row_other counts now next child k beside there shares few table owner others users in
    let place_now : (q : PageAddress) → HasPage next q.segment q.page → HasPage now q.segment q.page = λ q address. HasPage-same next now q.segment q.page (sym owner.table) address in
    record {
      changes = ChangesChild-then begin now next child before.changes (cut_changes counts now next child k beside there shares few table owner others users);
      beside = cut_beside counts now next child k beside there shares few table owner others users;
      bytes =
          child_pages-mapped now next child (λ all. with_first_pages all k (get_or counts k 0)) beside.is_open bytes
          ∙ ap (λ all. with_first_pages all k (get_or counts k 0)) before.bytes
          ∙ sym (first_pages-more counts (child_pages begin child) k counted);
      short = λ s below. elim (cases_eq s k) [
        | inl is ↦ ap (λ x. length (get_or (rows_of next child) x [])) is ∙ here ∙ sym (ap (λ x. get_or counts x 0) is)
        | inr apart ↦ ap length (other s apart) ∙ before.short s (omega arith)
      ];
      shares = λ s above.
          let apart : s ≢ k = omega arith in
          let was = before.shares s (omega arith) in
          record {
            pages = ap length (other s apart) ∙ was.pages ∙ sym (ap (λ all. length (get_or all s [])) owner.table);
            grown = ap (drop (get_or counts s 0)) (other s apart) ∙ was.grown ∙ sym (ap (λ all. drop (get_or counts s 0) (get_or all s [])) owner.table);
          };
      split = λ q address was among.
          let place_before = place_now q address in
          let below : q.page < get_or counts q.segment 0 = ltb-true q.page (get_or counts q.segment 0) was in
          let within : q.page < length (get_or (rows_of next child) q.segment []) = elim (cases_eq q.segment k) [
            | inl is ↦ omega (arith, below, ap (λ x. length (get_or (rows_of next child) x [])) is, here, ap (λ x. get_or counts x 0) is)
            | inr apart ↦ elim (cases_lt q.segment k) [
              | inl under ↦ omega (arith, below, ap length (other q.segment apart), before.short q.segment under)
              | inr over ↦ omega (arith, place_before.1, ap length (other q.segment apart), (before.shares q.segment over).pages)
            ]
          ] in
          split_kept counts now next child k beside there shares few table owner others users q place_before.0 within (before.split q place_before was among);
      apart = λ q under address not_there. elim (cases_eq q.segment k) [
        | inl is ↦
            let behind : get_or counts k 0 ≤ q.page = omega (arith, ltb-false q.page (get_or counts q.segment 0) not_there, ap (λ x. get_or counts x 0) is) in
            let inside : q.page < page_count now k = omega (arith, (place_now q address).1, ap (λ x. page_count now x) is) in
            subst (λ (x : ℕ). IsApart next child (record { segment = x; page = q.page })) (sym is) (apart_here counts now next child k beside there shares few table owner others users q.page behind inside)
        | inr apart ↦ apart_kept counts now next child k beside there shares few table owner others users q (before.apart q (omega arith) (place_now q address) not_there)
      ];
      free = cut_free counts now next child k beside there shares few table owner others users ∙ before.free;
    }

pub cut_allowed : (log : UndoLog) (begin now : SpaceState) (child k : ℕ) → k < length now.owner → get_or log.counts k 0 ≤ page_count now k → IsCutUpTo log begin now child k → IsSomeAnd (child_table now child) (λ table. (k < length table) × (get_or log.counts k 0 ≤ length (get_or table k [])))
cut_allowed log begin now child k there few before =
    let P = λ (table : List (List ℕ)). (k < length table) × (get_or log.counts k 0 ≤ length (get_or table k [])) in
    let inside : P (rows_of now child) = (omega (arith, there, before.beside.segments), omega (arith, few, (before.shares k (omega arith)).pages)) in
    subst (λ o. IsSomeAnd o P) (sym before.beside.is_open) inside
