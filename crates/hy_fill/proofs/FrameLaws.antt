-- Where no child is open, each frame in use is a page of the owner, and the owner's pages are those of its rows.
use Rattle.std.proofs.Common.{◌≡◌, ℕ, zero, suc, ◌+◌, ◌<◌, ◌≤◌, inl, inr, List, [], ◌∷◌, Option, length, get_or, map, drop, refl, ap, ◌∙◌, arith, lit≤, count_by, sum_by, option_to_list}
use Rattle.std.specs.List.{flat_map}
use Rattle.std.proofs.lemmas.Bool.{cases_eq, cases_lt}
use Rattle.std.proofs.lemmas.List.{length-drop, length-map}
use Rattle.std.proofs.lemmas.List.Sums.{sum_by-cons}
use Rattle.hy_frames.specs.FrameTable.{Frame, count_of, empty_frame, free_of, in_use, occurrences, page_of}
use Rattle.hy_frames.proofs.FrameLaws.{above, above_no, above_yes}
use Rattle.hy_rows.specs.Spelling.{least_page, list_at, used_slots}
use Rattle.hy_rows.specs.Tables.{Tables}
use Rattle.hy_space.specs.Space.{CountsAreExact, IsSound, SpaceState, maps, owner_bytes, times}
use Rattle.hy_space.proofs.TableLaws.{occurrences-cons, times-cons}
use Rattle.hy_space.proofs.UserLaws.{same, same_no, same_yes}
use Rattle.hy_relation.specs.Relation.{HasFewPages}
use Rattle.hy_relation.proofs.SlotLaws.{end-sorted}
use Rattle.hy_indexes.specs.of_store.Pages.{HasPagesUpTo, index_pages, row_pages}
use Rattle.hy_indexes.specs.of_store.Stored.{all_segments}
use Rattle.hy_indexes.specs.of_store.inside.Places.{by_all_places}
use Rattle.hy_fill.specs.Frames.{frames_for, most_of}

-- ---- sums over the first numbers

abbrev sum_first : ℕ → (ℕ → ℕ) → ℕ
sum_first zero g = 0
sum_first (suc n) g = g 0 + sum_first n (λ k. g (suc k))

first-le : (n : ℕ) (g h : ℕ → ℕ) → ((k : ℕ) → g k ≤ h k) → sum_first n g ≤ sum_first n h
first-le zero g h less = omega arith
first-le (suc n) g h less = omega (arith, less 0, first-le n (λ k. g (suc k)) (λ k. h (suc k)) (λ k. less (suc k)))

first-add : (n : ℕ) (g h : ℕ → ℕ) → sum_first n (λ k. g k + h k) ≡ sum_first n g + sum_first n h
first-add zero g h = refl
first-add (suc n) g h = omega (arith, first-add n (λ k. g (suc k)) (λ k. h (suc k)))

first-none : (n : ℕ) (g : ℕ → ℕ) → ((k : ℕ) → g k ≡ 0) → sum_first n g ≡ 0
first-none zero g none = refl
first-none (suc n) g none = omega (arith, none 0, first-none n (λ k. g (suc k)) (λ k. none (suc k)))

-- a number counts once
next-same : (frame k : ℕ) → same (suc frame) (suc k) ≤ same frame k
next-same frame k = elim (cases_eq frame k) [
  | inl is ↦ omega (arith, same_yes frame k is, same_yes (suc frame) (suc k) (ap suc is))
  | inr apart ↦ omega (arith, same_no (suc frame) (suc k) (λ is. apart (omega (arith, is))))
]

first-same : (n frame : ℕ) → sum_first n (λ k. same frame k) ≤ 1
first-same zero frame = omega arith
first-same (suc n) zero = omega (
  arith,
  same_yes 0 0 refl,
  first-none n (λ k. same 0 (suc k)) (λ k. same_no 0 (suc k) (λ is. absurd (omega (arith, is)))),
)
first-same (suc n) (suc frame) = omega (
  arith,
  same_no (suc frame) 0 (λ is. absurd (omega (arith, is))),
  first-le n (λ k. same (suc frame) (suc k)) (λ k. same frame k) (next-same frame),
  first-same n frame,
)

-- ---- the pages of a table

abbrev pages_in : {Page : Type 0} → List (List Page) → ℕ
pages_in [] = 0
pages_in (segment ∷ table) = length segment + pages_in table

-- the frames of a segment are no more than its pages
first-occurrences : (n : ℕ) (segment : List ℕ) → sum_first n (λ f. occurrences f segment) ≤ length segment
first-occurrences n [] = omega (arith, first-none n (λ f. occurrences f []) (λ f. refl))
first-occurrences n (frame ∷ segment) = omega (
  arith,
  first-le n (λ f. occurrences f (frame ∷ segment)) (λ f. same frame f + occurrences f segment) (λ f. omega (arith, occurrences-cons f frame segment)),
  first-add n (λ f. same frame f) (λ f. occurrences f segment),
  first-same n frame,
  first-occurrences n segment,
)

first-times : (n : ℕ) (table : List (List ℕ)) → sum_first n (λ f. times f table) ≤ pages_in table
first-times n [] = omega (arith, first-none n (λ f. times f []) (λ f. refl))
first-times n (segment ∷ table) = omega (
  arith,
  first-le n (λ f. times f (segment ∷ table)) (λ f. occurrences f segment + times f table) (λ f. omega (arith, times-cons f segment table)),
  first-add n (λ f. occurrences f segment) (λ f. times f table),
  first-occurrences n segment,
  first-times n table,
)

-- the used frames are no more than a sum that has one for each
used-first : (frames : List Frame) (g : ℕ → ℕ) → ((f : ℕ) → 0 < (get_or frames f empty_frame).count → 1 ≤ g f)
    → sum_by (λ frame. above 0 frame.count) frames ≤ sum_first (length frames) g
used-first [] g each = omega arith
used-first (frame ∷ frames) g each =
    let rest = used-first frames (λ k. g (suc k)) (λ k some. each (suc k) some) in
    let all : sum_by (λ (x : Frame). above 0 x.count) (frame ∷ frames) ≡ above 0 frame.count + sum_by (λ (x : Frame). above 0 x.count) frames = sum_by-cons (λ (x : Frame). above 0 x.count) frame frames in
    elim (cases_lt 0 frame.count) [
      | inl used ↦ omega (arith, all, rest, above_yes 0 frame.count used, each 0 used)
      | inr none ↦ omega (arith, all, rest, above_no 0 frame.count none)
    ]

-- ---- the frames in use

-- without a child, a used frame is one of the owner's
owner-has : (counts : ℕ) (f : ℕ) (owner : List (List ℕ)) → counts ≡ count_by (maps f) (owner ∷ []) → 0 < counts → 1 ≤ times f owner
owner-has counts f owner exact used =
    let one : count_by (maps f) (owner ∷ []) ≡ above 0 (times f owner) + 0 = sum_by-cons (λ table. above 0 (times f table)) owner [] in
    elim (cases_lt 0 (times f owner)) [
      | inl some ↦ omega (arith, some)
      | inr none ↦ absurd (omega (arith, exact, used, one, above_no 0 (times f owner) none))
    ]

in_use-pages : (s : SpaceState) → CountsAreExact s → s.children ≡ [] → in_use s.frames ≤ pages_in s.owner
in_use-pages s exact none =
    let each : (f : ℕ) → 0 < count_of s.frames f → 1 ≤ times f s.owner = λ f used.
    owner-has (count_of s.frames f) f s.owner (exact f ∙ ap (λ (children : List (Option (List (List ℕ)))). count_by (maps f) (s.owner ∷ flat_map option_to_list children)) none) used in
    let used : in_use s.frames ≤ sum_first (length s.frames.frames) (λ f. times f s.owner) = used-first s.frames.frames (λ f. times f s.owner) each in
    omega (arith, used, first-times (length s.frames.frames) s.owner)

pages_in-map : {Item Page : Type 0} (f : Item → Page) (table : List (List Item)) → pages_in (map (map f) table) ≡ pages_in table
pages_in-map f [] = refl
pages_in-map f (segment ∷ table) = omega (arith, length-map segment f, pages_in-map f table)

-- ---- how many pages there are

no_pages : {Page : Type 0} (table : List (List Page)) → length table ≡ 0 → pages_in table ≡ 0
no_pages [] none = refl
no_pages (segment ∷ table) none = absurd (omega (arith, none))

row-bound : (n width most : ℕ) (pages : List (List ℕ)) → least_page ≤ n → used_slots pages ≤ most → HasFewPages n width pages
    → length pages ≤ row_pages n width most
row-bound n width most pages size within few = omega (arith, few, end-sorted n width (used_slots pages) most size within)

pages_in-bound : (n : ℕ) (tables : Tables) (bytes : List (List (List ℕ))) → 256 ≤ n → HasPagesUpTo n (most_of tables) bytes
    → pages_in bytes ≤ frames_for n tables
unfolding frames_for
pages_in-bound n tables bytes size has =
    let row : (segment width most : ℕ) → least_page ≤ n → used_slots (list_at bytes segment) ≤ most → HasFewPages n width (list_at bytes segment)
    → length (list_at bytes segment) ≤ row_pages n width most = λ segment width most. row-bound n width most (list_at bytes segment) in
    let warehouses : length (list_at bytes 0) ≤ row_pages n 21 (length tables.warehouses) = row 0 21 (length tables.warehouses) (omega (arith, size)) (has.slots 0 21 refl) (has.few 0 21 refl) in
    let districts : length (list_at bytes 1) ≤ row_pages n 26 (length tables.districts) = row 1 26 (length tables.districts) (omega (arith, size)) (has.slots 1 26 refl) (has.few 1 26 refl) in
    let customers : length (list_at bytes 2) ≤ row_pages n 574 (length tables.customers) = row 2 574 (length tables.customers) (omega (arith, size)) (has.slots 2 574 refl) (has.few 2 574 refl) in
    let history : length (list_at bytes 3) ≤ row_pages n 46 (length tables.history) = row 3 46 (length tables.history) (omega (arith, size)) (has.slots 3 46 refl) (has.few 3 46 refl) in
    let new_orders : length (list_at bytes 4) ≤ row_pages n 6 (length tables.new_orders) = row 4 6 (length tables.new_orders) (omega (arith, size)) (has.slots 4 6 refl) (has.few 4 6 refl) in
    let orders : length (list_at bytes 5) ≤ row_pages n 19 (length tables.orders) = row 5 19 (length tables.orders) (omega (arith, size)) (has.slots 5 19 refl) (has.few 5 19 refl) in
    let lines : length (list_at bytes 6) ≤ row_pages n 29 (length tables.order_lines) = row 6 29 (length tables.order_lines) (omega (arith, size)) (has.slots 6 29 refl) (has.few 6 29 refl) in
    let stock : length (list_at bytes 7) ≤ row_pages n 31 (length tables.stock) = row 7 31 (length tables.stock) (omega (arith, size)) (has.slots 7 31 refl) (has.few 7 31 refl) in
    let of_orders : length (list_at bytes 8) ≤ index_pages n 5 (length tables.orders) = has.indexes 8 5 (record { behind = lit≤ tt; width = refl }) in
    let of_last : length (list_at bytes 9) ≤ index_pages n 3 (length tables.orders) = has.indexes 9 3 (record { behind = lit≤ tt; width = refl }) in
    let of_waiting : length (list_at bytes 10) ≤ index_pages n 5 (length tables.new_orders) = has.indexes 10 5 (record { behind = lit≤ tt; width = refl }) in
    let of_lines : length (list_at bytes 11) ≤ index_pages n 6 (length tables.order_lines) = has.indexes 11 6 (record { behind = lit≤ tt; width = refl }) in
    let rest : List (List (List ℕ)) = drop all_segments bytes in
    let none : pages_in rest ≡ 0 = no_pages rest (omega (arith, length-drop all_segments bytes, has.all)) in
    by_all_places (λ all. pages_in all ≤ frames_for n tables) bytes (omega (arith, has.all))
    (omega (arith, warehouses, districts, customers, history, new_orders, orders, lines, stock, of_orders, of_last, of_waiting, of_lines, none))

-- without rows there are two pages for each of eight tables, and three for each of four indexes
pub some_frames : (n : ℕ) (tables : Tables) → 28 ≤ frames_for n tables
unfolding frames_for
some_frames n tables = omega arith

-- where no child is open and no frame is free, the limit is no more than the frames of the rows and their entries
pub full-bound : (n : ℕ) (tables : Tables) (s : SpaceState) → IsSound n s → s.children ≡ [] → HasPagesUpTo n (most_of tables) (owner_bytes s)
    → free_of s.frames ≡ 0 → s.frames.max ≤ frames_for n tables
full-bound n tables s sound none has full = omega (
  arith,
  full,
  in_use-pages s sound.counts none,
  pages_in-map (page_of s.frames) s.owner,
  pages_in-bound n tables (owner_bytes s) sound.size.smallest has,
)
