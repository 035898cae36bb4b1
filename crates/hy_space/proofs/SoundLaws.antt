-- What always holds of a space, in the words of its tables.
use Rattle.std.proofs.Common.{◌≡◌, ℕ, zero, suc, ◌<◌, ◌≤◌, inl, inr, List, [], ◌∷◌, cond, ltb, length, get_or, map, refl, ap, arith, sum_by, count_by, All, Option, Some, None, option_to_list}
use Rattle.std.specs.List.{flat_map}
use Rattle.std.proofs.lemmas.Bool.{cases_lt}
use Rattle.std.proofs.lemmas.List.{get_or_past}
use Rattle.std.proofs.lemmas.List.Sums.{sum_by-cons}
use Rattle.std.proofs.lemmas.List.Elements.{All-cons, All-nil}
use Rattle.hy_frames.specs.FrameTable.{FrameTable, page_of, IsSoundTable, occurrences}
use Rattle.hy_space.specs.Space.{SpaceState, times, maps, table_bytes, CountsAreExact, NoFrameTwice, HasPagesOf, IsSound}
use Rattle.hy_space.specs.inside.Users.{IsCounted}
use Rattle.hy_space.specs.Space.{child_times}
use Rattle.hy_space.proofs.SizeLaws.{page_count-le}
use Rattle.hy_space.proofs.UserLaws.{same_yes}
use Rattle.hy_space.proofs.TableLaws.{occurrences-cons, times-cons, child_in_sum}

-- a table with a frame at one place at most counts as often as it has the frame
counted_once : (n : ℕ) → n ≤ 1 → cond (ltb 0 n) 1 0 ≡ n
counted_once zero within = refl
counted_once (suc zero) within = refl
counted_once (suc (suc n)) within = absurd (omega arith)

-- the open children's tables, counted one by one
counted_children : (f : ℕ) (children : List (Option (List (List ℕ)))) → ((child : ℕ) → child_times f (get_or children child None) ≤ 1) → count_by (maps f) (flat_map option_to_list children) ≡ sum_by (child_times f) children
counted_children f [] once = refl
counted_children f (None ∷ children) once =
    omega (arith, counted_children f children (λ child. once (suc child)), sum_by-cons (child_times f) None children)
counted_children f (Some table ∷ children) once = omega (
  arith,
  counted_children f children (λ child. once (suc child)),
  sum_by-cons (child_times f) (Some table) children,
  sum_by-cons (λ t. cond (maps f t) 1 0) table (flat_map option_to_list children),
  counted_once (times f table) (once 0),
)

pub CountsAreExact-from : (page_size : ℕ) (s : SpaceState) → IsCounted page_size s → CountsAreExact s
CountsAreExact-from page_size s counted f = omega (
  arith,
  counted.exact f,
  sum_by-cons (λ t. cond (maps f t) 1 0) s.owner (flat_map option_to_list s.children),
  counted_once (times f s.owner) (counted.owner_once f),
  counted_children f s.children (λ child. counted.child_once f child),
)

-- what holds of each child's table holds of each open child's
all_children : (P : List (List ℕ) → Type 0) (children : List (Option (List (List ℕ)))) → ((child : ℕ) (table : List (List ℕ)) → get_or children child None ≡ Some table → P table) → All P (flat_map option_to_list children)
all_children P [] each = All-nil P
all_children P (None ∷ children) each = all_children P children (λ child table is. each (suc child) table is)
all_children P (Some table ∷ children) each =
    All-cons P table (flat_map option_to_list children) (each 0 table refl) (all_children P children (λ child other is. each (suc child) other is))

pub NoFrameTwice-from : (page_size : ℕ) (s : SpaceState) → IsCounted page_size s → NoFrameTwice s
NoFrameTwice-from page_size s counted f =
    let P = λ (table : List (List ℕ)). times f table ≤ 1 in
    All-cons P s.owner (flat_map option_to_list s.children) (counted.owner_once f) (all_children P s.children (λ child table is. omega (arith, counted.child_once f child, ap (child_times f) is)))

-- where each used frame has a page of one size, each page of a table with used frames has it
segment_sized : (page_size : ℕ) (frames : FrameTable) (segment : List ℕ) → ((f : ℕ) → 0 < occurrences f segment → length (page_of frames f) ≡ page_size) → All (λ bytes. length bytes ≡ page_size) (map (page_of frames) segment)
segment_sized page_size frames [] sized = All-nil (λ bytes. length bytes ≡ page_size)
segment_sized page_size frames (frame ∷ segment) sized =
    All-cons (λ bytes. length bytes ≡ page_size) (page_of frames frame) (map (page_of frames) segment) (sized frame (omega (arith, occurrences-cons frame frame segment, same_yes frame frame refl))) (segment_sized page_size frames segment (λ f more. sized f (omega (arith, occurrences-cons f frame segment))))

table_sized : (page_size : ℕ) (frames : FrameTable) (table : List (List ℕ)) → ((f : ℕ) → 0 < times f table → length (page_of frames f) ≡ page_size) → HasPagesOf page_size (table_bytes frames table)
table_sized page_size frames [] sized = All-nil (λ segment. All (λ bytes. length bytes ≡ page_size) segment)
table_sized page_size frames (segment ∷ table) sized =
    All-cons (λ segment. All (λ bytes. length bytes ≡ page_size) segment) (map (page_of frames) segment) (table_bytes frames table) (segment_sized page_size frames segment (λ f more. sized f (omega (arith, times-cons f segment table)))) (table_sized page_size frames table (λ f more. sized f (omega (arith, times-cons f segment table))))

pub IsSound-from : (page_size : ℕ) (s : SpaceState) → IsCounted page_size s → IsSoundTable page_size s.frames → IsSound page_size s
IsSound-from page_size s counted sound =
    let P = λ (table : List (List ℕ)). HasPagesOf page_size (table_bytes s.frames table) in
    record {
      counts = CountsAreExact-from page_size s counted;
      once = NoFrameTwice-from page_size s counted;
      pages = All-cons P s.owner (flat_map option_to_list s.children) (table_sized page_size s.frames s.owner (λ f more. sound.pages f (omega (arith, counted.exact f)))) (all_children P s.children (λ child table is. table_sized page_size s.frames table (λ f more. sound.pages f (omega (arith, counted.exact f, child_in_sum f s.children child, ap (child_times f) is)))));
      size = sound.size;
      page_counts = λ segment. elim (cases_lt segment (length s.owner)) [
        | inl there ↦ page_count-le page_size s segment counted there
        | inr none ↦ omega (arith, ap length (get_or_past s.owner segment [] none))
      ];
      within = sound.within;
      some = sound.some;
      limit = sound.limit;
    }
