-- A page table is known by its segments, one by one.
use Rattle.std.specs.Prelude.{◌≡◌, ℕ, zero, suc, ◌<◌, ◌≤◌, Some, List, [], ◌∷◌, ◌++◌, length, drop, slice_get, refl}
use Rattle.std.proofs.Common.{ap, sym, subst, arith}
use Rattle.hy_rows.specs.Spelling.{IsTable, list_at}
use Rattle.hy_rows.specs.Catalogue.{row_widths, segments}

-- the items of a sequence, so many
abbrev pub items : {Item : Type 0} → (ℕ → Item) → ℕ → List Item
items item zero = []
items item (suc count) = item 0 ∷ items (λ place. item (suc place)) count

-- a list of lists has those at its places, and what follows them
same_places : (count : ℕ) (bytes : List (List (List ℕ))) → count ≤ length bytes
    → bytes ≡ items (list_at bytes) count ++ drop count bytes
same_places zero bytes within = refl
same_places (suc count) [] within = absurd (omega arith)
same_places (suc count) (segment ∷ bytes) within =
    ap (λ others. segment ∷ others) (same_places count bytes (omega (arith, within)))

-- what holds of the tables' segments at their places, and of any behind them, holds of the page table
pub by_places : (P : List (List (List ℕ)) → Type 0) (bytes : List (List (List ℕ))) → segments ≤ length bytes
    → P (items (list_at bytes) segments ++ drop segments bytes) → P bytes
by_places P bytes whole holds = subst P (sym (same_places segments bytes whole)) holds

-- a place of which there is an item
within-slice_get : {Item : Type 0} (items : List Item) (place : ℕ) (item : Item) → slice_get items place ≡ Some item
    → place < length items
within-slice_get [] place item is = absurd (cc)
within-slice_get (first ∷ items) zero item is = omega arith
within-slice_get (first ∷ items) (suc place) item is = omega (arith, within-slice_get items place item is)

-- a table's segment is one of all
pub segment_there : (segment row_bytes : ℕ) → IsTable segment row_bytes → segment < segments
segment_there segment row_bytes table = within-slice_get row_widths segment row_bytes table
