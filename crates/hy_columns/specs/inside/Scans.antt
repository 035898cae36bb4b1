-- The rows of one table in all warehouses, and in blocks.
use Rattle.std.specs.Prelude.{◌≡◌, ℕ, ◌+◌, ◌<◌, ◌≤◌, All, List, length}
use Rattle.std.specs.List.{flat_map}
use Rattle.hy_rows.specs.Spelling.{list_at, rows_of, used_slots}
use Rattle.hy_columns.specs.Scans.{AreTables}
use Rattle.hy_columns.specs.declared.block.Block.{Block}
use Rattle.hy_columns.specs.declared.fields.Segment.{Segment}
use Rattle.hy_columns.specs.inside.Pages.{rows_part}

-- what is known of a warehouse's pages
pub record AreKnown (n : ℕ) (bytes : List (List (List ℕ))) : Type 0 where
  pub tables : AreTables n bytes
  pub sized : (segment : ℕ) → All (λ page. length page ≡ n) (list_at bytes segment)

-- what is read of each row of a segment, one warehouse behind another
abbrev pub read_all : {Read : Type 0} → ℕ → Segment → (List ℕ → Read) → List (List (List (List ℕ))) → List Read
read_all n segment read warehouses =
    flat_map (λ bytes. rows_of n segment.row_bytes read (list_at bytes segment.number)) warehouses

-- the pages of a segment in a warehouse
abbrev pub pages_at : Segment → List (List (List (List ℕ))) → ℕ → List (List ℕ)
pages_at segment warehouses place = list_at (list_at warehouses place) segment.number

-- what is read of each row of a block
abbrev pub read_in : {Read : Type 0} → ℕ → Segment → (List ℕ → Read) → List (List (List (List ℕ))) → Block → List Read
read_in n segment read warehouses block =
    rows_part n segment.row_bytes read (pages_at segment warehouses block.warehouse) block.first block.slots

-- a block has used slots of a segment
pub record IsPart (segment : Segment) (warehouses : List (List (List (List ℕ)))) (block : Block) : Type 0 where
  pub there : block.warehouse < length warehouses
  pub within : block.first + block.slots ≤ used_slots (pages_at segment warehouses block.warehouse)
