-- What a query scans: the pages of all warehouses, and the items.
use Rattle.std.specs.Prelude.{ℕ, ◌≤◌, List, length, map}
use Rattle.hy_frames.specs.FrameTable.{IsPageSize, max_frames}
use Rattle.hy_rows.specs.Spelling.{HasTables, list_at, tables_of}
use Rattle.hy_rows.specs.Tables.{Lists, all_of}
use Rattle.hy_rows.specs.declared.item.Item.{Item}

-- the bytes of a warehouse's pages, by segment, are those of its tables, on pages of n bytes; a segment has no more pages
-- than there can be frames
pub record AreTables (n : ℕ) (bytes : List (List (List ℕ))) : Type 0 where
  pub size : IsPageSize n
  pub few : (segment : ℕ) → length (list_at bytes segment) ≤ max_frames
  pub tables : HasTables n bytes

-- the bytes of the pages, warehouse by warehouse, and the items, which all of them share
pub record ScanState : Type 0 where
  pub pages : List (List (List (List ℕ)))
  pub items : List Item

-- the rows that pages of n bytes spell, those of each table warehouse by warehouse, and the items
abbrev pub lists_in_scan : ℕ → ScanState → Lists
lists_in_scan n scan = record { items = scan.items; tables = all_of (map (tables_of n) scan.pages) }
