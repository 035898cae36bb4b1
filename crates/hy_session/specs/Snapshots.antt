-- The rows that snapshots of all warehouses have together.
use Rattle.std.specs.Prelude.{ℕ, List, [], ◌∷◌, map}
use Rattle.hy_rows.specs.Spelling.{tables_of}
use Rattle.hy_rows.specs.Tables.{Lists, all_of}
use Rattle.hy_rows.specs.declared.item.Item.{Item}
use Rattle.hy_forks.specs.Snapshots.{SnapshotState}

-- the items, which all warehouses share
abbrev pub items_of : List SnapshotState → List Item
items_of [] = []
items_of (snapshot ∷ later) = snapshot.load.items

-- the rows that the snapshots' pages of n bytes spell, those of each table warehouse by warehouse
abbrev pub lists_of_all : ℕ → List SnapshotState → Lists
lists_of_all n snapshots = record {
  items = items_of snapshots;
  tables = all_of (map (λ snapshot. tables_of n snapshot.bytes) snapshots);
}
