-- The rows of one table, as the pages of snapshots spell them.
use Rattle.std.specs.Prelude.{ℕ, List, map}
use Rattle.std.specs.List.{flat_map}
use Rattle.hy_rows.specs.Spelling.{tables_of}
use Rattle.hy_rows.specs.Tables.{Tables}
use Rattle.hy_forks.specs.Snapshots.{SnapshotState}

-- those of each snapshot behind those of the one before, with pages of n bytes
abbrev pub joined : {Row : Type 0} → (Tables → List Row) → ℕ → List SnapshotState → List Row
joined rows_in n snapshots = flat_map rows_in (map (λ snapshot. tables_of n snapshot.bytes) snapshots)
