-- What the books of all warehouses come to beside a serial list.
use Rattle.std.specs.Prelude.{◌≡◌, ℕ, zero, suc, ◌+◌, ℤ, pos, ◌+ℤ◌, ◌-ℤ◌, List, IfSome, length, slice_get}
use Rattle.hy_rows.specs.Tables.{Lists, of_warehouse}
use Rattle.hy_ledger.specs.declared.totals.Totals.{Totals}
use Rattle.hy_commands.specs.Replay.{rows_after}
use Rattle.hy_crossing.specs.of_partition.Accounts.{home_commits, taken_in}
use Rattle.hy_crossing.specs.of_partition.Jobs.{Log}
use Rattle.hy_crossing.specs.of_partition.Partition.{PartitionState, projection_of}

-- how many commits of a serial list have one of the first warehouses as their home
unfoldable pub kept_up_to : Log → ℕ → ℕ
kept_up_to log zero = 0
kept_up_to log (suc warehouse) =
    kept_up_to log warehouse + length (home_commits (suc warehouse) (projection_of (suc warehouse) log))

-- by how much W_YTD of the first warehouses has grown with these commits
unfoldable pub grown_up_to : Lists → Log → ℕ → ℤ
grown_up_to lists log zero = pos 0
grown_up_to lists log (suc warehouse) =
    grown_up_to lists log warehouse
    +ℤ (taken_in (rows_after lists (suc warehouse) (projection_of (suc warehouse) log))
    -ℤ taken_in (of_warehouse (suc warehouse) lists.tables))

-- how many warehouses a load has
abbrev pub warehouses_of_load : Lists → ℕ
warehouses_of_load lists = length lists.tables.warehouses

-- the partitions, in order, have kept what a serial list has of their warehouses
abbrev pub HaveKept : Log → List PartitionState → Type 0
HaveKept log parts = (place : ℕ) → IfSome (slice_get parts place) (λ p. p.kept ≡ projection_of (suc place) log)

-- the books of the first warehouses come to these commits, and to what W_YTD has grown by with them
abbrev pub HaveBooks : Lists → Log → ℕ → Totals → Type 0
HaveBooks lists log count books = (books.commits ≡ kept_up_to log count) × (pos books.cents ≡ grown_up_to lists log count)
