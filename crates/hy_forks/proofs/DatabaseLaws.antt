-- Snapshots of all warehouses behind one serial list are a snapshot of the database behind it.
use Rattle.std.proofs.Common.{◌≡◌, ◌∙◌, ◌≤◌, ℕ, zero, suc, List, [], ◌∷◌, None, length, refl, ap, arith, sym}
use Rattle.hy_rows.specs.Tables.{Lists, Tables}
use Rattle.hy_schema.specs.Conditions.{first_broken}
use Rattle.hy_schema.specs.Loads.{IsLoad}
use Rattle.hy_commands.specs.declared.command.Commit.{Commit}
use Rattle.hy_commands.specs.Parts.{Database, rows_of}
use Rattle.hy_commands.specs.Replay.{HasWarehouse, rows_after}
use Rattle.hy_database.specs.Database.{all_rows, database_after}
use Rattle.hy_database.proofs.Consistent.{consistent-after}
use Rattle.hy_database.proofs.EachLaws.{count-after}
use Rattle.hy_database.proofs.Replays.{replay-after}
use Rattle.hy_crossing.specs.of_partition.Jobs.{Log}
use Rattle.hy_crossing.specs.of_partition.Partition.{PartitionState, projection_of, rows_now}
use Rattle.hy_crossing.specs.Crossings.{commits_in, database_behind}

-- the rows of a partition that has kept all that the serial list has of it
pub rows-behind : (lists : Lists) (log : Log) (number : ℕ) (p : PartitionState) → HasWarehouse lists number
    → p.load ≡ lists → p.warehouse ≡ number → p.kept ≡ projection_of p.warehouse log
    → rows_now p ≡ rows_of number (database_behind lists log)
rows-behind lists log number p there load_is number_is kept_is =
    ap (λ (load : Lists). rows_after load p.warehouse p.kept) load_is
    ∙ ap (λ w. rows_after lists w p.kept) number_is
    ∙ ap (λ (commits : List Commit). rows_after lists number commits)
    (kept_is ∙ ap (λ w. projection_of w log) number_is)
    ∙ sym ((replay-after lists (commits_in log)).rows number there)

-- ---- a database without a warehouse meets the conditions too

nothing-there : (rows : List Tables) → length rows ≡ 0 → rows ≡ []
nothing-there [] none = refl
nothing-there (tables ∷ rows) none = absurd (omega (arith, none))

consistent-none : (lists : Lists) (commits : List Commit) → length lists.tables.warehouses ≡ 0
    → first_broken (all_rows (database_after lists commits)) ≡ None
consistent-none lists commits none =
    let database : Database = database_after lists commits in
    ap (λ (rows : List Tables). first_broken (all_rows (record { items = database.items; warehouses = rows })))
    (nothing-there database.warehouses (count-after lists commits ∙ none))

pub consistent-behind : (lists : Lists) (log : Log) → (1 ≤ length lists.tables.warehouses → IsLoad lists)
    → first_broken (all_rows (database_behind lists log)) ≡ None
consistent-behind lists log loads = by (length lists.tables.warehouses) refl
  where
    by : (count : ℕ) → length lists.tables.warehouses ≡ count
        → first_broken (all_rows (database_behind lists log)) ≡ None
    by zero none = consistent-none lists (commits_in log) none
    by (suc count) some = consistent-after lists (loads (omega (arith, some))) (commits_in log)
