-- Serial lists that say the same of each warehouse of a load.
use Rattle.std.proofs.Common.{◌≡◌, ◌∙◌, ◌<◌, ◌-◌, ◌++◌, ℕ, suc, List, [], ◌∷◌, length, slice_index_or, refl, sym, ap, subst, arith}
use Rattle.hy_rows.proofs.BetweenLaws.{IsBetween-bounds}
use Rattle.hy_rows.specs.Tables.{Lists, Tables, no_rows}
use Rattle.hy_commands.specs.declared.command.Commit.{Commit}
use Rattle.hy_commands.specs.Commands.{warehouses_of_commit}
use Rattle.hy_commands.specs.Replay.{HasWarehouse, rows_after}
use Rattle.hy_database.proofs.Replays.{IsReplay, replay-after}
use Rattle.hy_partition.specs.Jobs.{Log}
use Rattle.hy_partition.specs.Partition.{projection_of}
use Rattle.hy_crossing.specs.Crossings.{commits_in, database_behind, next_number}
use Rattle.hy_sound.specs.Sound.{crossings_of}
use Rattle.hy_forks.proofs.NumberLaws.{crossings-behind, projection-behind}
use Rattle.hy_passes.specs.SerialList.{projection}
use Rattle.hy_hyper_rounds.specs.Restarts.{SayTheSame}

-- ---- the database behind them

-- lists with the same element at each place
same-places : (one other : List Tables) → length other ≡ length one
    → ((place : ℕ) → place < length one → slice_index_or other place no_rows ≡ slice_index_or one place no_rows)
    → other ≡ one
same-places [] [] count each = refl
same-places [] (tables ∷ other) count each = absurd (omega (arith, count))
same-places (tables ∷ one) [] count each = absurd (omega (arith, count))
same-places (tables ∷ one) (rows ∷ other) count each =
    ap (λ (first : Tables). first ∷ other) (each 0 (omega arith))
    ∙ ap (λ rest. tables ∷ rest) (same-places one other (omega (arith, count))
    (λ place within. each (suc place) (omega (arith, within))))

module _ (lists : Lists) (one other : Log) (say : SayTheSame one other) where
  abbrev behind-one : IsReplay lists (commits_in one) (database_behind lists one)
  behind-one = replay-after lists (commits_in one)

  abbrev behind-other : IsReplay lists (commits_in other) (database_behind lists other)
  behind-other = replay-after lists (commits_in other)

  same-rows : (place : ℕ) → place < length (database_behind lists one).warehouses
      → slice_index_or (database_behind lists other).warehouses place no_rows
      ≡ slice_index_or (database_behind lists one).warehouses place no_rows
  same-rows place within =
      let there : HasWarehouse lists (suc place) = IsBetween-bounds 1 (length lists.tables.warehouses) (suc place) (omega arith) (omega (arith, within, behind-one.count)) in
      let here : suc place - 1 ≡ place = omega arith in
      subst (λ at. slice_index_or (database_behind lists other).warehouses at no_rows
      ≡ slice_index_or (database_behind lists one).warehouses at no_rows) here
      (behind-other.rows (suc place) there
      ∙ ap (rows_after lists (suc place)) (say.commits (suc place))
      ∙ sym (behind-one.rows (suc place) there))

  pub behind-alike : database_behind lists other ≡ database_behind lists one
  behind-alike =
      ap (λ items. record { items = items; warehouses = (database_behind lists other).warehouses })
      (behind-other.items ∙ sym behind-one.items)
      ∙ ap (λ warehouses. record { items = (database_behind lists one).items; warehouses = warehouses })
      (same-places (database_behind lists one).warehouses (database_behind lists other).warehouses
      (behind-other.count ∙ sym behind-one.count) same-rows)

-- ---- more behind them

-- both go on with entries of the same commits
pub say-more : (one other more its : Log) → SayTheSame one other → commits_in its ≡ commits_in more
    → SayTheSame (one ++ more) (other ++ its)
say-more one other more its say same = record {
  commits = λ number.
      projection-behind number other its
      ∙ ap (λ (front : List Commit). front ++ projection_of number its) (say.commits number)
      ∙ ap (λ (rest : List Commit). projection_of number one ++ projection warehouses_of_commit number rest) same
      ∙ sym (projection-behind number one more);
  next =
      let before : next_number other ≡ next_number one = say.next in
      let behind : length (crossings_of (commits_in its)) ≡ length (crossings_of (commits_in more)) =
      ap (λ rows. length (crossings_of rows)) same in
      omega (arith, crossings-behind other its, crossings-behind one more, before, behind);
}

pub say-nothing : (one other after its : Log) → SayTheSame one other → after ≡ one → its ≡ other
    → SayTheSame after its
say-nothing one other after its say same same_its = rw (same, same_its) say
