-- How far the warehouses were drained: no event but a drain changes it, and a drain comes to the end of the serial list.
use Rattle.std.proofs.Common.{◌≡◌, ◌≢◌, ℕ, zero, suc, ◌+◌, true, false, List, [], ◌∷◌, ◌++◌, cond, length, map, inl, inr, refl, sym, ap, ◌∙◌, subst, arith}
use Rattle.std.specs.Prelude.{IfSome, slice_get}
use Rattle.hy_passes.specs.SerialList.{names}
use Rattle.hy_passes.specs.declared.entry.Entry.{Entry}
use Rattle.hy_rows.specs.Tables.{Lists}
use Rattle.hy_commands.specs.declared.command.Command.{Command}
use Rattle.hy_commands.specs.declared.command.Commit.{Commit}
use Rattle.hy_commands.specs.Commands.{warehouses_of_commit}
use Rattle.hy_forks.specs.of_partition.Jobs.{Log}
use Rattle.hy_forks.specs.of_partition.Partition.{projection_of}
use Rattle.hy_forks.specs.of_partition.Schedules.{World}
use Rattle.hy_schedules.specs.Schedules.{ChangesPlace, DoesAll, DoesCross, Ends, EndsIn, EventOfAll, IsDrainedTo, KeepsEverything, KeepsPlace, LooksAmid, Place, Whole, each_changed, entry_behind, fresh_place, fresh_whole, place_at, rested_places, rested_whole, with_commit, with_drained, with_looks, with_snapshot, with_snapshot_from, without_snapshot}
use Rattle.hy_schedules.specs.Schedules as all
use Rattle.hy_schedules.proofs.PlaceLaws.{each-changed, each-replaced, holds-place}

-- so far was the warehouse with a number drained
abbrev To : Log → ℕ → Place → Type 0
To seen number place = place.drained ≡ length (projection_of number seen)

-- a change of one warehouse
drained-place : (seen : Log) (Change : World → World → Type 0) (number : ℕ) (old new : Whole)
    → ChangesPlace Change number old new → IsDrainedTo seen old → IsDrainedTo seen new
drained-place seen Change number old new changes is =
    subst (λ (places : List Place). (other : ℕ) → IfSome (place_at places other) (To seen other)) (sym changes.places)
    (each-replaced (To seen) (To seen) old.places number changes.before changes.after changes.there
    (changes.drained ∙ holds-place (To seen) old.places number changes.before changes.there is)
    (λ other place apart to. to) is)

drained-ends : (seen : Log) (amid : LooksAmid) (numbers : List ℕ) (old new : Whole) → EndsIn amid numbers old new
    → IsDrainedTo seen old → IsDrainedTo seen new
drained-ends seen amid [] old new same is = subst (IsDrainedTo seen) (sym same) is
drained-ends seen amid (number ∷ numbers) old new ends is =
    drained-ends seen amid numbers ends.0 new ends.2
    (drained-place seen Ends number (with_looks (amid.before_end number) old) ends.0 ends.1 is)

-- a change of each that leaves what was drained
drained-each : (seen : Log) (change : ℕ → Place → Place)
    → ((number : ℕ) (place : Place) → (change number place).drained ≡ place.drained) → (places : List Place)
    → ((number : ℕ) → IfSome (place_at places number) (To seen number)) → (number : ℕ)
    → IfSome (place_at (each_changed change 1 places) number) (To seen number)
drained-each seen change keeps places is =
    each-changed change (To seen) (To seen) places (λ number place to. keeps number place ∙ to) is

keeps-commit : (commit : Commit) (number : ℕ) (place : Place)
    → (with_commit commit number place).drained ≡ place.drained
keeps-commit commit number place =
    elim (names warehouses_of_commit number commit) as (λ b.
    (cond b (record place { kept = place.kept ++ commit ∷ [] }) place).drained ≡ place.drained) [
      | true ↦ refl
      | false ↦ refl
    ]

drained-crosses : (seen : Log) (client : ℕ) (command : Command) (amid : LooksAmid) (old new : Whole)
    → DoesCross client command amid old new → IsDrainedTo seen old → IsDrainedTo seen new
drained-crosses seen client command amid old new does is = subst (IsDrainedTo seen) (sym does.looked) done
  where
    entry : Entry Commit
    entry = entry_behind does.ended command (old.known client)

    ended : IsDrainedTo seen does.ended
    ended = drained-ends seen amid _ old does.ended does.ends is

    done : IsDrainedTo seen does.done
    done = elim does.does [
      | inl same ↦ subst (IsDrainedTo seen) (sym same) ended
      | inr accepted ↦
          subst (IsDrainedTo seen) (sym accepted.1)
          (drained-each seen (with_commit entry.commit) (keeps-commit entry.commit) does.ended.places ended)
    ]

pub drained-stays : (seen : Log) (event : EventOfAll) (old new : Whole) → event ≢ all.drains → DoesAll event old new
    → IsDrainedTo seen old → IsDrainedTo seen new
drained-stays seen (all.at number event) old new other does is = drained-place seen _ number old new does.1 is
drained-stays seen (all.crosses client command amid) old new other does is =
    drained-crosses seen client command amid old new does is
drained-stays seen (all.forks_all client children) old new other does is =
    subst (IsDrainedTo seen) (sym does.1)
    (drained-each seen (with_snapshot old children) (λ number place. refl) old.places is)
drained-stays seen (all.forks_all_from from children) old new other does is =
    subst (IsDrainedTo seen) (sym does.1)
    (drained-each seen (with_snapshot_from from children) (λ number place. refl) old.places is)
drained-stays seen (all.closes_all children) old new other does is =
    subst (IsDrainedTo seen) (sym does.1)
    (drained-each seen (without_snapshot children) (λ number place. refl) old.places is)
drained-stays seen all.drains old new other does is = absurd (other refl)
drained-stays seen (all.looks client) old new other does is = subst (IsDrainedTo seen) (sym does) is

pub drained-moves : (lists : Lists) (old new : Whole) → KeepsEverything lists old → DoesAll all.drains old new
    → IsDrainedTo old.log new
drained-moves lists old new keeps does =
    subst (IsDrainedTo old.log) (sym does)
    (each-changed with_drained (KeepsPlace lists old) (To old.log) old.places
    (λ number place is. ap length is.alone.projection
    ∙ ap (λ w. length (projection_of w old.log)) is.alone.warehouse) keeps.each)

-- ---- at the begin

fresh-from : {Row : Type 0} (rows : List Row) (number place : ℕ)
    → IfSome (slice_get (map (λ row. fresh_place) rows) place) (To [] number)
fresh-from [] number place = tt
fresh-from (row ∷ rows) number zero = refl
fresh-from (row ∷ rows) number (suc place) = fresh-from rows number place

pub drained-fresh : (lists : Lists) → IsDrainedTo [] (fresh_whole lists)
drained-fresh lists zero = tt
drained-fresh lists (suc place) = fresh-from lists.tables.warehouses (suc place) place

rested-from : {Row : Type 0} (log : Log) (rows : List Row) (number place : ℕ)
    → IfSome (slice_get (rested_places log number rows) place) (To log (number + place))
rested-from log [] number place = tt
rested-from log (row ∷ rows) number zero =
    let same : number ≡ number + 0 = omega arith in
    ap (λ n. length (projection_of n log)) same
rested-from log (row ∷ rows) number (suc place) =
    let next : suc number + place ≡ number + suc place = omega arith in
    subst (λ n. IfSome (slice_get (rested_places log (suc number) rows) place) (To log n)) next
    (rested-from log rows (suc number) place)

pub drained-rested : (lists : Lists) (log : Log) (known : ℕ → ℕ) → IsDrainedTo log (rested_whole lists log known)
drained-rested lists log known zero = tt
drained-rested lists log known (suc place) =
    let first : 1 + place ≡ suc place = omega arith in
    subst (λ n. IfSome (slice_get (rested_places log 1 lists.tables.warehouses) place) (To log n)) first
    (rested-from log lists.tables.warehouses 1 place)
