-- What comes of batches on a load, and why nothing does.
use Rattle.std.proofs.Common.{◌≡◌, ◌∙◌, ◌<◌, ◌≤◌, ℕ, suc, List, length, slice_get, Option, None, Some, Result, Ok, Err, IfErr, IfOk, IfSome, ap, arith, inl, inr, subst, sym}
use Rattle.std.proofs.lemmas.Option.{slice_get_cases}
use Rattle.hy_rows.specs.Tables.{Lists, Tables}
use Rattle.hy_schema.specs.Conditions.{first_broken}
use Rattle.hy_schema.specs.Loads.{IsLoad}
use Rattle.hy_schema.specs.declared.refusal.Refusal.{Refusal}
use Rattle.hy_schema.specs.declared.refusal.Refusal.TheVariants as refusals
use Rattle.hy_batches.specs.Batches.{Batch}
use Rattle.hy_batches.specs.Logs.{IsLog}
use Rattle.hy_commands.specs.Commands.{number_of, warehouses_of_commit}
use Rattle.hy_passes.specs.SerialList.{IsSerial}
use Rattle.hy_recovery.specs.of_partition.Jobs.{Log}
use Rattle.hy_recovery.specs.of_partition.Partition.{PartitionState, projection_of}
use Rattle.hy_recovery.specs.of_crossing.Crossings.{commits_in, database_behind}
use Rattle.hy_database.proofs.EachLaws.{count-after}
use Rattle.hy_database.specs.Database.{all_rows}
use Rattle.hy_recovery.specs.of_forks.Forks.{IsWhyUnforked}
use Rattle.hy_recovery.specs.of_forks.Histories.{IsOneHistory}
use Rattle.hy_storm.specs.of_session.Databases.{lists_of}
use Rattle.hy_recovery.specs.Recovering.{AreRecovered, IsRecovered, joined}
use Rattle.hy_program.specs.declared.script.Limits.{Limits}
use Rattle.hy_program.specs.Replay.{AreFit, AreListsBehind, IsHistoryOf, IsReplayed, IsWhyLost, IsWhyUnreplayed}

-- what partitions that were recovered have kept is what the batches' lists come to
kept-at : (lists : Lists) (frames most : ℕ) (batches : List Batch) (log : Log) (place : ℕ) (found : Option PartitionState)
    → IfSome found (IsRecovered lists frames most (joined batches place) (suc place))
    → IfSome found (λ p. p.kept ≡ projection_of (suc place) log) → (p : PartitionState) → found ≡ Some p
    → projection_of (suc place) log ≡ joined batches place
kept-at lists frames most batches log place None recovered kept p is = absurd (cc)
kept-at lists frames most batches log place (Some other) recovered kept p is = sym kept ∙ recovered.kept

pub history_of : (lists : Lists) (frames most partitions : ℕ) (batches : List Batch) (log : Log) (parts : List PartitionState)
    → partitions ≡ length lists.tables.warehouses → AreRecovered lists frames most batches parts
    → IsOneHistory partitions log parts → IsHistoryOf lists batches log
history_of lists frames most partitions batches log parts count recovered history = record {
  serial = subst (λ (n : ℕ). IsSerial warehouses_of_commit number_of n log) count history.serial;
  kept = λ place within.
      let here : place < length parts = subst (λ n. place < n) (sym recovered.count) within in
      elim (slice_get_cases parts place).1 [
        | inl there ↦ kept-at lists frames most batches log place (slice_get parts place) (recovered.each place) (history.kept place) there.0 there.2
        | inr past ↦ absurd (omega (arith, here, past.0))
      ];
}

-- the database behind a list has a warehouse, as its load does
pub some-behind : (lists : Lists) (log : Log) → IsLoad lists → 1 ≤ length (database_behind lists log).warehouses
some-behind lists log sound =
    let count : length (database_behind lists log).warehouses ≡ length lists.tables.warehouses =
    count-after lists (commits_in log) in
    omega (arith, count, sound.warehouses.whole)

-- the lists of a snapshot of that database
pub lists_behind : (lists : Lists) (batches : List Batch) (log : Log) (all : Lists) → IsHistoryOf lists batches log
    → all ≡ lists_of (database_behind lists log) → first_broken (all_rows (database_behind lists log)) ≡ None
    → AreListsBehind lists batches all
lists_behind lists batches log all history spelled consistent = record {
  log = log;
  history = history;
  spelled = spelled;
  consistent = ap (λ (it : Lists). first_broken it.tables) spelled ∙ consistent;
}

-- its rows
replayed : (lists : Lists) (batches : List Batch) (all : Lists) (rows : Tables) → AreListsBehind lists batches all
    → rows ≡ all.tables → IsReplayed lists batches rows
replayed lists batches all rows behind is = record {
  log = behind.log;
  history = behind.history;
  spelled = is ∙ ap (λ (it : Lists). it.tables) behind.spelled;
  consistent = ap first_broken is ∙ behind.consistent;
}

pub replayed_by : {E : Type 0} (lists : Lists) (batches : List Batch) (all : Lists) → AreListsBehind lists batches all
    → (result : Result Tables E) → IfOk result (λ rows. rows ≡ all.tables) → IfOk result (IsReplayed lists batches)
replayed_by lists batches all behind (Ok rows) is = replayed lists batches all rows behind is
replayed_by lists batches all behind (Err why) is = tt

-- memory lacks for what is sound and has room
pub without_memory : (limits : Limits) (lists : Lists) (batches : List Batch) → AreFit limits lists batches
    → IsWhyUnreplayed limits lists batches refusals.NoMemory
without_memory limits lists batches fit = inl (fit.0, fit.1)

pub without_memory_by : {X : Type 0} (limits : Limits) (lists : Lists) (batches : List Batch) → AreFit limits lists batches
    → (result : Result X Refusal) → IfErr result (λ why. why ≡ refusals.NoMemory)
    → IfErr result (IsWhyUnreplayed limits lists batches)
without_memory_by limits lists batches fit (Ok done) is = tt
without_memory_by limits lists batches fit (Err why) is =
    subst (λ (it : Refusal). IsWhyUnreplayed limits lists batches it) (sym is) (without_memory limits lists batches fit)

-- why there is no snapshot of what was recovered
pub unforked : (limits : Limits) (lists : Lists) (batches : List Batch) (parts : List PartitionState) (why : Refusal)
    → AreFit limits lists batches → IsWhyUnforked parts why → IsWhyUnreplayed limits lists batches why
unforked limits lists batches parts why fit (inl frame) = inr (frame.0, fit.0, fit.1)
unforked limits lists batches parts why fit (inr memory) =
    subst (λ (it : Refusal). IsWhyUnreplayed limits lists batches it) (sym memory) (without_memory limits lists batches fit)

-- batches of bytes can't be run again
pub lost_by : {X : Type 0} (limits : Limits) (lists : Lists) (bytes : List ℕ) (batches : List Batch) (rest : List ℕ)
    → IsLog bytes batches rest → (result : Result X Refusal) → IfErr result (IsWhyUnreplayed limits lists batches)
    → IfErr result (IsWhyLost limits lists bytes)
lost_by limits lists bytes batches rest whole (Ok done) why = tt
lost_by limits lists bytes batches rest whole (Err refusal) why = inr (batches, rest, whole, why)
