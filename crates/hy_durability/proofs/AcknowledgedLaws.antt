-- What stood in a kept list at a drain whose batch was acknowledged is recovered.
use Rattle.std.proofs.Common.{◌≡◌, ℕ, zero, suc, ◌+◌, ◌<◌, ◌≤◌, Bool, true, false, List, [], ◌∷◌, ◌++◌, length, take, Some, inl, inr, refl, sym, ap, ◌∙◌, subst, arith, append_assoc, length-append}
use Rattle.std.specs.Prelude.{IfSome, Result, Ok, Err, slice_get}
use Rattle.std.proofs.lemmas.Option.{same_Some}
use mathlib.Core.List.{IsPrefix}
use Rattle.hy_rows.specs.Tables.{Lists}
use Rattle.hy_schema.specs.declared.refusal.Refusal.{Refusal}
use Rattle.hy_batches.specs.Batches.{Batch}
use Rattle.hy_redo.specs.Calls.{AnswersBy, AreCalls, Call, LogState, acknowledged}
use Rattle.hy_schema.specs.Loads.{IsLoad}
use Rattle.hy_partition.specs.Jobs.{Log}
use Rattle.hy_partition.specs.Partition.{PartitionState}
use Rattle.hy_redo.specs.Calls.{handed, log_behind}
use Rattle.hy_redo.specs.Disk.{BeginsBehind, LeaveBatches, MayLeave}
use Rattle.hy_batches.specs.Logs.{Reads}
use Rattle.hy_recovery.specs.Recovering.{AreRecovered, IsRecovered, joined}
use Rattle.hy_recovery.proofs.PlaceLaws.{at-place, each-from}
use Rattle.hy_schedules.specs.Schedules.{ArePlacesOf, DoesAll, EventOfAll, IsWholeOf, Place, Whole, drains, each_changed, with_drained}
use Rattle.hy_durability.specs.Durability.{AreDurable, BeginsLife, HasRoom, IsRecoverable, RunsGiving, batch_of}
use Rattle.hy_durability.proofs.RunLaws.{EveryRestKeeps, EveryScheduleGoesOn, are-durable}
use Rattle.hy_durability.proofs.StopLaws.{are-recoverable, begins-with, fewer-joined, same-batches}

-- ---- calls

-- a log that has failed acknowledges nothing
failed-none : (log : LogState) (calls : List Call) (place : ℕ) (call : Call) → log.has_failed ≡ true → AreCalls log calls
    → slice_get calls place ≡ Some call → call.answer ≡ Ok tt → ⊥
failed-none log [] place call failed are at is = absurd (cc)
failed-none log (first ∷ calls) zero call failed are at is =
    let here : first.answer ≡ Ok tt = ap (λ (c : Call). c.answer) (same_Some first call at) ∙ is in
    subst (λ answer. AnswersBy true log first.log first.batch answer) here
    (subst (λ b. AnswersBy b log first.log first.batch first.answer) failed are.0)
failed-none log (first ∷ calls) (suc place) call failed are at is =
    failed-none first.log calls place call (still first.answer (subst (λ b. AnswersBy b log first.log first.batch first.answer) failed are.0)) are.1 at is
  where
    still : (answer : Result (Unit {0}) Refusal) → AnswersBy true log first.log first.batch answer
        → first.log.has_failed ≡ true
    still (Ok done) is = absurd is
    still (Err refusal) is = ap (λ (l : LogState). l.has_failed) is.1 ∙ failed

-- a call that acknowledges its batch comes behind others that did
module _ (log : LogState) (first : Call) (calls : List Call) (call : Call) (are : AreCalls log (first ∷ calls))
    (is : call.answer ≡ Ok tt)
    (later : (place : ℕ) → slice_get calls place ≡ Some call → place < acknowledged calls) where
  acknowledged-by : (failed : Bool) → log.has_failed ≡ failed → (answer : Result (Unit {0}) Refusal)
      → first.answer ≡ answer → (place : ℕ) → slice_get (first ∷ calls) place ≡ Some call
      → place < acknowledged (first ∷ calls)
  acknowledged-by true has answer same place at = absurd (failed-none log (first ∷ calls) place call has are at is)
  acknowledged-by false has (Ok done) same zero at = rw same (omega arith)
  acknowledged-by false has (Ok done) same (suc place) at =
      let before = later place at in rw same (omega (arith, before))
  acknowledged-by false has (Err refusal) same zero at =
      let here : first.answer ≡ Ok tt = ap (λ (c : Call). c.answer) (same_Some first call at) ∙ is in absurd (cc)
  acknowledged-by false has (Err refusal) same (suc place) at =
      let cut = subst (λ answer. AnswersBy false log first.log first.batch answer) same
      (subst (λ b. AnswersBy b log first.log first.batch first.answer) has are.0) in
      absurd (failed-none first.log calls place call (ap (λ (l : LogState). l.has_failed) cut.changed) are.1 at is)

pub acknowledged-so_far : (log : LogState) (calls : List Call) (place : ℕ) (call : Call) → AreCalls log calls
    → slice_get calls place ≡ Some call → call.answer ≡ Ok tt → place < acknowledged calls
acknowledged-so_far log [] place call are at is = absurd (cc)
acknowledged-so_far log (first ∷ calls) place call are at is =
    acknowledged-by log first calls call are is
    (λ place at. acknowledged-so_far first.log calls place call are.1 at is) log.has_failed refl first.answer refl place at

-- ---- runs

pub runs-behind : (events more : List EventOfAll) (old mid new : Whole) (first later : List Batch)
    → RunsGiving events old mid first → RunsGiving more mid new later → RunsGiving (events ++ more) old new (first ++ later)
runs-behind [] more old mid new first later run on =
    subst (λ rows. RunsGiving more old new (rows ++ later)) (sym run.1)
    (subst (λ (w : Whole). RunsGiving more w new later) run.0 on)
runs-behind (event ∷ events) more old mid new first later run on = (
  run.0,
  run.1,
  run.2 ++ later,
  run.3,
  runs-behind events more run.0 mid new run.2 later run.4 on,
  ap (λ rows. rows ++ later) run.5 ∙ append_assoc run.1 run.2 later,
)

-- ---- places

-- the place of a partition
place-of : (n : ℕ) (log : Log) (whole : Whole) (number : ℕ) (parts : List PartitionState) (places : List Place)
    → ArePlacesOf n log whole number parts places → (place : ℕ) (p : PartitionState) → slice_get parts place ≡ Some p
    → (here : Place) × (slice_get places place ≡ Some here) × (here.kept ≡ p.kept)
place-of n log whole number [] places are place p at = absurd (cc)
place-of n log whole number (first ∷ parts) [] are place p at = absurd are
place-of n log whole number (first ∷ parts) (row ∷ places) are zero p at =
    (row, refl, are.0.kept ∙ ap (λ (one : PartitionState). one.kept) (same_Some first p at))
place-of n log whole number (first ∷ parts) (row ∷ places) are (suc place) p at =
    place-of n log whole (suc number) parts places are.1 place p at

-- a place behind a drain
drained-get : (first : ℕ) (places : List Place) (place : ℕ) (here : Place) → slice_get places place ≡ Some here
    → slice_get (each_changed with_drained first places) place ≡ Some (with_drained (first + place) here)
drained-get first [] place here at = absurd (cc)
drained-get first (row ∷ places) zero here at =
    ap (λ (p : Place). Some (record p { drained = length p.kept })) (same_Some row here at)
drained-get first (row ∷ places) (suc place) here at = drained-get (suc first) places place here at

take-all : {Row : Type 0} (rows : List Row) → take (length rows) rows ≡ rows
take-all [] = refl
take-all (row ∷ rows) = ap (λ later. row ∷ later) (take-all rows)

take-front : {Row : Type 0} (front rest : List Row) → take (length front) (front ++ rest) ≡ front
take-front [] rest = refl
take-front (row ∷ front) rest = ap (λ rows. row ∷ rows) (take-front front rest)

-- ---- the whole

module _ (lists : Lists) (front given_before rest : List Batch) (events later : List EventOfAll)
    (old mid next whole : Whole) (log : LogState) (calls more : List Call) (call : Call) (left : List ℕ)
    (rests : EveryRestKeeps) (goes_on : EveryScheduleGoesOn) (leaves : LeaveBatches) (is_load : IsLoad lists)
    (begin : BeginsLife lists front old) (first : RunsGiving events old mid given_before)
    (drain : DoesAll drains mid next) (run : RunsGiving later next whole rest)
    (are_handed : handed (calls ++ more) ≡ given_before ++ batch_of mid.places ∷ rest)
    (at : slice_get calls (length given_before) ≡ Some call) (is : call.answer ≡ Ok tt) (room : HasRoom whole)
    (behind : BeginsBehind front log) (are : AreCalls log (calls ++ more))
    (stop : MayLeave (log_behind log calls).told (log_behind log (calls ++ more)).told left) where
  abbrev upto : List Batch
  upto = given_before ++ batch_of mid.places ∷ []

  drain-run : RunsGiving (drains ∷ []) mid next (batch_of mid.places ∷ [])
  drain-run = (next, batch_of mid.places ∷ [], [], inr (drain, refl), (refl, refl), refl)

  run-upto : RunsGiving (events ++ drains ∷ []) old next upto
  run-upto = runs-behind events (drains ∷ []) old mid next given_before (batch_of mid.places ∷ []) first drain-run

  run-all : RunsGiving ((events ++ drains ∷ []) ++ later) old whole (handed (calls ++ more))
  run-all =
      subst (RunsGiving ((events ++ drains ∷ []) ++ later) old whole)
      (append_assoc given_before (batch_of mid.places ∷ []) rest ∙ sym are_handed)
      (runs-behind (events ++ drains ∷ []) later old next whole upto rest run-upto run)

  -- the calls that were made are calls
  are-front : (log : LogState) (some : List Call) → AreCalls log (some ++ more) → AreCalls log some
  are-front log [] are = tt
  are-front log (one ∷ some) are = (are.0, are-front one.log some are.1)

  recoverable : IsRecoverable lists whole (front ++ handed (calls ++ more)) (length front + acknowledged calls) left
  recoverable =
      are-recoverable lists front ((events ++ drains ∷ []) ++ later) old whole log calls more left rests goes_on leaves
      is_load begin run-all room behind are stop

  behind-drain : AreDurable lists next (front ++ upto)
  behind-drain = are-durable lists goes_on is_load rests front old begin (events ++ drains ∷ []) next upto run-upto

  all-are : front ++ handed (calls ++ more) ≡ (front ++ upto) ++ rest
  all-are =
      ap (λ rows. front ++ rows) (are_handed ∙ sym (append_assoc given_before (batch_of mid.places ∷ []) rest))
      ∙ sym (append_assoc front upto rest)

  first-are : take (length (front ++ upto)) (front ++ handed (calls ++ more)) ≡ front ++ upto
  first-are = ap (take (length (front ++ upto))) all-are ∙ take-front (front ++ upto) rest

  few : length (front ++ upto) ≤ recoverable.count
  few =
      omega (
        arith,
        length-append front upto,
        length-append given_before (batch_of mid.places ∷ []),
        acknowledged-so_far log calls (length given_before) call (are-front log calls are) at is,
        recoverable.enough,
      )

  read-are : (batches : List Batch) → Reads left (Ok batches)
      → batches ≡ take recoverable.count (front ++ handed (calls ++ more))
  read-are batches reads = elim (recoverable.read (Ok batches) reads) [
    | inl same ↦ same-batches (Ok batches) batches (take recoverable.count (front ++ handed (calls ++ more))) refl same
    | inr lacks ↦ absurd (cc)
  ]

  pub are-recovered : (n : ℕ) (journal : Log) (parts : List PartitionState) → IsWholeOf n journal parts mid
      → (frames most : ℕ) (batches : List Batch) (recovered : List PartitionState) → Reads left (Ok batches)
      → AreRecovered lists frames most batches recovered → (place : ℕ)
      → IfSome (slice_get parts place) (λ p. IfSome (slice_get recovered place) (λ q. IsPrefix p.kept q.kept))
  are-recovered n journal parts is_whole frames most batches recovered reads are_recovered place =
      each-from _ (slice_get parts place) (λ p there. each-from _ (slice_get recovered place) (λ q found.
      let here = place-of n journal mid 1 parts mid.places is_whole.1 place p there in
      let after : slice_get next.places place ≡ Some (with_drained (1 + place) here.0) =
      ap (λ (w : Whole). slice_get w.places place) drain ∙ drained-get 1 mid.places place here.0 here.1 in
      let all : joined (front ++ upto) place ≡ here.0.kept =
      at-place (λ (p : Place). joined (front ++ upto) place ≡ take p.drained p.kept) next.places place
      (with_drained (1 + place) here.0) after (behind-drain.joined_are place)
      ∙ take-all here.0.kept in
      let has = fewer-joined (length (front ++ upto)) recoverable.count (front ++ handed (calls ++ more)) place few in
      let kept = at-place (IsRecovered lists frames most (joined batches place) (suc place)) recovered place q found
      (are_recovered.each place) in
      begins-with p.kept has.0 q.kept
      (kept.kept ∙ ap (λ rows. joined rows place) (read-are batches reads) ∙ has.1
      ∙ ap (λ rows. joined rows place ++ has.0) first-are ∙ ap (λ rows. rows ++ has.0) (all ∙ here.2))))
