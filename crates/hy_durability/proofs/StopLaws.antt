-- What a stop leaves of a log of drains.
use Rattle.std.proofs.Common.{◌≡◌, ◌⊎◌, ℕ, zero, suc, ◌+◌, ◌≤◌, List, [], ◌∷◌, ◌++◌, drop, length, take, Some, inl, inr, refl, sym, ap, ◌∙◌, subst, arith, append_assoc, length-append}
use Rattle.std.specs.Prelude.{IfSome, Result, Ok, slice_get}
use mathlib.Core.List.{IsPrefix}
use Rattle.std.proofs.lemmas.List.{take-append-drop}
use Rattle.std.proofs.lemmas.List.Concat.{flat_map-cons}
use Rattle.hy_rows.specs.Tables.{Lists}
use Rattle.hy_schema.specs.Loads.{IsLoad}
use Rattle.hy_schema.specs.declared.refusal.Refusal.{Refusal}
use Rattle.hy_schema.specs.declared.refusal.Refusal.TheVariants as refusals
use Rattle.hy_passes.proofs.Beginnings.{begins_itself, begins_longer}
use Rattle.hy_commands.specs.declared.command.Commit.{Commit}
use Rattle.hy_batches.specs.Batches.{Batch}
use Rattle.hy_sound.specs.Sound.{IsSoundLog, list_at}
use Rattle.hy_redo.specs.Calls.{AreCalls, Call, LogState, acknowledged, handed, log_behind}
use Rattle.hy_redo.specs.Disk.{BeginsBehind, LeaveBatches, MayLeave}
use Rattle.hy_schedules.specs.Schedules.{EventOfAll, KeepsEverything, Place, Whole, place_at}
use Rattle.hy_recovery.specs.Recovering.{IsWhyUnrecovered, SomeAreTooMany, joined}
use Rattle.hy_recovery.proofs.PlaceLaws.{at-place, each-from, get-some}
use Rattle.hy_durability.specs.Durability.{AreDurable, BeginsLife, HasRoom, IsRecoverable, RunsGiving}
use Rattle.hy_durability.proofs.RunLaws.{EveryRestKeeps, EveryScheduleGoesOn, are-durable, run-keeps}
use Rattle.hy_durability.proofs.VerdictLaws.{one-verdict, sound-beginning}

abbrev Batches : Type 0
Batches = List Batch

-- ---- beginnings

joined-cons : (batch : Batch) (batches : Batches) (place : ℕ)
    → joined (batch ∷ batches) place ≡ list_at batch.lists place ++ joined batches place
joined-cons batch batches place = flat_map-cons (λ (batch : Batch). list_at batch.lists place) batch batches

-- all batches have more than the first of them
rest-joined : (count : ℕ) (batches : Batches) (place : ℕ)
    → (more : List Commit) × (joined batches place ≡ joined (take count batches) place ++ more)
rest-joined zero batches place = (joined batches place, refl)
rest-joined (suc count) [] place = ([], refl)
rest-joined (suc count) (batch ∷ batches) place =
    let later = rest-joined count batches place in (
      later.0,
      joined-cons batch batches place ∙ ap (λ rows. list_at batch.lists place ++ rows) later.1
          ∙ sym (append_assoc (list_at batch.lists place) (joined (take count batches) place) later.0)
          ∙ ap (λ rows. rows ++ later.0) (sym (joined-cons batch (take count batches) place)),
    )

-- and the first of them more than fewer
pub fewer-joined : (fewer count : ℕ) (batches : Batches) (place : ℕ) → fewer ≤ count
    → (more : List Commit) × (joined (take count batches) place ≡ joined (take fewer batches) place ++ more)
fewer-joined zero count batches place within = (joined (take count batches) place, refl)
fewer-joined (suc fewer) zero batches place within = absurd (omega (arith, within))
fewer-joined (suc fewer) (suc count) [] place within = ([], refl)
fewer-joined (suc fewer) (suc count) (batch ∷ batches) place within =
    let later = fewer-joined fewer count batches place (omega (arith, within)) in (
      later.0,
      joined-cons batch (take count batches) place ∙ ap (λ rows. list_at batch.lists place ++ rows) later.1
          ∙ sym (append_assoc (list_at batch.lists place) (joined (take fewer batches) place) later.0)
          ∙ ap (λ rows. rows ++ later.0) (sym (joined-cons batch (take fewer batches) place)),
    )

pub begins-with : {Row : Type 0} (front more rows : List Row) → rows ≡ front ++ more → IsPrefix front rows
begins-with front more rows is = subst (IsPrefix front) (sym is) (begins_longer front front more (begins_itself front))

-- an answer has one list of batches
pub same-batches : (answer : Result Batches Refusal) (one other : Batches) → answer ≡ Ok one → answer ≡ Ok other
    → one ≡ other
same-batches answer one other is same = let both = sym is ∙ same in cc

-- ---- what is refused

module _ (n : ℕ) (lists : Lists) (frames : ℕ) (batches : Batches) (sound : IsSoundLog lists batches) (most : ℕ)
    (few : SomeAreTooMany lists batches most → ⊥) where
  only-shortages : (why : Refusal) → IsWhyUnrecovered n lists frames batches most why
      → (why ≡ refusals.NoFrame) ⊎ (why ≡ refusals.NoMemory)
  only-shortages (refusals.LogMalformed place) is = absurd (one-verdict lists batches place sound is)
  only-shortages refusals.HistoryFull is = absurd (few is.1)
  only-shortages refusals.NoFrame is = inl refl
  only-shortages refusals.NoMemory is = inr refl
  only-shortages refusals.NoSuchWarehouse is = absurd is
  only-shortages refusals.NoSuchDistrict is = absurd is
  only-shortages refusals.NoSuchCustomer is = absurd is
  only-shortages refusals.NoSuchItem is = absurd is
  only-shortages refusals.OutOfRange is = absurd is
  only-shortages refusals.Busy is = absurd is
  only-shortages refusals.NotRunning is = absurd is
  only-shortages refusals.NotMine is = absurd is
  only-shortages (refusals.BadLoad fault) is = absurd is
  only-shortages (refusals.BadQuery place) is = absurd is
  only-shortages refusals.LogFailed is = absurd is
  only-shortages refusals.Closed is = absurd is
  only-shortages refusals.QueueFull is = absurd is

-- ---- the whole

module _ (lists : Lists) (front : Batches) (events : List EventOfAll) (old whole : Whole) (log : LogState)
    (calls more : List Call) (left : List ℕ) (rests : EveryRestKeeps) (goes_on : EveryScheduleGoesOn)
    (leaves : LeaveBatches) (is_load : IsLoad lists) (begin : BeginsLife lists front old)
    (run : RunsGiving events old whole (handed (calls ++ more))) (room : HasRoom whole)
    (behind : BeginsBehind front log) (are : AreCalls log (calls ++ more))
    (stop : MayLeave (log_behind log calls).told (log_behind log (calls ++ more)).told left) where
  abbrev batches : Batches
  batches = front ++ handed (calls ++ more)

  pub durable : AreDurable lists whole batches
  durable = are-durable lists goes_on is_load rests front old begin events whole (handed (calls ++ more)) run

  everything : KeepsEverything lists whole
  everything = run-keeps lists goes_on is_load rests front old begin events whole (handed (calls ++ more)) run

  -- what a warehouse has kept has more than the first batches
  kept-more : (count place : ℕ) (p : Place) → slice_get whole.places place ≡ Some p
      → (more : List Commit) × (p.kept ≡ joined (take count batches) place ++ more)
  kept-more count place p at =
      let all = rest-joined count batches place in
      let here = at-place (λ (p : Place). joined batches place ≡ take p.drained p.kept) whole.places place p at
      (durable.joined_are place) in (
        all.0 ++ drop p.drained p.kept,
        sym (take-append-drop p.drained p.kept)
            ∙ ap (λ rows. rows ++ drop p.drained p.kept) (sym here ∙ all.1)
            ∙ append_assoc (joined (take count batches) place) all.0 (drop p.drained p.kept),
      )

  -- so where what was kept was few enough, they are
  are-few : (count most : ℕ) → ((place : ℕ) → IfSome (place_at whole.places (suc place)) (λ p. length p.kept ≤ most))
      → SomeAreTooMany lists (take count batches) most → ⊥
  are-few count most within many =
      let place = many.0 in
      let found = get-some whole.places place (omega (arith, many.1, everything.count)) in
      let kept = at-place (λ (p : Place). length p.kept ≤ most) whole.places place found.0 found.1 (within place) in
      let has = kept-more count place found.0 found.1 in
      let more_than : length found.0.kept ≡ length (joined (take count batches) place) + length has.0 =
      ap length has.1 ∙ length-append (joined (take count batches) place) has.0 in
      omega (arith, many.2, more_than, kept)

  pub are-recoverable : IsRecoverable lists whole batches (length front + acknowledged calls) left
  are-recoverable =
      let found = leaves front log calls more left behind are (durable.told room) stop in
      let count = found.0 in
      let enough : length front + acknowledged calls ≤ count = found.2 in
      let beginning = sound-beginning lists 0 durable.sound.0 batches count durable.sound.1 in
      record {
        count = count;
        rest = found.1;
        enough = enough;
        whole_batches = found.3;
        read = found.4;
        sound = beginning;
        refused = λ n frames most why within is.
            only-shortages n lists frames (take count batches) beginning most (are-few count most within) why is;
        kept = λ place. each-from _ (slice_get whole.places place) (λ p at.
            let has = kept-more count place p at in begins-with (joined (take count batches) place) has.0 p.kept has.1);
        acknowledged = λ place.
            let has = fewer-joined (length front + acknowledged calls) count batches place enough in
            begins-with (joined (take (length front + acknowledged calls) batches) place) has.0 (joined (take count batches) place) has.1;
      }
