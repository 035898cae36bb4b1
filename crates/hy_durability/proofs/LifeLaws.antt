-- Lives one behind another.
use Rattle.std.proofs.Common.{◌≡◌, ℕ, zero, suc, ◌+◌, ◌≤◌, List, [], ◌∷◌, ◌++◌, length, take, inl, inr, refl, sym, ap, subst, arith}
use Rattle.std.specs.Prelude.{IsTrue, Ok}
use mathlib.Core.List.{IsPrefix}
use Rattle.hy_rows.specs.Tables.{Lists}
use Rattle.hy_schema.specs.Loads.{IsLoad}
use Rattle.hy_passes.proofs.Beginnings.{begins_itself, begins_through}
use Rattle.hy_batches.specs.Batches.{Batch}
use Rattle.hy_batches.specs.Grammar.{are_batches}
use Rattle.hy_redo.specs.Calls.{acknowledged, handed}
use Rattle.hy_redo.specs.Disk.{LeaveBatches}
use Rattle.hy_sound.specs.Sound.{IsSoundLog}
use Rattle.hy_durability.specs.Durability.{AllAreThere, AreLed, IsLed, IsRecoverable, Life, acknowledged_of, all_of, last_of}
use Rattle.hy_durability.proofs.RunLaws.{EveryRestKeeps, EveryScheduleGoesOn}
use Rattle.hy_durability.proofs.StopLaws.{are-recoverable, same-batches}

-- the first of some rows are a beginning of more of them
take-prefix : {Row : Type 0} (fewer count : ℕ) (rows : List Row) → fewer ≤ count → IsPrefix (take fewer rows) (take count rows)
take-prefix zero count rows within = (take count rows, refl)
take-prefix (suc fewer) zero rows within = absurd (omega (arith, within))
take-prefix (suc fewer) (suc count) [] within = ([], refl)
take-prefix (suc fewer) (suc count) (row ∷ rows) within =
    let later = take-prefix fewer count rows (omega (arith, within)) in
    (later.0, ap (λ rows. row ∷ rows) later.1)

front-prefix : {Row : Type 0} (front rest : List Row) (count : ℕ) → length front ≤ count
    → IsPrefix front (take count (front ++ rest))
front-prefix [] rest count within = (take count rest, refl)
front-prefix (row ∷ front) rest zero within = absurd (omega (arith, within))
front-prefix (row ∷ front) rest (suc count) within =
    let later = front-prefix front rest count (omega (arith, within)) in
    (later.0, ap (λ rows. row ∷ rows) later.1)

module _ (lists : Lists) (rests : EveryRestKeeps) (goes_on : EveryScheduleGoesOn) (leaves : LeaveBatches)
    (is_load : IsLoad lists) where
  module _ (life : Life) (led : IsLed lists life) where
    recoverable : IsRecoverable lists led.new (all_of life) (length life.before + acknowledged life.calls) life.left
    recoverable =
        are-recoverable lists life.before life.events led.old led.new life.log life.calls life.more life.left rests goes_on
        leaves is_load led.begins led.runs led.room led.behind led.are led.stop

    after-is : life.after ≡ take recoverable.count (all_of life)
    after-is = elim (recoverable.read (Ok life.after) led.read) [
      | inl same ↦ same-batches (Ok life.after) life.after (take recoverable.count (all_of life)) refl same
      | inr lacks ↦ absurd (cc)
    ]

    sound-after : IsSoundLog lists life.after
    sound-after = subst (IsSoundLog lists) (sym after-is) recoverable.sound

    told-after : IsTrue (are_batches life.after)
    told-after = led.read.1.whole

    acknowledged-after : IsPrefix (acknowledged_of life) life.after
    acknowledged-after =
        subst (IsPrefix (acknowledged_of life)) (sym after-is)
        (take-prefix (length life.before + acknowledged life.calls) recoverable.count (all_of life) recoverable.enough)

    before-after : IsPrefix life.before life.after
    before-after =
        subst (IsPrefix life.before) (sym after-is)
        (front-prefix life.before (handed _) recoverable.count (omega (arith, recoverable.enough)))

  grows : (before : List Batch) (lives : List Life) → AreLed lists before lives → IsPrefix before (last_of before lives)
  grows before [] led = begins_itself before
  grows before (life ∷ lives) led =
      begins_through before life.after (last_of life.after lives)
      (subst (λ rows. IsPrefix rows life.after) led.0 (before-after life led.1)) (grows life.after lives led.2)

  pub all-there : (before : List Batch) (lives : List Life) → AreLed lists before lives
      → AllAreThere (last_of before lives) lives
  all-there before [] led = tt
  all-there before (life ∷ lives) led = (
    begins_through (acknowledged_of life) life.after (last_of life.after lives) (acknowledged-after life led.1)
        (grows life.after lives led.2),
    all-there life.after lives led.2,
  )

  pub last-sound : (before : List Batch) (lives : List Life) → IsSoundLog lists before × IsTrue (are_batches before)
      → AreLed lists before lives
      → IsSoundLog lists (last_of before lives) × IsTrue (are_batches (last_of before lives))
  last-sound before [] sound led = sound
  last-sound before (life ∷ lives) sound led =
      last-sound life.after lives (sound-after life led.1, told-after life led.1) led.2
