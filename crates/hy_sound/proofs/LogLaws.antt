-- Of logs, whose first batches were looked at.
use Rattle.std.proofs.Common.{◌≡◌, ◌≤◌, ◌+◌, ℕ, zero, suc, List, [], ◌∷◌, length, take, drop, slice_get, Some, Option, refl, sym, ap, ◌∙◌, arith, length-append, subst}
use Rattle.std.proofs.lemmas.List.Concat.{flat_map-cons}
use Rattle.std.specs.Prelude.{MatchOption}
use Rattle.hy_rows.specs.Tables.{Lists}
use Rattle.hy_batches.specs.Batches.{Batch}
use Rattle.hy_batches.specs.Encoding.{batch_bytes, log_bytes}
use Rattle.hy_sound.specs.Sound.{AreSound, IsFirstUnsound, IsSoundBatch}
use Rattle.hy_commands.proofs.LineLaws.{take-next}
use Rattle.hy_sound.proofs.ListLaws.{split-at}
use Rattle.hy_sound.proofs.SoundLaws.{sound-more}

length-cons : (batch : Batch) (batches : List Batch)
    → length (log_bytes (batch ∷ batches)) ≡ length (batch_bytes batch) + length (log_bytes batches)
length-cons batch batches =
    ap length (flat_map-cons batch_bytes batch batches) ∙ length-append (batch_bytes batch) (log_bytes batches)

pub length-taken : (count : ℕ) (batches : List Batch)
    → length (log_bytes (take count batches)) ≤ length (log_bytes batches)
length-taken zero batches = omega arith
length-taken (suc count) [] = omega arith
length-taken (suc count) (batch ∷ batches) =
    omega (arith, length-taken count batches, length-cons batch batches, length-cons batch (take count batches))

-- a batch more
pub sound-next : (lists : Lists) (last after place : ℕ) (batches : List Batch) (batch : Batch)
    → slice_get batches place ≡ Some batch → AreSound lists 0 last (take place batches)
    → IsSoundBatch lists last after batch → AreSound lists 0 after (take (place + 1) batches)
sound-next lists last after place batches batch at sound one =
    subst (λ rows. AreSound lists 0 after rows) (sym (take-next batches place batch at))
    (sound-more lists 0 last after (take place batches) batch sound one)

-- the first one that isn't sound
pub unsound-at : (lists : Lists) (last place : ℕ) (batches : List Batch) (batch : Batch)
    (found : ℕ) → slice_get batches place ≡ Some batch → AreSound lists 0 last (take place batches)
    → ((after : ℕ) → IsSoundBatch lists last after batch → ⊥) → found ≡ length (log_bytes (take place batches))
    → IsFirstUnsound lists batches found
unsound-at lists last place batches batch found at sound unsound is = record {
  front = take place batches;
  batch = batch;
  rest = drop (suc place) batches;
  last = last;
  batches_are = split-at batches place batch at;
  sound = sound;
  unsound = unsound;
  place_is = is;
}

-- what looking at a batch found
abbrev pub Finds : Lists → ℕ → Batch → Option ℕ → Type 0
Finds lists before batch found =
    MatchOption found ((after : ℕ) → IsSoundBatch lists before after batch → ⊥)
    (λ after. IsSoundBatch lists before after batch)

pub found-is : (known lists : Lists) (before : ℕ) (batch : Batch) (found is : Option ℕ) → known ≡ lists
    → found ≡ is → Finds known before batch found → Finds lists before batch is
found-is known lists before batch found is same here finds =
    subst (λ found. Finds lists before batch found) here
    (subst (λ (lists : Lists). Finds lists before batch found) same finds)

-- the first batches of a sound log
pub sound-beginning : (lists : Lists) (before after : ℕ) (batches : List Batch) (count : ℕ)
    → AreSound lists before after batches → (last : ℕ) × AreSound lists before last (take count batches)
sound-beginning lists before after batches zero is = (before, refl)
sound-beginning lists before after [] (suc count) is = (before, refl)
sound-beginning lists before after (batch ∷ batches) (suc count) is =
    let later = sound-beginning lists is.0 after batches count is.2 in
    (later.0, (is.0, is.1, later.1))
