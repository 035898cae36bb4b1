-- Batches that are sound and others, by hand. The load has two warehouses, three customers in each district, and 20 items.
use Rattle.std.proofs.Common.{◌≡◌, ◌<◌, ◌+◌, ℕ, zero, suc, true, false, List, [], ◌∷◌, Err, refl, arith}
use Rattle.std.specs.Prelude.{map}
use Rattle.std.specs.List.{range_with_len}
use Rattle.hy_rows.specs.Tables.{Lists, no_rows}
use Rattle.hy_rows.specs.declared.customer.Customer.{Customer}
use Rattle.hy_schema.specs.Keys.{district_numbers}
use Rattle.hy_schema.specs.declared.refusal.Refusal.TheVariants as refusals
use Rattle.hy_passes.specs.SerialList.{projection}
use Rattle.hy_commands.specs.declared.command.Command.{Command}
use Rattle.hy_commands.specs.declared.command.Command.TheVariants as commands
use Rattle.hy_commands.specs.declared.command.Commit.{Commit}
use Rattle.hy_commands.specs.declared.command.Commit.TheVariants as commits
use Rattle.hy_commands.specs.declared.command.Who.TheVariants as who
use Rattle.hy_commands.specs.declared.edition.Edition.{Edition}
use Rattle.hy_commands.specs.declared.edition.Edition.TheVariants as editions
use Rattle.hy_commands.specs.Commands.{warehouses_of_commit}
use Rattle.hy_commands.specs.WorkedSample.{customers, each, items, up_to, warehouse}
use Rattle.hy_batches.specs.Batches.{Batch}
use Rattle.hy_batches.specs.Grammar.{is_batch}
use Rattle.hy_sound.specs.Sound.{AreInStep, IsSoundBatch, IsSoundLog, Looks, are_replayable, crossings_of, is_known, list_at}
use Rattle.hy_sound.specs.Merges.{GoesOnAt, MergeState, left_of}
use Rattle.hy_sound.specs.inside.Steps.{IsAtCrossing}
use Rattle.hy_sound.proofs.SoundLaws.{none-left, sound-from, unsound-lacking}

abbrev load : Lists
load = record {
  items = items;
  tables = record no_rows {
    warehouses = warehouse ∷ record warehouse { id = 2 } ∷ [];
    customers = each (λ number. each (λ district.
        map {A = Customer} {B = Customer} (λ row. record row { warehouse = number }) (customers district)) district_numbers)
        (up_to 2);
  };
}

-- ---- commands that the database of the load refuses, and others

-- a payment of 5.00 in a warehouse by a customer of another
abbrev paying : ℕ → ℕ → ℕ → Command
paying home other customer =
    commands.Payment (record {
      warehouse = home;
      district = 1;
      customer_warehouse = other;
      customer_district = 1;
      who = who.Number customer;
      amount = 500;
      at = 1;
    })

third_pays : is_known load (paying 1 2 3) ≡ true
third_pays = refl

fourth_is_missing : is_known load (paying 1 2 4) ≡ false
fourth_is_missing = refl

third_warehouse_is_missing : is_known load (paying 1 3 1) ≡ false
third_warehouse_is_missing = refl

-- ---- lists that agree

abbrev crossing : Edition → ℕ → Commit
crossing edition number = commits.Cross edition number (paying 1 2 3)

abbrev own : Edition → ℕ → Commit
own edition number = commits.Local edition (paying number number 1)

-- two commits of both warehouses, among others
abbrev agreeing : Edition → ℕ → ℕ → Batch
agreeing edition one other = record {
  edition = edition;
  lists =
      (own edition 1 ∷ crossing edition one ∷ crossing edition other ∷ [])
      ∷ (crossing edition one ∷ own edition 2 ∷ crossing edition other ∷ own edition 2 ∷ []) ∷ [];
}

agree : (edition : Edition) (before one other : ℕ) → one ∷ other ∷ [] ≡ range_with_len (suc before) 2
    → AreInStep before (before + 2) 2 (list_at (agreeing edition one other).lists)
agree edition before one other numbered = record {
  crossings = crossing edition one ∷ crossing edition other ∷ [];
  numbered = numbered;
  named = refl;
  each = at;
  last = refl;
}
  where
    at : (place : ℕ) → place < 2
        → crossings_of (list_at (agreeing edition one other).lists place)
        ≡ projection warehouses_of_commit (suc place) (crossing edition one ∷ crossing edition other ∷ [])
    at zero within = refl
    at (suc zero) within = refl
    at (suc (suc place)) within = absurd (omega (arith, within))

sound : (edition : Edition) (before one other : ℕ) → one ∷ other ∷ [] ≡ range_with_len (suc before) 2
    → IsSoundBatch load before (before + 2) (agreeing edition one other)
sound edition before one other numbered = record {
  count = refl;
  in_step = agree edition before one other numbered;
  replayable = at;
}
  where
    at : (place : ℕ) → are_replayable load (list_at (agreeing edition one other).lists place) ≡ true
    at zero = refl
    at (suc zero) = refl
    at (suc (suc place)) = refl

-- of either edition
of_the_first : IsSoundBatch load 7 9 (agreeing editions.First 8 9)
of_the_first = sound editions.First 7 8 9 refl

of_the_second : IsSoundBatch load 7 9 (agreeing editions.Second 8 9)
of_the_second = sound editions.Second 7 8 9 refl

-- the numbers go on from one edition to the other
of_both : IsSoundLog load (agreeing editions.First 1 2 ∷ agreeing editions.Second 3 4 ∷ [])
of_both = (4, (2, sound editions.First 0 1 2 refl, (4, sound editions.Second 2 3 4 refl, refl)))

-- ---- a number that is only in one of the lists that its command names

abbrev missing : Edition → Batch
missing edition = record { edition = edition; lists = (crossing edition 1 ∷ []) ∷ [] ∷ [] }

only_in_one : (edition : Edition) (after : ℕ) → IsSoundBatch load 0 after (missing edition) → ⊥
unfolding left_of
only_in_one edition after sound =
    unsound-lacking load 0 edition 1 (paying 1 2 3) merge
    (refl, (0, record { within = omega arith; next = refl; named = refl })) stops
    (record { place = 1; within = omega arith; named = refl; another = λ same. absurd (cc) }) after
    (sound-from load 0 after (missing edition) merge refl (λ place. refl) sound)
  where
    merge : MergeState
    merge = record { lists = (missing edition).lists; passed = [] }

    stops : (place : ℕ) → place < 2 → IsAtCrossing (left_of merge place)
    stops zero within = refl
    stops (suc zero) within = tt
    stops (suc (suc place)) within = absurd (omega (arith, within))

-- ---- a command that stands in its lists with two editions: this is no batch, and isn't sound

abbrev mixed : Batch
mixed = record {
  edition = editions.First;
  lists = (crossing editions.First 1 ∷ []) ∷ (crossing editions.Second 1 ∷ []) ∷ [];
}

mixed_is_no_batch : is_batch mixed ≡ false
mixed_is_no_batch = refl

of_two_editions : (after : ℕ) → IsSoundBatch load 0 after mixed → ⊥
unfolding left_of
of_two_editions after sound =
    unsound-lacking load 0 editions.First 1 (paying 1 2 3) merge
    (refl, (0, record { within = omega arith; next = refl; named = refl })) stops
    (record { place = 1; within = omega arith; named = refl; another = λ same. absurd (cc) }) after
    (sound-from load 0 after mixed merge refl (λ place. refl) sound)
  where
    merge : MergeState
    merge = record { lists = mixed.lists; passed = [] }

    stops : (place : ℕ) → place < 2 → IsAtCrossing (left_of merge place)
    stops zero within = refl
    stops (suc zero) within = refl
    stops (suc (suc place)) within = absurd (omega (arith, within))

-- ---- a number that isn't the next one

abbrev later : Edition → Batch
later edition = record { edition = edition; lists = (crossing edition 2 ∷ []) ∷ (crossing edition 2 ∷ []) ∷ [] }

not_the_next : (edition : Edition) (after : ℕ) → IsSoundBatch load 0 after (later edition) → ⊥
unfolding left_of
not_the_next edition after sound =
    let ends = none-left load 0 after merge none stops
    (sound-from load 0 after (later edition) merge refl (λ place. refl) sound) in
    let nothing : left_of merge 0 ≡ [] = ends.1 0 (omega arith) in
    absurd (cc)
  where
    merge : MergeState
    merge = record { lists = (later edition).lists; passed = [] }

    stops : (place : ℕ) → place < 2 → IsAtCrossing (left_of merge place)
    stops zero within = refl
    stops (suc zero) within = refl
    stops (suc (suc place)) within = absurd (omega (arith, within))

    none : (place : ℕ) (by : Edition) (command : Command) → GoesOnAt merge by 1 command place → ⊥
    none zero by command goes = let next = goes.next in absurd (cc)
    none (suc zero) by command goes = let next = goes.next in absurd (cc)
    none (suc (suc place)) by command goes = absurd (omega (arith, goes.within))

-- ---- what looking answers: want of memory and of frames never

no_memory_is_no_answer : (lists : Lists) (batches : List Batch) → Looks lists batches (Err refusals.NoMemory) → ⊥
no_memory_is_no_answer lists batches looks = looks

no_frame_is_no_answer : (lists : Lists) (batches : List Batch) → Looks lists batches (Err refusals.NoFrame) → ⊥
no_frame_is_no_answer lists batches looks = looks
