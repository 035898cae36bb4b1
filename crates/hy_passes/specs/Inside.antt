-- What always holds inside the journal and a cursor.
use Rattle.std.specs.Prelude.{◌≡◌, ℕ, ◌+◌, ◌<◌, ◌≤◌, List, length, slice_index, Option}
use Rattle.atomic_table.specs.Seated.{TableId}
use Rattle.hy_worlds.specs.Origins.{Origin, replayed_of}
use Rattle.hy_passes.specs.declared.entry.Entry.{Entry}
use Rattle.hy_passes.specs.SerialList.{kept_of, max_commits, max_partitions, numbers_of, IsSerial}

-- its seat is the first one of the kit's word, and its numbers count the serial list
pub record IsCounted {C : Type 0} (warehouses : C → List ℕ) (number : C → Option ℕ) (origin : Origin) (word : TableId) (seat : ℕ) (log : List (Entry C)) (size crossings : ℕ) (counts : List ℕ) : Type 0 where
  pub word_is : word ≡ origin.word
  pub first : seat ≡ 0
  pub size_is : size ≡ length log
  pub crossings_are : crossings ≡ length (numbers_of warehouses number log)
  pub places : length counts ≡ origin.partitions
  pub few : origin.partitions ≤ max_partitions
  pub counted : (k : ℕ) → k < length counts → slice_index counts k ≡ length (kept_of warehouses (k + 1) log)
  pub room : (k : ℕ) → k < length counts → slice_index counts k ≤ max_commits
  pub serial : IsSerial warehouses number origin.partitions log

-- what stands before the place of a cursor is counted, and has all that comes from a log
pub record IsPassed {C : Type 0} (warehouses : C → List ℕ) (origin : Origin) (log : List (Entry C)) (counts : List ℕ) : Type 0 where
  pub places : length counts ≡ origin.partitions
  pub counted : (k : ℕ) → k < length counts → slice_index counts k ≡ length (kept_of warehouses (k + 1) log)
  pub replayed : (k : ℕ) → k < length counts → replayed_of origin (k + 1) ≤ slice_index counts k
