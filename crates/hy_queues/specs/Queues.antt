-- What came out of a queue, then what it holds, is what went in. One side at most puts, and knows all that was put; one at most takes, and knows all that was taken.
use Rattle.std.specs.Prelude.{◌≡◌, ℕ, Bool, true, false, List, [], ◌∷◌, ◌++◌, length}
use mathlib.Core.Option.{some}
use lib.ListN.{get_elem?}
use Rattle.crossbeam_queue.specs.Passes.{Pass, view}
use Rattle.hy_schema.specs.declared.refusal.Refusal.{Refusal}
use Rattle.hy_schema.specs.declared.refusal.Refusal.TheVariants as refusals
use Rattle.hy_queues.specs.declared.rule.Log.{Log}

module _ {T : Type 0} where
  abbrev pub log : Bool → Bool → List T → List T → Log T
  log puts takes put taken = record { puts = puts; takes = takes; put = put; taken = taken }

  -- what a side knows
  abbrev pub log_of : Pass T (Log T) → Log T
  log_of pass = view pass

  -- the side with a number fits what was put by the one that puts, and what was taken by the one that takes
  abbrev pub Fits : ℕ → ℕ → List T → List T → ℕ → Log T → Type 0
  Fits writer reader put taken side v = (v.puts ≡ true → (side ≡ writer) × (v.put ≡ put)) × (v.takes ≡ true → (side ≡ reader) × (v.taken ≡ taken))

  -- the rule
  abbrev pub IsInOrder : List T → List (Log T) → Type 0
  IsInOrder items sides = (writer : ℕ) × (reader : ℕ) × (put : List T) × (taken : List T) × (put ≡ taken ++ items)
      × ((side : ℕ) (v : Log T) → get_elem? sides side ≡ some v → Fits writer reader put taken side v)

  -- what was put is what was taken, and then these items
  abbrev pub HasPut : Log T → List T → Type 0
  HasPut v items = (taken : List T) × (v.put ≡ taken ++ items)

  abbrev pub HasTaken : Log T → List T → Type 0
  HasTaken v items = (put : List T) × (put ≡ v.taken ++ items)

-- what clauses see of the side at which items are put: all that was put, how many places there are, and whether it is closed
pub record FrontState (T : Type 0) : Type 0 where
  pub put : List T
  pub capacity : ℕ
  pub is_closed : Bool

-- an item more was put at the end
abbrev pub with_put : {T : Type 0} → FrontState T → T → FrontState T
with_put front item = record front { put = front.put ++ item ∷ [] }

-- at one moment some of what was put had been taken, and the rest had all places
abbrev pub WasFull : {T : Type 0} → FrontState T → Type 0
WasFull {T} front = (items : List T) × (length items ≡ front.capacity) × HasPut (log true false front.put []) items

-- why an item comes back: exactly where the queue is closed it is E16; else E17, and then the queue was full
pub data IsWhyUnput {T : Type 0} (front : FrontState T) (why : Refusal) : Type 0 where
  closed : front.is_closed ≡ true → why ≡ refusals.Closed → IsWhyUnput front why
  full : front.is_closed ≡ false → WasFull front → why ≡ refusals.QueueFull → IsWhyUnput front why
