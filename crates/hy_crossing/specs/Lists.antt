-- Relations between the partitions of all warehouses before and after.
use Rattle.std.specs.Prelude.{◌≡◌, ⊤, ℕ, suc, List, [], ◌∷◌, drop, length, slice_index_or, slice_set, take}

-- a relation between the elements of two lists at the same places, which are counted from a number on
abbrev pub Pairwise : {Row : Type 0} → (ℕ → Row → Row → Type 0) → ℕ → List Row → List Row → Type 0
Pairwise relation number [] [] = ⊤
Pairwise relation number (old ∷ olds) (new ∷ news) = relation number old new × Pairwise relation (suc number) olds news
Pairwise relation number [] (new ∷ news) = ⊥
Pairwise relation number (old ∷ olds) [] = ⊥

-- the same, where a state is led from one element to the next
abbrev pub InTurn : {State Row : Type 0} → (ℕ → State → State → Row → Row → Type 0) → ℕ → State → State → List Row
    → List Row → Type 0
InTurn step number before after [] [] = after ≡ before
InTurn {State = State} step number before after (old ∷ olds) (new ∷ news) =
    (middle : State) × step number before middle old new × InTurn step (suc number) middle after olds news
InTurn step number before after [] (new ∷ news) = ⊥
InTurn step number before after (old ∷ olds) [] = ⊥

-- the elements before a place have been led through, and the others are as before
pub record IsLedUpTo {State Row : Type 0} (step : ℕ → State → State → Row → Row → Type 0) (place : ℕ)
    (before now : State) (olds news : List Row) : Type 0 where
  pub count : length news ≡ length olds
  pub done : InTurn step 1 before now (take place olds) (take place news)
  pub rest : drop place news ≡ drop place olds

-- the same without a state
abbrev pub Stepping : {Row : Type 0} → (ℕ → Row → Row → Type 0) → ℕ → ℕ → ℕ → Row → Row → Type 0
Stepping relation number before after old new = relation number old new × (after ≡ before)

abbrev pub IsDoneUpTo : {Row : Type 0} → (ℕ → Row → Row → Type 0) → ℕ → List Row → List Row → Type 0
IsDoneUpTo relation place olds news = IsLedUpTo (Stepping relation) place 0 0 olds news

-- the element at a place was replaced, by one that it has a relation to
abbrev pub ChangesAt : {Row : Type 0} → (Row → Row → Type 0) → ℕ → List Row → List Row → Type 0
ChangesAt {Row = Row} relation place olds news =
    (old : Row) × (new : Row) × (old ≡ slice_index_or olds place old) × (news ≡ slice_set olds place new)
    × relation old new
