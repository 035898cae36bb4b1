-- Items of lists, the rows that pass a test, and orders of keys.
use Rattle.std.specs.Prelude.{◌≡◌, ℕ, ◌⊎◌, Bool, true, false, List, [], ◌∷◌, Some, slice_get}

-- an item is in a list
abbrev pub IsIn : {Item : Type 0} → Item → List Item → Type 0
IsIn item [] = ⊥
IsIn item (other ∷ others) = (other ≡ item) ⊎ IsIn item others

-- the row at a place passes a test, and no other does
pub record IsOnly {Row : Type 0} (test : Row → Bool) (rows : List Row) (place : ℕ) (row : Row) : Type 0 where
  pub here : slice_get rows place ≡ Some row
  pub passes : test row ≡ true
  pub only : (other : ℕ) (another : Row) → slice_get rows other ≡ Some another → test another ≡ true → other ≡ place

-- no row passes a test
abbrev pub NonePasses : {Row : Type 0} → (Row → Bool) → List Row → Type 0
NonePasses {Row} test rows = (place : ℕ) (row : Row) → slice_get rows place ≡ Some row → test row ≡ false

-- keys have one order, in which one of two different ones is less
pub record IsOrder {Key : Type 0} (is_less : Key → Key → Bool) : Type 0 where
  pub one_way : (one other : Key) → is_less one other ≡ true → is_less other one ≡ false
  pub along : (one other third : Key) → is_less one other ≡ true → is_less other third ≡ true
      → is_less one third ≡ true
  pub same : (one other : Key) → is_less one other ≡ false → is_less other one ≡ false → one ≡ other
