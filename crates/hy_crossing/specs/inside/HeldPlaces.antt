-- Places for values.
use Rattle.std.specs.Prelude.{List, [], ◌∷◌, Option, None, Some}

-- a value is at each place
abbrev pub AllTaken : {G : Type 0} → List (Option G) → Type 0
AllTaken [] = Unit {0}
AllTaken (None ∷ rest) = ⊥
AllTaken (Some first ∷ rest) = AllTaken rest

-- the values that are there, in order
abbrev pub values_in : {G : Type 0} → List (Option G) → List G
values_in [] = []
values_in (None ∷ rest) = values_in rest
values_in (Some first ∷ rest) = first ∷ values_in rest
