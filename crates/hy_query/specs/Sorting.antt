-- A stable sort.
use Rattle.std.specs.Prelude.{Bool, if◌then◌else◌, List, [], ◌∷◌}

-- an element put before the first of some in order that isn't less than it
abbrev pub inserted : {A : Type 0} → (A → A → Bool) → A → List A → List A
inserted less new [] = new ∷ []
inserted less new (next ∷ later) = if less next new then next ∷ inserted less new later else new ∷ next ∷ later

-- the elements in order, the least first; those of which none is less keep their order
abbrev pub sorted : {A : Type 0} → (A → A → Bool) → List A → List A
sorted less [] = []
sorted less (first ∷ later) = inserted less first (sorted less later)
