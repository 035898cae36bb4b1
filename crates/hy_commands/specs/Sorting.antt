-- Rows in order, and rows that are changed all at once.
use Rattle.std.specs.Prelude.{Bool, if◌then◌else◌, List, [], ◌∷◌, map}

-- a row put before the first one that it is less than
abbrev pub inserted : {Row : Type 0} → (Row → Row → Bool) → Row → List Row → List Row
inserted less new [] = new ∷ []
inserted less new (row ∷ rows) = if less new row then new ∷ row ∷ rows else row ∷ inserted less new rows

-- the rows in order, the least first
abbrev pub sorted : {Row : Type 0} → (Row → Row → Bool) → List Row → List Row
sorted less [] = []
sorted less (row ∷ rows) = inserted less row (sorted less rows)

-- the list with every row that passes the test changed
abbrev pub with_all_changed : {Row : Type 0} → (Row → Bool) → (Row → Row) → List Row → List Row
with_all_changed test change rows = map (λ row. if test row then change row else row) rows
