-- Values of an answer by what it keeps: numbers, and places of texts that were copied.
use Rattle.std.specs.Prelude.{ℕ, ◌<◌, ⊤, List, [], ◌∷◌, length, map}
use Rattle.hy_rows.specs.Spelling.{list_at}
use Rattle.hy_rows.specs.declared.value.Value.{Value}
use Rattle.hy_rows.specs.declared.value.Value.TheVariants.{Text, Whole}
use Rattle.hy_query.specs.Rows.{Row}
use Rattle.hy_tallies.specs.declared.mixed.Kept.{Kept}
use Rattle.hy_tallies.specs.declared.mixed.Kept.TheVariants as kept

-- the value that is kept, beside the texts that were copied
abbrev pub value_with : List (List ℕ) → Kept → Value
value_with texts (kept.Whole number) = Whole number
value_with texts (kept.Text place) = Text (list_at texts place)

abbrev pub values_with : List (List ℕ) → List Kept → Row
values_with texts values = map (value_with texts) values

-- its text is among them
abbrev pub IsKept : List (List ℕ) → Kept → Type 0
IsKept texts (kept.Whole number) = ⊤
IsKept texts (kept.Text place) = place < length texts

abbrev pub AreKept : List (List ℕ) → List Kept → Type 0
AreKept texts [] = ⊤
AreKept texts (value ∷ values) = IsKept texts value × AreKept texts values
