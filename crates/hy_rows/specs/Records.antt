-- The values of a row, given to what takes them and taken from what gives them, one column after another.
use Rattle.std.specs.Prelude.{ℕ, ℤ, pos, ◌+◌, ◌*◌, List, [], ◌∷◌, Option, Some, option_and_then, option_map}
use Rattle.hy_rows.specs.Columns.{Column, Domain, OneOf, Signed, Text, Unsigned}
use Rattle.hy_rows.specs.declared.value.Value.{Value}
use Rattle.hy_rows.specs.declared.value.Value.TheVariants as values

-- what is left behind the values of a row, each taken as one of the next column
abbrev pub after_all : {State : Type 0} → (State → Column → Value → State) → State → List Column → List Value → State
after_all after state (column ∷ columns) (value ∷ row) = after_all after (after state column value) columns row
after_all after state columns row = state

-- what fields say, by their places: numbers of so many bits, numbers with a sign, texts of at most so many bytes
pub record Fields : Type 0 where
  pub number : ℕ → ℕ → Option ℕ
  pub signed : ℕ → Option ℤ
  pub text : ℕ → ℕ → Option (List ℕ)

-- what the field at a place says as a value of a column
abbrev pub value_said : Fields → Domain → ℕ → Option Value
value_said fields (Unsigned width low high) place =
    option_map (λ number. values.Whole (pos number)) (fields.number (8 * width) place)
value_said fields (Signed low high) place = option_map values.Whole (fields.signed place)
value_said fields (Text width) place = option_map values.Text (fields.text width place)
value_said fields (OneOf width words) place = option_map values.Text (fields.text width place)

-- the values that the fields from a place on say, if each of them says one
abbrev pub values_said : Fields → List Column → ℕ → Option (List Value)
values_said fields [] place = Some []
values_said fields (column ∷ columns) place =
    option_and_then (λ value. option_map (λ row. value ∷ row) (values_said fields columns (place + 1)))
    (value_said fields column.domain place)
