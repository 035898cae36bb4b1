-- The names of columns, as records.
use Rattle.std.specs.Prelude.{ℕ, ◌<◌, List, [], ◌∷◌, map}
use Rattle.hy_rows.specs.Columns.{defined}
use Rattle.hy_rows.specs.declared.column.ColumnDefinition.{ColumnDefinition}

-- the names of columns as the code writes them
abbrev pub names_in : List ColumnDefinition → List (List ℕ)
names_in columns = map (λ column. column.name) (map defined columns)

-- the first field of a record begins with an ASCII byte: such a record begins as no byte order mark does
abbrev pub BeginsPlain : List (List ℕ) → Type 0
BeginsPlain [] = ⊥
BeginsPlain ([] ∷ fields) = ⊥
BeginsPlain ((byte ∷ bytes) ∷ fields) = byte < 128
