-- A row whose values fields can say is what its record says.
use Rattle.std.proofs.Common.{◌≡◌, ◌∙◌, ◌+◌, ◌*◌, ◌^◌, ◌<◌, ◌≤◌, ℕ, pos, negsuc, true, List, [], ◌∷◌, ◌++◌, length, Some, refl, arith, append_assoc, lit<}
use Rattle.std.specs.List.{list_all}
use Rattle.std.proofs.Math.Nat.{pow-le-pow_right}
use Rattle.std.proofs.lemmas.Bool.{and_parts, eq-eqb, leb-true}
use Rattle.std.proofs.lemmas.List.{length-append, length-map}
use Rattle.csv.specs.Records.{field_at}
use Rattle.hy_decimal.proofs.NumberLaws.{number-reads}
use Rattle.hy_rows.specs.Catalogue.{columns_of}
use Rattle.hy_rows.specs.Columns.{Column, Domain, OneOf, Signed, Text, Unsigned}
use Rattle.hy_rows.specs.Records.{value_said, values_said}
use Rattle.hy_rows.specs.declared.catalogue.Table.{Table}
use Rattle.hy_rows.specs.declared.value.Value.{Value}
use Rattle.hy_rows.specs.declared.value.Value.TheVariants as values
use Rattle.hy_csv.specs.Fields.{AllFitFields, FitsField, field_of, fields_of, row_of, said_by}
use Rattle.hy_csv.proofs.FieldLaws.{signed-reads, text-reads}
use Rattle.hy_csv.proofs.TableLaws.{columns-narrow, is_narrow}

-- the field behind others
field_at-behind : (front later : List (List ℕ)) (field : List ℕ) → field_at (front ++ field ∷ later) (length front) ≡ Some field
unfolding field_at
field_at-behind [] later field = refl
field_at-behind (other ∷ front) later field = field_at-behind front later field

-- a number of so few bytes has 64 bits
wide : (width number : ℕ) → width ≤ 8 → number < 2 ^ (8 * width) → number < 2 ^ 64
wide width number narrow fits = omega (arith, fits, pow-le-pow_right {n = 2} (lit< tt) {i = 8 * width} {j = 64} (omega (arith, narrow)))

-- a field says the value that it was written as
value_said-field : (domain : Domain) (value : Value) (fields : List (List ℕ)) (place : ℕ) → is_narrow domain ≡ true
    → FitsField domain value → field_at fields place ≡ Some (field_of value)
    → value_said (said_by fields) domain place ≡ Some value
value_said-field (Unsigned width low high) (values.Whole (pos number)) fields place narrow fits is =
    rw (is, number-reads (8 * width) number fits (wide width number (leb-true width 8 narrow) fits)) refl
value_said-field (Unsigned width low high) (values.Whole (negsuc number)) fields place narrow fits is = absurd fits
value_said-field (Unsigned width low high) (values.Text text) fields place narrow fits is = absurd fits
value_said-field (Signed low high) (values.Whole number) fields place narrow fits is =
    rw (is, signed-reads number fits.sfits) refl
value_said-field (Signed low high) (values.Text text) fields place narrow fits is = absurd fits
value_said-field (Text width) (values.Whole number) fields place narrow fits is = absurd fits
value_said-field (Text width) (values.Text text) fields place narrow fits is = rw (is, text-reads width text fits) refl
value_said-field (OneOf width words) (values.Whole number) fields place narrow fits is = absurd fits
value_said-field (OneOf width words) (values.Text text) fields place narrow fits is = rw (is, text-reads width text fits) refl

-- the fields behind others say the values that they were written as
values_said-fields : (columns : List Column) (row : List Value) (front : List (List ℕ))
    → list_all (λ column. is_narrow column.domain) columns ≡ true → AllFitFields columns row
    → values_said (said_by (front ++ fields_of row)) columns (length front) ≡ Some row
values_said-fields [] [] front narrow fits = refl
values_said-fields [] (value ∷ row) front narrow fits = absurd fits
values_said-fields (column ∷ columns) [] front narrow fits = absurd fits
values_said-fields (column ∷ columns) (value ∷ row) front narrow fits =
    let field = field_of value in
    let all = front ++ field ∷ fields_of row in
    let narrow_parts = and_parts (is_narrow column.domain) (list_all (λ column. is_narrow column.domain) columns) narrow in
    let here = value_said-field column.domain value all (length front) narrow_parts.0 fits.0
    (field_at-behind front (fields_of row) field) in
    let more : length (front ++ field ∷ []) ≡ length front + 1 = length-append front (field ∷ []) in
    let later = values_said-fields columns row (front ++ field ∷ []) narrow_parts.1 fits.1 in
    let behind : values_said (said_by all) columns (length front + 1) ≡ Some row =
    rw (more, append_assoc front (field ∷ []) (fields_of row)) at later in
    rw (here, behind) refl

-- a row of values that fit has a value for each column
length-fits : (columns : List Column) (row : List Value) → AllFitFields columns row → length row ≡ length columns
length-fits [] [] fits = refl
length-fits [] (value ∷ row) fits = absurd fits
length-fits (column ∷ columns) [] fits = absurd fits
length-fits (column ∷ columns) (value ∷ row) fits = omega (arith, length-fits columns row fits.1)

-- the record of a row says this row
pub row-reads : {Row : Type 0} (table : Table) (row_with : List Value → Row) (row : List Value)
    → AllFitFields (columns_of table) row → row_of table row_with (fields_of row) ≡ Some (row_with row)
row-reads table row_with row fits =
    let long = eq-eqb (length (fields_of row)) (length (columns_of table))
    (length-map row field_of ∙ length-fits (columns_of table) row fits) in
    rw (long, values_said-fields (columns_of table) row [] (columns-narrow table) fits) refl
