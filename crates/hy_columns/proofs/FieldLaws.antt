-- The fields of a row, by the places of its columns.
use Rattle.std.proofs.Common.{◌≡◌, ◌≢◌, ℕ, zero, suc, ◌+◌, ◌<◌, ◌≤◌, ◌==◌, ◌||◌, Bool, true, false, Option, Some, None, IsTrue, List, [], ◌∷◌, length, map, take, option_map, refl, sym, ap, ◌∙◌, ◌^◌, ◌⊎◌, inl, inr, arith}
use Rattle.std.specs.List.{list_all}
use Rattle.std.specs.Prelude.{slice_get, slice_index_or}
use Rattle.std.proofs.lemmas.Bool.{and_parts, cases_lt, eqb-true, false≢true, ne_eqb}
use Rattle.std.proofs.lemmas.List.{length-map, take-map}
use Rattle.std.proofs.lemmas.Option.{slice_get-get_or, slice_get-map}
use Rattle.hy_rows.specs.Catalogue.{columns_of}
use Rattle.hy_rows.specs.Columns.{Column, defined, domain_of, offset_of, row_width, value_at as value_of, values_from, values_in, width_of}
use Rattle.hy_rows.specs.Rows.{value_at}
use Rattle.hy_rows.specs.declared.catalogue.Table.{Table}
use Rattle.hy_rows.specs.declared.catalogue.Table.TheVariants as tables
use Rattle.hy_rows.specs.declared.column.ColumnDefinition.{ColumnDefinition}
use Rattle.hy_rows.proofs.CatalogueLaws.{row-few}
use Rattle.hy_columns.specs.declared.fields.Field.{Field}
use Rattle.hy_columns.specs.inside.Fields.{IsField, end_of, is_read, is_width, value_in}

-- the value at a place of a row is that of its column, which begins where those before it end
value-from : (columns : List Column) (place offset : ℕ) (bytes : List ℕ) (column : Column)
    → slice_get columns place ≡ Some column
    → value_at (values_from columns offset bytes) place
    ≡ value_of column.domain bytes (offset + offset_of columns place)
value-from [] place offset bytes column is = absurd (cc)
value-from (first ∷ others) zero offset bytes column is =
    let same : first ≡ column = cc in
    let here : offset ≡ offset + 0 = omega arith in
    ap (λ (column : Column). value_of column.domain bytes offset) same ∙ ap (value_of column.domain bytes) here
value-from (first ∷ others) (suc place) offset bytes column is =
    let width : ℕ = width_of first.domain in
    let further : (offset + width) + offset_of others place ≡ offset + (width + offset_of others place) = omega arith in
    value-from others place (offset + width) bytes column is ∙ ap (value_of column.domain bytes) further

-- a column ends within the row
end-within : (columns : List Column) (place : ℕ) (column : Column) → slice_get columns place ≡ Some column
    → offset_of columns place + width_of column.domain ≤ row_width columns
end-within [] place column is = absurd (cc)
end-within (first ∷ others) zero column is =
    let same : first ≡ column = cc in
    let width = ap (λ (column : Column). width_of column.domain) same in
    omega (arith, width)
end-within (first ∷ others) (suc place) column is = omega (arith, end-within others place column is)

-- columns before others take no more bytes than all
offset-within : (columns : List Column) (place : ℕ) → offset_of columns place ≤ row_width columns
offset-within [] zero = omega arith
offset-within [] (suc place) = omega arith
offset-within (column ∷ columns) zero = omega arith
offset-within (column ∷ columns) (suc place) = omega (arith, offset-within columns place)

-- ---- the columns as they are written

-- those before a place take few bytes
pub offset-written : (table : Table) (written : List ColumnDefinition) (place : ℕ)
    → map defined written ≡ columns_of table
    → row_width (map defined (take place written)) ≡ offset_of (columns_of table) place
offset-written table written place are =
    ap row_width (sym (take-map defined place written)) ∙ ap (λ columns. offset_of columns place) are

pub offset-few : (table : Table) (place : ℕ) → offset_of (columns_of table) place < 2 ^ 32
offset-few table place = omega (arith, offset-within (columns_of table) place, row-few table)

-- the one at a place has the domain of the table's
pub domain-written : (table : Table) (written : List ColumnDefinition) (place : ℕ) (other : ColumnDefinition)
    → map defined written ≡ columns_of table → place < length (columns_of table)
    → option_map (λ column. column.domain) (slice_get (columns_of table) place)
    ≡ Some (domain_of (slice_index_or written place other).domain)
domain-written table written place other are within =
    let there : place < length written = omega (arith, within, ap length are, length-map written defined) in
    ap (λ columns. option_map (λ (column : Column). column.domain) (slice_get columns place)) (sym are)
    ∙ ap (option_map (λ (column : Column). column.domain)) (slice_get-map defined written place
    ∙ ap (option_map defined) (slice_get-get_or written place other there))

-- ---- the field of a column

-- what holds of each column holds of the one at a place
at-place : (test : Column → Bool) (columns : List Column) (place : ℕ) (column : Column)
    → slice_get columns place ≡ Some column → list_all test columns ≡ true → test column ≡ true
at-place test [] place column is all = absurd (cc)
at-place test (first ∷ others) zero column is all =
    let same : first ≡ column = cc in
    sym (ap test same) ∙ (and_parts (test first) (list_all test others) all).0
at-place test (first ∷ others) (suc place) column is all =
    at-place test others place column is (and_parts (test first) (list_all test others) all).1

-- all tables have columns that can be read
columns-read : (table : Table) → list_all (λ column. is_read column.domain) (columns_of table) ≡ true
columns-read table =
    elim table as (λ table. list_all (λ column. is_read column.domain) (columns_of table) ≡ true)
    [ tables.Warehouse ↦ refl | _ ↦ refl ]

-- what is known of the column that a field is
module _ (columns : List Column) (place : ℕ) (field : Field) (is : IsField columns place field) where
  column_of : (found : Option Column) → slice_get columns place ≡ found
      → option_map (λ column. column.domain) found ≡ Some (domain_of field.domain)
      → (column : Column) × (slice_get columns place ≡ Some column) × (column.domain ≡ domain_of field.domain)
  column_of None at domain = absurd (cc)
  column_of (Some column) at domain = (column, at, cc)

  abbrev column : (column : Column) × (slice_get columns place ≡ Some column)
      × (column.domain ≡ domain_of field.domain)
  column = column_of (slice_get columns place) refl is.domain

  -- it has the value at its place
  pub field-value : (bytes : List ℕ) → value_at (values_in columns bytes) place ≡ value_in field bytes
  field-value bytes =
      value-from columns place 0 bytes column.0 column.1
      ∙ ap (λ domain. value_of domain bytes (0 + offset_of columns place)) column.2
      ∙ ap (value_of (domain_of field.domain) bytes) (begins ∙ sym is.offset)
    where
      begins : 0 + offset_of columns place ≡ offset_of columns place
      begins = omega arith

  -- it lies within the row
  pub field-within : end_of field ≤ row_width columns
  field-within =
      omega (arith, is.offset, ap width_of column.2, end-within columns place column.0 column.1)

  -- and it can be read, where each column can
  pub field-read : list_all (λ column. is_read column.domain) columns ≡ true → IsTrue (is_read (domain_of field.domain))
  field-read all =
      sym (ap is_read column.2) ∙ at-place (λ column. is_read column.domain) columns place column.0 column.1 all

pub field-read_of : (table : Table) (place : ℕ) (field : Field) → IsField (columns_of table) place field
    → IsTrue (is_read (domain_of field.domain))
field-read_of table place field is = field-read (columns_of table) place field is (columns-read table)

-- a width that is none of the first three is the last
pub width-eight : (width : ℕ) → IsTrue (is_width width) → width ≢ 1 → width ≢ 2 → width ≢ 4 → width ≡ 8
width-eight width read one two four =
    let last : ((width == 8) || false) ≡ true =
    rw (ne_eqb width 1 one, ne_eqb width 2 two, ne_eqb width 4 four) at read in
    eqb-true width 8 (or_false (width == 8) ∙ last)
  where
    or_false : (test : Bool) → test ≡ (test || false)
    or_false true = refl
    or_false false = refl

-- each width is of a few bytes
pub width-few : (width : ℕ) → IsTrue (is_width width) → (0 < width) × (width ≤ 8)
width-few zero read = absurd (false≢true read)
width-few (suc less) read = (omega arith, most (cases_lt 8 (suc less)))
  where
    most : (8 < suc less) ⊎ (suc less ≤ 8) → suc less ≤ 8
    most (inl more) =
        let eight = width-eight (suc less) read (λ is. omega (arith, more, is)) (λ is. omega (arith, more, is)) (λ is. omega (arith, more, is)) in
        absurd (omega (arith, more, eight))
    most (inr few) = few
