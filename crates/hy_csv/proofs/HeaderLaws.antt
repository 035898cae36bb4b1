-- The test of a header.
use Rattle.std.proofs.Common.{◌≡◌, ◌≢◌, ◌∙◌, ◌∷◌, ◌&&◌, ◌+◌, ◌-◌, ◌<◌, [], ℕ, zero, suc, List, length, map, drop, get_or, Bool, true, false, Option, Some, None, Bor, arith, refl, sym, ap}
use Rattle.std.proofs.lemmas.Bool.{and_right}
use Rattle.std.proofs.lemmas.List.{append-nil, length-map}
use Rattle.std.specs.Prelude.{unwrap_or, option_map, bytes_eq}
use Rattle.std.specs.Option.{option_eq}
use Rattle.csv.specs.Records.{field_at}
use Rattle.hy_rows.specs.Catalogue.{columns_of, names_of}
use Rattle.hy_rows.specs.Columns.{defined}
use Rattle.hy_rows.specs.declared.catalogue.Table.{Table}
use Rattle.hy_rows.specs.declared.column.ColumnDefinition.{ColumnDefinition}
use Rattle.hy_rows.specs.declared.value.Value.{Value}
use Rattle.hy_csv.specs.Fields.{row_lacking, row_of}
use Rattle.hy_csv.specs.Texts.{has_fields, is_header, row_under}
use Rattle.hy_csv.specs.inside.Names.{names_in}
use Rattle.hy_csv.proofs.RoundTripLaws.{own_fields}

-- records of another length have other fields
other_length : (fields names : List (List ℕ)) → length fields ≢ length names → has_fields fields names ≡ false
other_length [] [] other = absurd (other refl)
other_length [] (name ∷ names) other = refl
other_length (field ∷ fields) [] other = refl
other_length (field ∷ fields) (name ∷ names) other =
    and_right _ _ (other_length fields names (λ same. other (ap suc same)))

pub other_count : (fields : List (List ℕ)) (columns : List ColumnDefinition) → length fields ≢ length columns
    → false ≡ has_fields fields (names_in columns)
other_count fields columns other =
    sym (other_length fields (names_in columns)
    (λ same. other (same ∙ length-map (map defined columns) _ ∙ length-map columns defined)))

-- whether the field at a place is the name there
abbrev pub is_name : Option (Bor (List ℕ)) → Bor (List ℕ) → Bool
is_name got name = option_eq (λ field other. bytes_eq field.now other.now) got (Some name)

-- the fields from a place on: the one there, and then the others
pub has_step : (fields : List (List ℕ)) (columns : List ColumnDefinition) (place : ℕ) (other : ColumnDefinition)
    → (got : Option (Bor (List ℕ))) → place < length columns → length fields ≡ length columns
    → option_map (λ field. field.now) got ≡ field_at fields place
    → has_fields (drop place fields) (drop place (names_in columns))
    ≡ (is_name got (get_or columns place other).name
    && has_fields (drop (place + 1) fields) (drop (place + 1) (names_in columns)))
unfolding field_at
has_step fields [] place other got within even is = absurd (omega (arith, within))
has_step [] (column ∷ columns) place other got within even is = absurd (omega (arith, even))
has_step (field ∷ fields) (column ∷ columns) zero other None within even is = absurd (cc is)
has_step (field ∷ fields) (column ∷ columns) zero other (Some got) within even is =
    let same : got.now ≡ field = ap (λ option. unwrap_or option field) is in
    rw same refl
has_step (field ∷ fields) (column ∷ columns) (suc place) other got within even is =
    let more : suc place + 1 ≡ suc (place + 1) = omega arith in
    rw more (has_step fields columns place other got (omega (arith, within)) (omega (arith, even)) is)

-- the names of all columns are a header, under which a record lacks no field
pub names-is_header : (table : Table) → is_header table (names_of table) ≡ true
names-is_header table = rw (own_fields (names_of table)) refl

pub row_under-names : {Row : Type 0} (table : Table) (row_with : List Value → Row) (fields : List (List ℕ))
    → row_under table row_with (names_of table) fields ≡ row_of table row_with fields
row_under-names table row_with fields =
    let none : length (columns_of table) - length (names_of table) ≡ 0 =
    omega (arith, length-map (columns_of table) (λ column. column.name)) in
    ap (λ lacking. row_lacking table row_with lacking fields) none ∙ ap (row_of table row_with) (append-nil fields)

pub and_true : (first second : Bool) → first ≡ true → (first && second) ≡ second
and_true first second passes = rw passes refl
