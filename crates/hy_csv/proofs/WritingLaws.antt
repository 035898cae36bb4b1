-- The text of rows, as far as it was written.
use Rattle.std.proofs.Common.{◌≡◌, ◌+◌, ◌-◌, ◌^◌, ◌<◌, ◌∙◌, ◌++◌, ◌∷◌, ◌==◌, ◌||◌, not, ◌&&◌, false, ℕ, List, [], length, map, drop, get_or, Option, Some, None, OnOk, Result, Ok, Err, zero, suc, refl, sym, ap, arith, append_assoc, min}
use Rattle.std.specs.Prelude.{option_map, if◌then◌else◌}
use Rattle.std.specs.List.{concat}
use Rattle.std.proofs.Math.Nat.{min-eq_left}
use Rattle.std.proofs.lemmas.Bool.{and_right, ne_eqb}
use Rattle.std.proofs.lemmas.List.{append-nil, drop_more, length-map}
use Rattle.csv.specs.Writing.{default_writer, field_text, fields_text, is_blank, next_sep, row_text}
use Rattle.hy_rows.specs.Catalogue.{columns_of, names_of}
use Rattle.hy_rows.specs.Columns.{Column, defined}
use Rattle.hy_rows.specs.Records.{after_all}
use Rattle.hy_rows.specs.declared.catalogue.Table.{Table}
use Rattle.hy_rows.specs.declared.column.ColumnDefinition.{ColumnDefinition}
use Rattle.hy_rows.specs.declared.value.Value.{Value}
use Rattle.hy_rows.proofs.CatalogueLaws.{columns-few}
use Rattle.hy_csv.specs.Fields.{field_of, fields_of}
use Rattle.hy_csv.specs.Texts.{text_of_rows}
use Rattle.hy_csv.specs.inside.Names.{names_in}
use Rattle.hy_csv.specs.inside.Writers.{Written, between, with_end, with_field, with_fields, with_record, with_value}
use Rattle.hy_csv.proofs.TableLaws.{columns-many, names-few, names-many}

-- the values of a row are the fields of its record
after_known : (columns : List Column) (row : List Value) (written : Written) → length row ≡ length columns
    → after_all with_value (Some written) columns row ≡ Some (with_fields written (fields_of row))
after_known [] [] written same = refl
after_known [] (value ∷ row) written same = absurd (omega (arith, same))
after_known (column ∷ columns) [] written same = absurd (omega (arith, same))
after_known (column ∷ columns) (value ∷ row) written same =
    after_known columns row (with_field written (field_of value)) (omega (arith, same))

after_unknown : (columns : List Column) (row : List Value) → after_all with_value None columns row ≡ None
after_unknown [] row = refl
after_unknown (column ∷ columns) [] = refl
after_unknown (column ∷ columns) (value ∷ row) = after_unknown columns row

pub after_all-fields : (columns : List Column) (row : List Value) (written : Option Written) → length row ≡ length columns
    → after_all with_value written columns row ≡ option_map (λ known. with_fields known (fields_of row)) written
after_all-fields columns row None same = after_unknown columns row
after_all-fields columns row (Some known) same = after_known columns row known same

-- fields behind the first one of a record
fields-later : (fields : List (List ℕ)) (written : Written) → 0 < written.fields
    → written.fields + length fields < 2 ^ 64 - 1
    → ((with_fields written fields).text ≡ written.text ++ fields_text default_writer fields)
    × ((with_fields written fields).fields ≡ written.fields + length fields)
unfolding fields_text
fields-later [] written some few = (sym (append-nil written.text), omega arith)
fields-later (field ∷ fields) written some few =
    let shown = field_text default_writer field in
    let behind = fields_text default_writer fields in
    let apart : next_sep default_writer written.fields ≡ 44 ∷ [] =
    rw (ne_eqb written.fields 0 (λ none. omega (arith, none, some))) refl in
    let count : min (written.fields + 1) (2 ^ 64 - 1) ≡ written.fields + 1 = min-eq_left (omega (arith, few)) in
    let later = fields-later fields (with_field written field) (rw count (omega arith)) (rw count (omega (arith, few))) in (
      later.0 ∙ ap (λ front. (written.text ++ (front ++ shown)) ++ behind) apart
          ∙ append_assoc written.text (44 ∷ shown) behind,
      later.1 ∙ rw count (omega arith),
    )

-- a record of two fields or more
pub record-between : (fields : List (List ℕ)) (text : List ℕ) → 1 < length fields → length fields < 2 ^ 64 - 1
    → with_record fields (between text) ≡ between (text ++ row_text default_writer fields)
unfolding is_blank
record-between [] text some few = absurd (omega (arith, some))
record-between (field ∷ []) text some few = absurd (omega (arith, some))
record-between (field ∷ other ∷ fields) text some few =
    let first = with_field (between text) field in
    let all = with_fields first (other ∷ fields) in
    let shown = field_text default_writer field in
    let later = fields-later (other ∷ fields) first (omega arith) (omega (arith, few)) in
    let not_none = ne_eqb all.fields 0 (λ none. omega (arith, none, later.1)) in
    let not_one = ne_eqb all.fields 1 (λ one. omega (arith, one, later.1)) in
    let plain : (not all.shown && ((all.fields == 0) || (all.fields == 1))) ≡ false =
    and_right (not all.shown) _ (rw (not_none, not_one) refl) in
    ap between (
    ap (λ blank. all.text ++ ((if blank then 34 ∷ 34 ∷ [] else []) ++ 10 ∷ [])) plain
    ∙ ap (λ before. before ++ 10 ∷ []) later.0
    ∙ append_assoc (text ++ shown) (fields_text default_writer (other ∷ fields)) (10 ∷ [])
    ∙ append_assoc text shown (fields_text default_writer (other ∷ fields) ++ 10 ∷ [])
    ∙ ap (λ behind. text ++ behind) (sym (append_assoc shown (fields_text default_writer (other ∷ fields)) (10 ∷ [])))
    )

-- the values of a row and the end of its record
pub row_ended : {Taken Refused : Type 0} (columns : List Column) (row : List Value) (old now new : Option Written)
    → (result : Result Taken Refused) → length row ≡ length columns → now ≡ after_all with_value old columns row
    → OnOk result (new ≡ option_map with_end now) → OnOk result (new ≡ option_map (with_record (fields_of row)) old)
row_ended columns row old now new (Ok taken) same put ends =
    ends ∙ ap (option_map with_end) (put ∙ after_all-fields columns row old same) ∙ both old
  where
    both : (written : Option Written)
        → option_map with_end (option_map (λ known. with_fields known (fields_of row)) written)
        ≡ option_map (with_record (fields_of row)) written
    both None = refl
    both (Some known) = refl
row_ended columns row old now new (Err refused) same put ends = ends

-- the names of columns from a place on
drop-name : (columns : List ColumnDefinition) (place : ℕ) (other : ColumnDefinition) → place < length columns
    → drop place (names_in columns) ≡ (get_or columns place other).name.now ∷ drop (place + 1) (names_in columns)
drop-name [] place other within = absurd (omega (arith, within))
drop-name (column ∷ columns) zero other within = refl
drop-name (column ∷ columns) (suc place) other within =
    let more : suc place + 1 ≡ suc (place + 1) = omega arith in
    rw more (drop-name columns place other (omega (arith, within)))

with_first : (name : List ℕ) (names : List (List ℕ)) (written : Option Written)
    → option_map (with_record names) (option_map (λ known. with_field known name) written)
    ≡ option_map (with_record (name ∷ names)) written
with_first name names None = refl
with_first name names (Some known) = refl

-- one name more
pub name_written : (columns : List ColumnDefinition) (place : ℕ) (other : ColumnDefinition)
    → (old now : Option Written) (whole : Option Written) → place < length columns
    → now ≡ option_map (λ known. with_field known (get_or columns place other).name.now) old
    → option_map (with_record (drop place (names_in columns))) old ≡ whole
    → option_map (with_record (drop (place + 1) (names_in columns))) now ≡ whole
name_written columns place other old now whole within writes before =
    let name = (get_or columns place other).name.now in
    let later = drop (place + 1) (names_in columns) in
    ap (option_map (with_record later)) writes ∙ with_first name later old
    ∙ ap (λ names. option_map (with_record names) old) (sym (drop-name columns place other within)) ∙ before

-- the text of rows behind the names of their columns
abbrev pub rows_text : {Row : Type 0} → (Row → List (List ℕ)) → List Row → List ℕ
rows_text fields_of rows = concat (map (row_text default_writer) (map fields_of rows))

-- a writer that has written this text, where that of these rows is still to come
abbrev pub WritesRows : {Row : Type 0} → List (List ℕ) → (Row → List (List ℕ)) → List Row → List Row
    → Option Written → Type 0
WritesRows names fields_of rows later written =
    (text : List ℕ) × (written ≡ Some (between text))
    × (text ++ rows_text fields_of later ≡ text_of_rows names fields_of rows)

-- the names, before all rows
pub names_written : {Row : Type 0} (table : Table) (columns : List ColumnDefinition) (fields_of : Row → List (List ℕ))
    → (rows : List Row) (old new : Option Written) → map defined columns ≡ columns_of table → old ≡ Some (between [])
    → new ≡ option_map (with_record (names_in columns)) old → WritesRows (names_of table) fields_of rows rows new
names_written table columns fields_of rows old new columns_are begins writes =
    let names = names_of table in
    let named = ap (λ all. map (λ column. column.name) all) columns_are in (
      row_text default_writer names,
      writes ∙ ap (λ names. option_map (with_record names) old) named ∙ ap (option_map (with_record names)) begins
          ∙ ap (λ written. Some written) (record-between names [] (names-many table) (names-few table)),
      refl,
    )

-- one row more
pub row_written : {Row : Type 0} (table : Table) (values_of : Row → List Value) (rows : List Row) (place : ℕ) (row : Row)
    → (old new : Option Written) → length (values_of row) ≡ length (columns_of table) → place < length rows
    → get_or rows place row ≡ row
    → WritesRows (names_of table) (λ row. fields_of (values_of row)) rows (drop place rows) old
    → new ≡ option_map (with_record (fields_of (values_of row))) old
    → WritesRows (names_of table) (λ row. fields_of (values_of row)) rows (drop (place + 1) rows) new
row_written table values_of rows place row old new long within is before writes =
    let (text, known, whole) = before in
    let next = rw is at (drop_more rows place row within) in
    let fields = fields_of (values_of row) in
    let added = row_text default_writer fields in
    let count = length-map (values_of row) field_of ∙ long in
    let some : 1 < length fields = omega (arith, count, columns-many table) in
    let few : length fields < 2 ^ 64 - 1 = omega (arith, count, columns-few table) in (
      text ++ added,
      writes ∙ ap (option_map (with_record fields)) known
          ∙ ap (λ written. Some written) (record-between fields text some few),
      append_assoc text added (rows_text (λ row. fields_of (values_of row)) (drop (place + 1) rows)) ∙ rw next at whole,
    )
