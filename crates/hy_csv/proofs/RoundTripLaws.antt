-- The text of rows says these rows.
use Rattle.std.proofs.Common.{◌≡◌, ◌+◌, ◌<◌, ◌≤◌, ◌∙◌, ◌++◌, ◌∷◌, [], ℕ, zero, suc, List, length, map, All, Bool, true, Option, Some, None, arith, refl, sym, ap, inl, inr}
use Rattle.std.specs.Prelude.{if◌then◌else◌}
use Rattle.std.specs.List.{concat}
use Rattle.std.proofs.lemmas.Bool.{and_from, cases_Bool, eq-eqb, ne_eqb}
use Rattle.std.proofs.lemmas.List.{length-append, length-map}
use Rattle.std.proofs.lemmas.Slice.Eq.{bytes_eq-Decides}
use Rattle.csv.specs.Machine.{next_record}
use Rattle.csv.specs.Reading.{default_config, records, records_from, strip_bom}
use Rattle.csv.specs.Writing.{default_writer, is_blank, needs_quotes, read_back, row_body, row_text}
use Rattle.csv.specs.declared.parser.State.TheVariants as st
use Rattle.csv.proofs.RoundTrip.{read-write}
use Rattle.hy_csv.specs.Texts.{has_fields, reading, rows_of, text_of_rows}
use Rattle.hy_csv.specs.inside.Names.{BeginsPlain}

-- a text that begins with an ASCII byte has no byte order mark
unmarked : (first : ℕ) (later : List ℕ) → first < 128 → strip_bom (first ∷ later) ≡ first ∷ later
unfolding strip_bom
unmarked first [] ascii = refl
unmarked first (second ∷ []) ascii = refl
unmarked first (second ∷ third ∷ later) ascii =
    rw (ne_eqb first 239 (λ same. omega (arith, same, ascii))) refl

names_unmarked : (names : List (List ℕ)) (text : List ℕ) → BeginsPlain names
    → strip_bom (row_text default_writer names ++ text) ≡ row_text default_writer names ++ text
names_unmarked [] text begins = absurd begins
names_unmarked ([] ∷ names) text begins = absurd begins
names_unmarked ((byte ∷ bytes) ∷ names) text begins =
    elim (cases_Bool (needs_quotes default_writer (byte ∷ bytes))) [
      | inl needs ↦ rw needs (unmarked 34 _ (omega arith))
      | inr plain ↦ rw plain (unmarked byte _ begins)
    ]

-- records that are written are read
read_written : (rows : List (List (List ℕ))) (count : ℕ) → length rows ≤ count
    → records_from default_config count st.StartRecord (concat (map (row_text default_writer) rows))
    ≡ map read_back rows
unfolding records_from next_record
read_written [] zero enough = refl
read_written [] (suc count) enough = refl
read_written (row ∷ rows) zero enough = absurd (omega (arith, enough))
read_written (row ∷ rows) (suc count) enough =
    rw (read-write row (concat (map (row_text default_writer) rows)))
    (ap (λ later. read_back row ∷ later) (read_written rows count (omega (arith, enough))))

-- each record has a byte
some_text : (row : List (List ℕ)) → 0 < length (row_text default_writer row)
some_text row =
    let blank : List ℕ = if is_blank default_writer row then 34 ∷ 34 ∷ [] else [] in
    omega (arith, length-append (row_body default_writer row) (blank ++ 10 ∷ []), length-append blank (10 ∷ []))

text_long : (rows : List (List (List ℕ))) → length rows ≤ length (concat (map (row_text default_writer) rows))
text_long [] = omega arith
text_long (row ∷ rows) =
    let whole = length-append (row_text default_writer row) (concat (map (row_text default_writer) rows)) in
    omega (arith, whole, some_text row, text_long rows)

-- a record with a field is read as it is
kept : (fields : List (List ℕ)) → 0 < length fields → read_back fields ≡ fields
kept [] some = absurd (omega (arith, some))
kept (field ∷ fields) some = refl

begins_kept : (names : List (List ℕ)) → BeginsPlain names → read_back names ≡ names
begins_kept [] begins = absurd begins
begins_kept (name ∷ names) begins = refl

all_kept : {Row : Type 0} (fields_of : Row → List (List ℕ)) (rows : List Row)
    → ((row : Row) → 0 < length (fields_of row)) → map read_back (map fields_of rows) ≡ map fields_of rows
all_kept fields_of [] some = refl
all_kept fields_of (row ∷ rows) some =
    rw (kept (fields_of row) (some row), all_kept fields_of rows some) refl

-- the records of rows that are read back say these rows
rows_back : {Row : Type 0} (fits : Row → Type 0) (fields_of : Row → List (List ℕ))
    → (row_of : List (List ℕ) → Option Row) (rows : List Row) → All fits rows
    → ((row : Row) → fits row → row_of (fields_of row) ≡ Some row) → rows_of row_of (map fields_of rows) ≡ rows
rows_back fits fields_of row_of [] all back = refl
rows_back fits fields_of row_of (row ∷ rows) all back =
    rw (back row (all 0 row (omega arith)))
    (ap (λ later. row ∷ later) (rows_back fits fields_of row_of rows
    (λ place other within. all (suc place) other (omega (arith, within))) back))

-- a record has its own fields
pub own_fields : (fields : List (List ℕ)) → has_fields fields fields ≡ true
own_fields [] = refl
own_fields (field ∷ fields) = and_from _ _ ((bytes_eq-Decides field field).1 refl) (own_fields fields)

-- the records of the text of rows
records_back : {Row : Type 0} (names : List (List ℕ)) (fields_of : Row → List (List ℕ)) (rows : List Row)
    → BeginsPlain names → ((row : Row) → 0 < length (fields_of row))
    → records default_config (strip_bom (text_of_rows names fields_of rows)) ≡ names ∷ map fields_of rows
records_back names fields_of rows begins some =
    let all = names ∷ map fields_of rows in
    let text = text_of_rows names fields_of rows in
    let plain = names_unmarked names (concat (map (row_text default_writer) (map fields_of rows))) begins in
    let read = read_written all (length text + 1) (omega (arith, text_long all)) in
    rw plain (read ∙ rw (begins_kept names begins, all_kept fields_of rows some) refl)

pub rows-reads_back : {Row : Type 0} (fits : Row → Type 0) (names : List (List ℕ))
    → (fields_of : Row → List (List ℕ)) (is_header : List (List ℕ) → Bool)
    → (row_under : List (List ℕ) → List (List ℕ) → Option Row) → BeginsPlain names → is_header names ≡ true
    → ((row : Row) → 0 < length (fields_of row))
    → ((row : Row) → fits row → row_under names (fields_of row) ≡ Some row) → (rows : List Row) → All fits rows
    → reading is_header row_under (text_of_rows names fields_of rows) ≡ record { rows = rows; unread = None }
rows-reads_back fits names fields_of is_header row_under begins header some back rows all =
    let found = records_back names fields_of rows begins some in
    let same = rows_back fits fields_of (row_under names) rows all back in
    let count = eq-eqb (length rows) (length (map fields_of rows)) (sym (length-map rows fields_of)) in
    rw (found, header, same, count) refl
