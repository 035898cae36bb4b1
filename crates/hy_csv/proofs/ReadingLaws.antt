-- The rows of a text, as far as they were read.
use Rattle.std.proofs.Common.{◌≡◌, ◌+◌, ◌∙◌, ◌++◌, ◌∷◌, [], ℕ, suc, List, length, Bool, true, false, Bor, Option, Some, None, Result, Ok, Err, IfOk, inr, arith, refl, sym, ap, append_assoc}
use Rattle.std.proofs.lemmas.Bool.{eq-eqb, ne_eqb}
use Rattle.std.proofs.lemmas.List.{append-nil, length-append}
use Rattle.csv.specs.Reading.{default_config, names_headers, reader_config, reader_headers, reader_state, reader_trim, records, source_of, strip_bom}
use Rattle.csv.specs.declared.parser.State.TheVariants as st
use Rattle.csv.specs.declared.reader.Reader.{Reader}
use Rattle.csv.specs.declared.reader.Trim.TheVariants as trim
use Rattle.hy_csv.specs.Texts.{reading_of, rows_before, rows_of}
use Rattle.hy_csv.specs.inside.Readers.{StandsBefore, records_at}

-- the records end behind the rows
pub rows_end : {Row : Type 0} (row_of : List (List ℕ) → Option Row) (rows : List Row)
    → (records later : List (List (List ℕ))) → rows_of row_of records ≡ rows ++ rows_of row_of later
    → length records ≡ length rows + length later → later ≡ []
    → record { rows = rows; unread = None } ≡ rows_before (length records) (rows_of row_of records)
rows_end row_of rows records later same long none =
    let whole : rows_of row_of records ≡ rows = rw none at same ∙ append-nil rows in
    let even : length rows ≡ length records = omega (arith, rw none at long) in
    rw (whole, eq-eqb (length rows) (length records) even) refl

-- the next record is no row
pub rows_stop : {Row : Type 0} (row_of : List (List ℕ) → Option Row) (rows : List Row)
    → (records later : List (List (List ℕ))) → rows_of row_of records ≡ rows ++ rows_of row_of later
    → length records ≡ length rows + length later → (fields : List (List ℕ)) (more : List (List (List ℕ)))
    → later ≡ fields ∷ more → None ≡ row_of fields
    → record { rows = rows; unread = Some (length rows + 1) } ≡ rows_before (length records) (rows_of row_of records)
rows_stop row_of rows records later same long fields more next none =
    let whole : rows_of row_of records ≡ rows = rw (next, ← none) at same ∙ append-nil rows in
    let more_records : length records ≡ length rows + suc (length more) = rw next at long in
    let uneven = ne_eqb (length rows) (length records) (λ even. omega (arith, even, more_records)) in
    rw (whole, uneven) refl

-- the next record is a row
pub rows_more : {Row : Type 0} (row_of : List (List ℕ) → Option Row) (rows : List Row)
    → (records later : List (List (List ℕ))) → rows_of row_of records ≡ rows ++ rows_of row_of later
    → length records ≡ length rows + length later → (fields : List (List ℕ)) (more : List (List (List ℕ))) (row : Row)
    → later ≡ fields ∷ more → Some row ≡ row_of fields
    → (rows_of row_of records ≡ (rows ++ row ∷ []) ++ rows_of row_of more)
    × (length records ≡ length (rows ++ row ∷ []) + length more)
rows_more row_of rows records later same long fields more row next some = (
  rw (next, ← some) at same ∙ sym (append_assoc rows (row ∷ []) (rows_of row_of more)),
  omega (arith, rw next at long, length-append rows (row ∷ [])),
)

-- a reader that is made stands before all records of its text
pub made_stands : (reader : Reader (Bor (List ℕ))) (text : List ℕ) → reader_config reader ≡ default_config
    → reader_trim reader ≡ trim.None → names_headers reader ≡ false → reader_headers reader ≡ None
    → reader_state reader ≡ st.StartRecord → source_of (λ slice. Some slice.now) reader ≡ Some (strip_bom text)
    → StandsBefore (records default_config (strip_bom text)) reader
made_stands reader text config trims headers none state source = record {
  config = config;
  trim = trims;
  ready = inr (inr (headers, none));
  text = strip_bom text;
  source = source;
  records = ap (λ state. records_at state (strip_bom text)) state;
}

-- what the header leaves to be read
pub header_right : {Row : Type 0} (is_header : List (List ℕ) → Bool)
    → (row_under : List (List ℕ) → List (List ℕ) → Option Row) (header : List (List ℕ))
    → (all later : List (List (List ℕ))) → all ≡ header ∷ later → is_header header ≡ true
    → rows_before (length later) (rows_of (row_under header) later) ≡ reading_of is_header row_under all
header_right is_header row_under header all later is right = rw (is, right) refl

pub header_wrong : {Row : Type 0} (is_header : List (List ℕ) → Bool)
    → (row_under : List (List ℕ) → List (List ℕ) → Option Row) (header : List (List ℕ))
    → (all later : List (List (List ℕ))) → all ≡ header ∷ later → is_header header ≡ false
    → record { rows = []; unread = Some 0 } ≡ reading_of is_header row_under all
header_wrong is_header row_under header all later is wrong = rw (is, wrong) refl

pub header_none : {Row : Type 0} (is_header : List (List ℕ) → Bool)
    → (row_under : List (List ℕ) → List (List ℕ) → Option Row) (all : List (List (List ℕ))) → all ≡ []
    → record { rows = []; unread = Some 0 } ≡ reading_of is_header row_under all
header_none is_header row_under all none = rw none refl

-- what holds of a value holds of it where there is one
pub if_ok : {Value Error : Type 0} {Fact Other : Value → Type 0} (result : Result Value Error)
    → ((value : Value) → Fact value → Other value) → IfOk result Fact → IfOk result Other
if_ok (Ok value) follows fact = follows value fact
if_ok (Err error) follows fact = tt
