-- Where a reader stands in its text.
use Rattle.std.specs.Prelude.{◌≡◌, ◌+◌, ℕ, List, length, Some}
use Rattle.std.specs.Borrow.{Bor}
use Rattle.csv.specs.Reading.{Ready, default_config, reader_config, reader_state, reader_trim, records_from, source_of}
use Rattle.csv.specs.declared.parser.State.{State}
use Rattle.csv.specs.declared.reader.Reader.{Reader}
use Rattle.csv.specs.declared.reader.Trim.TheVariants as trim

-- the records of a text from a state
abbrev pub records_at : State → List ℕ → List (List (List ℕ))
records_at state text = records_from default_config (length text + 1) state text

-- a reader of the usual form that stands before these records
pub record StandsBefore (later : List (List (List ℕ))) (reader : Reader (Bor (List ℕ))) : Type 0 where
  pub config : reader_config reader ≡ default_config
  pub trim : reader_trim reader ≡ trim.None
  pub ready : Ready reader
  pub text : List ℕ
  pub source : source_of (λ slice. Some slice.now) reader ≡ Some text
  pub records : records_at (reader_state reader) text ≡ later
