-- The records of a text, one by one.
use Rattle.std.proofs.Common.{◌≡◌, ◌+◌, ◌<◌, ◌≤◌, ◌∙◌, ◌++◌, ◌∷◌, [], ℕ, zero, suc, List, length, Bool, true, false, Option, Some, None, MatchBool, arith, refl, sym, ap, inl, inr, Bor}
use Rattle.std.specs.Prelude.{unwrap_or}
use Rattle.std.proofs.lemmas.Bool.{cases_Bool}
use Rattle.csv.specs.Machine.{Read, ends_at_end, field_after, fields_after, is_end, next_record, step}
use Rattle.csv.specs.Reading.{ReadRecord, Reached, default_config, records_from, records_next, took_first}
use Rattle.csv.specs.declared.parser.Config.{Config}
use Rattle.csv.specs.declared.parser.State.{State}
use Rattle.csv.specs.declared.parser.State.TheVariants as st
use Rattle.csv.specs.declared.reader.Reader.{Reader}
use Rattle.csv.proofs.ReadFacts.{rows-end, rows-more}
use Rattle.hy_csv.specs.inside.Readers.{StandsBefore, records_at}

-- a record takes no more than the text
shorter : (config : Config) (state : State) (fields : List (List ℕ)) (field text : List ℕ) (read : Read)
    → next_record config state fields field text ≡ Some read → length read.2 ≤ length text
unfolding next_record
shorter config state fields field [] read is = elim (cases_Bool (ends_at_end state)) [
  | inl ends ↦
      let found : Some (fields ++ (field ∷ []), st.StartRecord, []) ≡ Some read = rw ends at is in
      let same = ap (λ option. length (unwrap_or option read).2) found in
      omega (arith, same)
  | inr goes_on ↦
      let missing : ◌≡◌ {A = Option Read} None (Some read) = rw goes_on at is in
      absurd (cc missing)
]
shorter config state fields field (byte ∷ text) read is = elim (cases_Bool (is_end (step config state byte).1)) [
  | inl ends ↦
      let found : Some (fields_after (step config state byte).1 fields field, (step config state byte).0, text)
      ≡ Some read = rw ends at is in
      let same = ap (λ option. length (unwrap_or option read).2) found in
      omega (arith, same)
  | inr goes_on ↦
      let later = shorter config (step config state byte).0 (fields_after (step config state byte).1 fields field)
      (field_after (step config state byte).1 byte field) text read (rw goes_on at is) in
      omega (arith, later)
]

-- no record is left at the end
none_left : (config : Config) (count : ℕ) → records_from config count st.StartRecord [] ≡ []
unfolding records_from next_record
none_left config zero = refl
none_left config (suc count) = refl

-- a record at the end of a text leaves nothing
ended : (config : Config) (state : State) (read : Read) → next_record config state [] [] [] ≡ Some read
    → (read.1 ≡ st.StartRecord) × (read.2 ≡ [])
unfolding next_record
ended config state read is = elim (cases_Bool (ends_at_end state)) [
  | inl ends ↦
      let found : Some ([] ∷ [], st.StartRecord, []) ≡ Some read = rw ends at is in
      (sym (ap (λ option. (unwrap_or option read).1) found), sym (ap (λ option. (unwrap_or option read).2) found))
  | inr goes_on ↦
      let missing : ◌≡◌ {A = Option Read} None (Some read) = rw goes_on at is in
      absurd (cc missing)
]

-- a record at the start of a text takes at least a byte
takes_some : (config : Config) (state : State) (byte : ℕ) (text : List ℕ) (read : Read)
    → next_record config state [] [] (byte ∷ text) ≡ Some read → length read.2 ≤ length text
unfolding next_record
takes_some config state byte text read is = elim (cases_Bool (is_end (step config state byte).1)) [
  | inl ends ↦
      let found : Some (fields_after (step config state byte).1 [] [], (step config state byte).0, text) ≡ Some read =
      rw ends at is in
      let same = ap (λ option. length (unwrap_or option read).2) found in
      omega (arith, same)
  | inr goes_on ↦
      shorter config (step config state byte).0 (fields_after (step config state byte).1 [] [])
      (field_after (step config state byte).1 byte []) text read (rw goes_on at is)
]

-- what is left after a record, where one count is as good as another for each shorter text
left_same : (config : Config) (count other : ℕ) (state : State) (text : List ℕ)
    → ((state' : State) (later : List ℕ) → length later < count → length later < other
    → records_from config count state' later ≡ records_from config other state' later)
    → length text ≤ count → length text ≤ other → (read : Read) → next_record config state [] [] text ≡ Some read
    → records_from config count read.1 read.2 ≡ records_from config other read.1 read.2
left_same config count other state [] same long longer read is =
    let end = ended config state read is in
    rw (end.0, end.1) (none_left config count ∙ sym (none_left config other))
left_same config count other state (byte ∷ text) same long longer read is =
    let left = takes_some config state byte text read is in
    same read.1 read.2 (omega (arith, left, long)) (omega (arith, left, longer))

records_same : (config : Config) (count other : ℕ) (next : Option Read)
    → ((read : Read) → next ≡ Some read
    → records_from config count read.1 read.2 ≡ records_from config other read.1 read.2)
    → records_next (records_from config count) next ≡ records_next (records_from config other) next
records_same config count other None same = refl
records_same config count other (Some read) same = ap (λ later. read.0 ∷ later) (same read refl)

-- one count that is great enough is as good as another
enough : (config : Config) (count other : ℕ) (state : State) (text : List ℕ) → length text < count
    → length text < other → records_from config count state text ≡ records_from config other state text
unfolding records_from
enough config zero other state text long longer = absurd (omega (arith, long))
enough config (suc count) zero state text long longer = absurd (omega (arith, longer))
enough config (suc count) (suc other) state text long longer =
    records_same config count other (next_record config state [] [] text)
    (left_same config count other state text (enough config count other) (omega (arith, long)) (omega (arith, longer)))

-- the first record, and those behind it
records-first : (state : State) (text : List ℕ) (read : Read)
    → next_record default_config state [] [] text ≡ Some read
    → records_at state text ≡ read.0 ∷ records_at read.1 read.2
unfolding records_from
records-first state [] read is =
    let end = ended default_config state read is in
    rw (is, end.0, end.1) (ap (λ later. read.0 ∷ later) (sym (none_left default_config 1)))
records-first state (byte ∷ text) read is =
    let left = takes_some default_config state byte text read is in
    let more : length (byte ∷ text) + 1 ≡ suc (length text + 1) = omega arith in
    rw (more, is) (ap (λ later. read.0 ∷ later)
    (enough default_config (length text + 1) (length read.2 + 1) read.1 read.2 (omega (arith, left)) (omega arith)))

records-none : (state : State) (text : List ℕ) → next_record default_config state [] [] text ≡ None
    → records_at state text ≡ []
unfolding records_from
records-none state text is =
    let more : length text + 1 ≡ suc (length text) = omega arith in
    rw (more, is) refl

-- a text from which one record was taken
one_taken : (state after : State) (text left : List ℕ) (fields : List (List ℕ))
    → Reached default_config state text (fields ∷ []) after left
    → records_at state text ≡ fields ∷ records_at after left
unfolding Reached
one_taken state after text left fields reached =
    let (next, is, fields_are, ends) = reached in
    records-first state text next is ∙ rw (fields_are, ends.0, ends.1) refl

-- a reader that took a record stands behind it
pub took : (old new : Reader (Bor (List ℕ))) (fields : List (List ℕ)) (records : List (List (List ℕ)))
    → StandsBefore records old → ReadRecord (λ slice. Some slice.now) old new true fields → took_first new ≡ true
    → (later : List (List (List ℕ))) × (records ≡ fields ∷ later) × StandsBefore later new
unfolding Reached
took old new fields records stands read first =
    let (left, source, reached) = rows-more (λ slice. Some slice.now) old new fields default_config old.state
    stands.text stands.text [] stands.config stands.source (refl, refl) read in (
      records_at new.state left,
      sym stands.records ∙ one_taken old.state new.state stands.text left fields reached,
      record {
        config = read.2 ∙ stands.config;
        trim = read.3 ∙ stands.trim;
        ready = inl first;
        text = left;
        source = source;
        records = refl;
      },
    )

-- a reader that took none stood at the end
pub took_none : (old new : Reader (Bor (List ℕ))) (fields : List (List ℕ)) (records : List (List (List ℕ)))
    → StandsBefore records old → ReadRecord (λ slice. Some slice.now) old new false fields → records ≡ []
took_none old new fields records stands read =
    sym stands.records ∙ records-none old.state stands.text (rows-end (λ slice. Some slice.now) old new fields
    default_config stands.text stands.config stands.source read)

-- both together
pub reads_next : (old new : Reader (Bor (List ℕ))) (found : Bool) (fields : List (List ℕ))
    → (records : List (List (List ℕ))) → StandsBefore records old
    → ReadRecord (λ slice. Some slice.now) old new found fields → took_first new ≡ true
    → MatchBool found ((later : List (List (List ℕ))) × (records ≡ fields ∷ later) × StandsBefore later new)
    (records ≡ [])
reads_next old new true fields records stands read first = took old new fields records stands read first
reads_next old new false fields records stands read first = took_none old new fields records stands read
