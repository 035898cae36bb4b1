-- What a script prints, line by line, and the databases that it goes through.
use Rattle.std.specs.Prelude.{◌≡◌, ◌≢◌, ◌⊎◌, ℕ, List, [], ◌∷◌, ◌++◌, Option, None, Some, IsSomeAnd, MatchOption, ⊤}
use Rattle.std.specs.Io.KnownBytes.{Appends}
use Rattle.hy_schema.specs.declared.refusal.Refusal.TheVariants as refusals
use Rattle.hy_rows.specs.Tables.{Lists}
use Rattle.hy_events.specs.declared.event.Event.{Event}
use Rattle.hy_events.specs.Events.{TakesMemory, event_of}
use Rattle.hy_events.specs.Lines.{lines, numbered}
use Rattle.hy_session.specs.of_crossing.Making.{AllBegin}
use Rattle.hy_script.specs.Answers.{Answers, IsMisnamed, refused_text}
use Rattle.hy_script.specs.Databases.{DatabaseState}

-- a line that isn't empty is a bad event: it says none, or it misnames a snapshot
abbrev pub IsBad : DatabaseState → List ℕ → Type 0
IsBad database line = (line ≢ []) × MatchOption (event_of line) ⊤ (IsMisnamed database)

-- an answer to a line: an empty one has none, and each other one says an event, which is answered; or it says one that
-- takes memory to be read, which was refused before anything was done
abbrev pub AnswersLine : ℕ → List ℕ → DatabaseState → DatabaseState → List ℕ → Type 0
AnswersLine page_size line old new text =
    ((line ≡ []) × (new ≡ old) × (text ≡ []))
    ⊎ ((event : Event) × (event_of line ≡ Some event) × Answers page_size event old new text)
    ⊎ (IsSomeAnd (event_of line) TakesMemory × (new ≡ old) × (text ≡ refused_text refusals.NoMemory))

-- from this database the lines print this text: the answers to all of them in order, or to those before a bad event,
-- with the number of its line
abbrev pub Prints : ℕ → List (ℕ × List ℕ) → DatabaseState → List ℕ → Option ℕ → Type 0
Prints page_size [] database text bad = (text ≡ []) × (bad ≡ None)
Prints page_size (line ∷ later) database text bad =
    (IsBad database line.1 × (text ≡ []) × (bad ≡ Some line.0))
    ⊎ ((next : DatabaseState) × (answer : List ℕ) × (rest : List ℕ) × AnswersLine page_size line.1 database next answer
    × (text ≡ answer ++ rest) × Prints page_size later next rest bad)

-- a database as the load has it: one partition for each of its rows of WAREHOUSE, no snapshot, and no commit
pub record StartsFrom (lists : Lists) (frames commits : ℕ) (database : DatabaseState) : Type 0 where
  pub parts : AllBegin lists frames commits database.parts
  pub snapshots : database.snapshots ≡ []
  pub log : database.log ≡ []

-- what the script prints from the load stands behind the bytes that were there
pub record IsPrinted (page_size : ℕ) (lists : Lists) (frames commits : ℕ) (script : List ℕ) (old new : Option (List ℕ))
    (bad : Option ℕ) : Type 0 where
  pub first : DatabaseState
  pub starts : StartsFrom lists frames commits first
  pub text : List ℕ
  pub prints : Prints page_size (numbered 1 (lines script)) first text bad
  pub appends : Appends old new text
