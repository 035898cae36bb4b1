-- Databases of one load that have kept the same, whatever their pages and frames are, and what is answered by them.
use Rattle.std.specs.Prelude.{◌≡◌, ⊤, ◌⊎◌, ℕ, suc, List, [], ◌∷◌, ◌++◌, Option, None, Some, MatchOption, IfSome, Ok, slice_get}
use Rattle.hy_rows.specs.Spelling.{tables_of}
use Rattle.hy_rows.specs.Tables.{Lists}
use Rattle.hy_schema.specs.declared.refusal.Refusal.{Refusal}
use Rattle.hy_schema.specs.declared.refusal.Refusal.TheVariants as refusals
use Rattle.hy_batches.specs.Batches.{Batch}
use Rattle.hy_batches.specs.Logs.{Reads}
use Rattle.hy_commands.specs.declared.edition.Edition.TheVariants as editions
use Rattle.hy_commands.specs.declared.reply.Reply.TheVariants as replies
use Rattle.hy_events.specs.declared.event.Event.{Event}
use Rattle.hy_events.specs.declared.event.Event.TheVariants as events
use Rattle.hy_events.specs.Events.{event_of}
use Rattle.hy_partition.specs.Jobs.{Log, RunningJob}
use Rattle.hy_partition.specs.Partition.{PartitionState, projection_of}
use Rattle.hy_partition.specs.Snapshots.{SnapshotState}
use Rattle.hy_crossing.specs.Crossings.{next_number}
use Rattle.hy_crossing.specs.Lists.{Pairwise}
use Rattle.hy_forks.specs.Partitions.{AreWhole}
use Rattle.hy_redo.specs.Disk.{MayLeave}
use Rattle.hy_script.specs.Databases.{DatabaseState, IsNameAt, OpenSnapshot}
use Rattle.hy_script.specs.Answers.{refused_text}
use Rattle.hy_script.specs.Steps.{reply_waiting}
use Rattle.hy_hyper_input.specs.Received.{Said}
use Rattle.hy_hyper_answers.specs.declared.answers.Style.{Style}
use Rattle.hy_hyper_answers.specs.Served.{AnswersSaid, Serves, number_of, printed}
use Rattle.hy_hyper_service.specs.Opening.{IsOpened}
use Rattle.hy_hyper_service.specs.Rounds.{AreRounds, IsSettled, RoundState, ServiceState, said_in}
use Rattle.hy_hyper_rounds.specs.Rounds.{AreToldLess, printed_in}

-- ---- databases that have kept the same

-- jobs that do the same, and are as far; both of the second edition, as new commands are
pub record DoTheSame (one other : RunningJob) : Type 0 where
  pub editions : (one.edition ≡ editions.Second) × (other.edition ≡ editions.Second)
  pub command : other.command ≡ one.command
  pub slices : other.slices ≡ one.slices

abbrev pub RunTheSame : Option RunningJob → Option RunningJob → Type 0
RunTheSame None None = ⊤
RunTheSame None (Some other) = ⊥
RunTheSame (Some one) None = ⊥
RunTheSame (Some one) (Some other) = DoTheSame one other

-- partitions of one warehouse with the same commits and the same limit on them, in which the same runs, and the same reply waits;
-- no part of a command over several warehouses is done
pub record KeepTheSame (number : ℕ) (one other : PartitionState) : Type 0 where
  pub load : other.load ≡ one.load
  pub warehouse : other.warehouse ≡ one.warehouse
  pub max_kept : other.max_kept ≡ one.max_kept
  pub kept : other.kept ≡ one.kept
  pub running : RunTheSame one.running other.running
  pub part : (one.part ≡ None) × (other.part ≡ None)
  pub waiting : reply_waiting other.finished ≡ reply_waiting one.finished

-- snapshots of a warehouse that are behind as many commits, with the same rows, on pages of n bytes
pub record ShowTheSame (n number : ℕ) (one other : SnapshotState) : Type 0 where
  pub items : other.load.items ≡ one.load.items
  pub commits : other.commits ≡ one.commits
  pub rows : tables_of n other.bytes ≡ tables_of n one.bytes

-- snapshots of all warehouses of the same name
pub record AreNamedTheSame (n number : ℕ) (one other : OpenSnapshot) : Type 0 where
  pub name : other.name ≡ one.name
  pub parts : Pairwise (ShowTheSame n) 1 one.parts other.parts

-- of no name two snapshots are open
abbrev pub HaveNamesOnce : List OpenSnapshot → Type 0
HaveNamesOnce snapshots = (name : List ℕ) (place other : ℕ) → IsNameAt snapshots name place → IsNameAt snapshots name other
    → other ≡ place

-- serial lists that say the same of each warehouse, and number the next command over several of them alike
pub record SayTheSame (one other : Log) : Type 0 where
  pub commits : (number : ℕ) → projection_of number other ≡ projection_of number one
  pub next : next_number other ≡ next_number one

pub record HaveTheSame (n : ℕ) (one other : DatabaseState) : Type 0 where
  pub parts : Pairwise KeepTheSame 1 one.parts other.parts
  pub snapshots : Pairwise (AreNamedTheSame n) 1 one.snapshots other.snapshots
  pub once : HaveNamesOnce one.snapshots
  pub log : SayTheSame one.log other.log

-- ---- what no log holds

-- frames lacked, or memory
abbrev pub IsShortage : Refusal → Type 0
IsShortage why = (why ≡ refusals.NoFrame) ⊎ (why ≡ refusals.NoMemory)

-- an answer says so
abbrev pub TellsShortage : List ℕ → Type 0
TellsShortage text = (why : Refusal) × IsShortage why × (text ≡ refused_text why)

-- a reply that waits does
abbrev pub WaitsShort : PartitionState → Type 0
WaitsShort p = (why : Refusal) × IsShortage why × (reply_waiting p.finished ≡ Some (replies.Refused why))

abbrev pub SomeWaitsShort : List PartitionState → Type 0
SomeWaitsShort [] = ⊥
SomeWaitsShort (p ∷ parts) = WaitsShort p ⊎ SomeWaitsShort parts

-- frames or memory lacked for an event, as its answer says, or a reply that waits behind it
abbrev pub WasShort : DatabaseState → List ℕ → Type 0
WasShort database text = SomeWaitsShort database.parts ⊎ TellsShortage text

-- an event asks for numbers of frames, or limits them
abbrev pub AsksOfFrames : Event → Type 0
AsksOfFrames (events.Touched number) = ⊤
AsksOfFrames (events.Free number) = ⊤
AsksOfFrames (events.Shared number) = ⊤
AsksOfFrames (events.Limit number more) = ⊤
AsksOfFrames other = ⊥

abbrev pub LineAsksOfFrames : Said → Type 0
LineAsksOfFrames (Said.a_line number line) = MatchOption (event_of line) ⊥ AsksOfFrames
LineAsksOfFrames (Said.too_long number) = ⊥

-- ---- the answers of two databases

-- to all that is said both print the same answers, but to lines that ask for numbers of frames, or limit them
abbrev pub PrintAlike : Style → List Said → List ℕ → List ℕ → Type 0
PrintAlike style [] text other = (text ≡ []) × (other ≡ [])
PrintAlike style (one ∷ later) text other =
    (answer its : List ℕ) × (rest more : List ℕ) × (LineAsksOfFrames one ⊎ (its ≡ answer))
    × (text ≡ printed style (number_of one) answer ++ rest) × (other ≡ printed style (number_of one) its ++ more)
    × PrintAlike style later rest more

-- For something that was said frames or memory lacked, when all of it was answered from one database to another by this text: an
-- answer within the text says so, or a reply that waited behind it.
pub record RanShort (page_size : ℕ) (style : Style) (said : List Said) (first last : DatabaseState) (text : List ℕ)
    : Type 0 where
  pub before : List Said
  pub one : Said
  pub later : List Said
  pub said_is : said ≡ before ++ one ∷ later
  pub middle : DatabaseState
  pub next : DatabaseState
  pub front : List ℕ
  pub answer : List ℕ
  pub rest : List ℕ
  pub text_is : text ≡ front ++ (printed style (number_of one) answer ++ rest)
  pub serves : Serves page_size style before first middle front
  pub answers : AnswersSaid page_size one middle next answer
  pub goes_on : Serves page_size style later next last rest
  pub short : WasShort next answer

-- What is said to two databases that have kept the same is answered alike by both, and they have kept the same behind it, unless
-- frames or memory lacked for one of them.
abbrev pub AnswerAlike : Type 0
AnswerAlike =
    (page_size : ℕ) (style : Style) (said : List Said) (one other : DatabaseState)
    → HaveTheSame page_size one other → (last its : DatabaseState) (text more : List ℕ)
    → Serves page_size style said one last text → Serves page_size style said other its more
    → (PrintAlike style said text more × HaveTheSame page_size last its)
    ⊎ RanShort page_size style said one last text ⊎ RanShort page_size style said other its more

-- ---- a service that is started again

-- nothing runs and no answer waits in a partition, which may keep so many commits
pub record IsAtRest (most : ℕ) (p : PartitionState) : Type 0 where
  pub running : p.running ≡ None
  pub finished : p.finished ≡ None
  pub max_kept : p.max_kept ≡ most

-- a database of a load has nothing but what a log holds: all partitions are at rest and have kept all that the serial list has of
-- them, as each does that was told of it, and no snapshot is open
pub record IsQuiet (lists : Lists) (most : ℕ) (database : DatabaseState) : Type 0 where
  pub whole : AreWhole lists database.parts
  pub rests : (place : ℕ) → IfSome (slice_get database.parts place) (IsAtRest most)
  pub kept : (place : ℕ) → IfSome (slice_get database.parts place) (λ p. p.kept ≡ projection_of (suc place) database.log)
  pub snapshots : database.snapshots ≡ []

-- A service between two rounds, whose database is quiet, and the database that a service begins with on what the disk has of its
-- log, when the power goes or the service ends there, have kept the same, if as many commits may be kept.
abbrev pub RestartsHaveTheSame : Type 0
RestartsHaveTheSame =
    (n : ℕ) (lists : Lists) (service : ServiceState) (most : ℕ) → IsSettled lists service
    → IsQuiet lists most service.database
    → (left : List ℕ) (batches : List Batch) → MayLeave service.log.told service.log.told left → Reads left (Ok batches)
    → (frames : ℕ) (opened : DatabaseState) (seen : Log) → IsOpened lists frames most batches opened seen
    → HaveTheSame n service.database opened

-- frames or memory lacked in rounds, with nothing drained between them
abbrev pub RoundsRanShort : ℕ → ServiceState → List RoundState → ServiceState → Type 0
RoundsRanShort n first rounds last = (done : DatabaseState) × AreToldLess last.database done
    × RanShort n first.style (said_in rounds) first.database done (printed_in rounds)

-- Beside that service one goes on that was started again on such a log, prints in the same style, and is told the same. In whatever
-- rounds either is told it, both print the same answers, but to lines that ask for numbers of frames, or limit them; unless frames
-- or memory lacked.
abbrev pub RestartsAnswerAlike : Type 0
RestartsAnswerAlike =
    (n : ℕ) (lists : Lists) (service : ServiceState) (most : ℕ) → IsSettled lists service
    → IsQuiet lists most service.database
    → (left : List ℕ) (batches : List Batch) → MayLeave service.log.told service.log.told left → Reads left (Ok batches)
    → (frames : ℕ) (again : ServiceState) (seen : Log) → IsOpened lists frames most batches again.database seen
    → again.style ≡ service.style → (rounds its_rounds : List RoundState) (last its : ServiceState)
    → AreRounds n lists service rounds last → AreRounds n lists again its_rounds its
    → said_in its_rounds ≡ said_in rounds
    → PrintAlike service.style (said_in rounds) (printed_in rounds) (printed_in its_rounds)
    ⊎ RoundsRanShort n service rounds last ⊎ RoundsRanShort n again its_rounds its
