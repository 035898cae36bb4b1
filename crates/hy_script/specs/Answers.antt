-- The text that answers an event, and what the event does.
use Rattle.std.specs.Prelude.{◌≡◌, ◌⊎◌, ℕ, true, false, List, ◌++◌, Option, None, Some, MatchOption, IsSomeAnd, Result, Ok, Err, IsOk, codes, decimal, length, slice_get}
use Rattle.std.specs.List.{flat_map}
use Rattle.hy_schema.specs.declared.refusal.Refusal.{Refusal}
use Rattle.hy_schema.specs.declared.refusal.Refusal.TheVariants as refusals
use Rattle.hy_schema.specs.Refusals.{refusal_text}
use Rattle.hy_commands.specs.Commands.{home_of}
use Rattle.hy_commands.specs.declared.command.Command.{Command}
use Rattle.hy_commands.specs.declared.reply.Reply.{Reply}
use Rattle.hy_events.specs.declared.event.Event.{Event}
use Rattle.hy_events.specs.declared.event.Event.TheVariants as events
use Rattle.hy_events.specs.Replies.{reply_text}
use Rattle.hy_frames.specs.FrameTable.{IsLimitFor, free_of, shared_of}
use Rattle.hy_undo.specs.Touched.{touched}
use Rattle.hy_session.specs.of_partition.declared.job.Progress.{Progress}
use Rattle.hy_session.specs.of_partition.declared.job.Progress.TheVariants as progress
use Rattle.hy_session.specs.of_partition.Jobs.{Log}
use Rattle.hy_session.specs.of_partition.Partition.{PartitionState}
use Rattle.hy_session.specs.of_partition.Steps.{IsUnbegun, StepsTo}
use Rattle.hy_session.specs.of_crossing.Lists.{Pairwise}
use Rattle.hy_session.specs.of_forks.Forks.{IsUnforked, IsUnforkedUntold, IsWhyUnforked}
use Rattle.hy_session.specs.of_partition.Snapshots.{SnapshotState}
use Rattle.hy_query.specs.Language.{query_of}
use Rattle.hy_query.specs.Meaning.{answer_of}
use Rattle.hy_query.specs.Queries.{QueryState}
use Rattle.hy_session.specs.Reports.{broken_condition}
use Rattle.hy_session.specs.Snapshots.{lists_of_all}
use Rattle.hy_session.specs.Texts.{answer_text}
use Rattle.hy_script.specs.declared.answer.Request.{Request}
use Rattle.hy_script.specs.declared.answer.Request.TheVariants as requests
use Rattle.hy_script.specs.Databases.{DatabaseState, HasName, IsNameAt, part_at, with_part}
use Rattle.hy_script.specs.Steps.{ClosesAt, IsBegun, IsLimited, Opens, OpensFrom, Runs, RunsAcross, is_crossing, limit_for, reply_waiting}

-- ---- texts

abbrev pub refused_text : Refusal → List ℕ
refused_text why = codes "refused " ++ refusal_text why ++ codes "\n"

abbrev pub begun_text : List ℕ
begun_text = codes "begun\n"

abbrev pub progress_text : Progress → List ℕ
progress_text progress.More = codes "more\n"
progress_text progress.Finished = codes "finished\n"

-- the reply that waits, if there is one
abbrev pub waiting_text : Option Reply → List ℕ
waiting_text None = codes "none\n"
waiting_text (Some reply) = reply_text reply

-- a word and a number
abbrev pub count_text : List ℕ → ℕ → List ℕ
count_text word number = word ++ codes " " ++ decimal number ++ codes "\n"

-- behind how many commits the snapshot of a warehouse is
abbrev pub commits_text : SnapshotState → List ℕ
commits_text snapshot = codes " " ++ decimal snapshot.commits

-- how many commits a warehouse has kept
abbrev pub kept_text : PartitionState → List ℕ
kept_text p = codes " " ++ decimal (length p.kept)

abbrev pub snapshot_text : List ℕ → List SnapshotState → List ℕ
snapshot_text name parts = codes "snapshot " ++ name ++ codes " commits" ++ flat_map commits_text parts ++ codes "\n"

abbrev pub closed_text : List ℕ → List ℕ
closed_text name = codes "closed " ++ name ++ codes "\n"

-- that all consistency conditions hold, or which is the first that is broken
abbrev pub check_text : Option ℕ → List ℕ
check_text None = codes "conditions 1 2 3 4 5 6 7 8 9 10 12 hold\n"
check_text (Some number) = codes "condition " ++ decimal number ++ codes " broken\n"

-- ---- what is asked of one warehouse

-- the reply that waits was taken
abbrev pub with_reply_taken : PartitionState → PartitionState
with_reply_taken p = record p { finished = None }

-- a request was granted: what it did to the serial list and to the partition, and what answers it
abbrev pub Grants : Request → Log → Log → PartitionState → PartitionState → List ℕ → Type 0
Grants (requests.Run command) before after old new text =
    (reply : Reply) × Runs command before after old new reply × (text ≡ reply_text reply)
Grants (requests.Begin command) before after old new text =
    (after ≡ before) × ((IsBegun command old new × (text ≡ begun_text))
    ⊎ ((why : Refusal) × IsUnbegun old command why × (new ≡ old) × (text ≡ refused_text why)))
Grants requests.Step before after old new text =
    MatchOption old.running ((after ≡ before) × (new ≡ old) × (text ≡ refused_text refusals.NotRunning)) (λ job.
    (progress : Progress) × StepsTo job (Some before) (Some after) old new progress × (text ≡ progress_text progress))
Grants requests.Done before after old new text =
    (after ≡ before) × (new ≡ with_reply_taken old) × (text ≡ waiting_text (reply_waiting old.finished))
Grants requests.Touched before after old new text =
    (after ≡ before) × (new ≡ old) × (text ≡ count_text (codes "touched") (touched old.undo))
Grants requests.Free before after old new text =
    (after ≡ before) × (new ≡ old) × (text ≡ count_text (codes "free") (free_of old.space.frames))
Grants requests.Shared before after old new text =
    (after ≡ before) × (new ≡ old) × (text ≡ count_text (codes "shared") (shared_of old.space.frames))
Grants (requests.Limit more) before after old new text =
    (after ≡ before) × ((IsLimited more old new × (text ≡ count_text (codes "free") more))
    ⊎ ((¬ IsLimitFor old.space.frames (limit_for old.space.frames more)) × (new ≡ old)
    × (text ≡ refused_text refusals.OutOfRange)))

-- what is done where the warehouse of a number is there; where it isn't, that is the answer, and nothing is done
abbrev pub IfThere : ℕ → DatabaseState → DatabaseState → List ℕ → (PartitionState → Type 0) → Type 0
IfThere number old new text Does =
    MatchOption (part_at old number) ((new ≡ old) × (text ≡ refused_text refusals.NoSuchWarehouse)) Does

-- a request to the warehouse of a number, whose partition this is
abbrev pub AsksPart : ℕ → Request → DatabaseState → DatabaseState → List ℕ → PartitionState → Type 0
AsksPart number request old new text p =
    (next : PartitionState) × Grants request old.log new.log p next text
    × (new ≡ record (with_part old number next) { log = new.log })

-- a request to the warehouse of a number, which may not be there
abbrev pub Asks : ℕ → Request → DatabaseState → DatabaseState → List ℕ → Type 0
Asks number request old new text = IfThere number old new text (AsksPart number request old new text)

-- ---- commands

-- a command whose home is there was run, and its reply printed: over several warehouses where it names several, else by its
-- home, whose partition this is. Where its home isn't there, nothing is run, and nothing that runs is ended
abbrev pub RunsWhole : Command → DatabaseState → DatabaseState → List ℕ → Type 0
RunsWhole command old new text = IfThere (home_of command) old new text (λ p.
    ((is_crossing command ≡ true) × (reply : Reply) × RunsAcross command old new reply × (text ≡ reply_text reply))
    ⊎ ((is_crossing command ≡ false) × AsksPart (home_of command) (requests.Run command) old new text p))

-- ---- snapshots of all warehouses

-- each partition was forked, and the snapshot has the name, which wasn't open
pub record OpensName (page_size : ℕ) (name : List ℕ) (old new : DatabaseState) (text : List ℕ) : Type 0 where
  pub opens : Opens page_size name old new
  pub log : new.log ≡ old.log
  pub prints : text ≡ snapshot_text name opens.parts

-- for want of frames or of memory no name was opened, and no snapshot is left of it
pub record OpensNone (old new : DatabaseState) (text : List ℕ) : Type 0 where
  pub why : Refusal
  pub reason : IsWhyUnforked old.parts why
  pub stays : Pairwise (λ number. IsUnforked old.log) 1 old.parts new.parts
  pub snapshots : new.snapshots ≡ old.snapshots
  pub log : new.log ≡ old.log
  pub prints : text ≡ refused_text why

-- a snapshot of what the open one of another name sees has the name, which wasn't open
pub record OpensNameFrom (name from : List ℕ) (old new : DatabaseState) (text : List ℕ) : Type 0 where
  pub place : ℕ
  pub there : IsNameAt old.snapshots from place
  pub opens : OpensFrom place name old new
  pub log : new.log ≡ old.log
  pub prints : text ≡ snapshot_text name opens.parts

-- for want of memory no name was opened of an open one, and no snapshot is left of it
pub record OpensNoneFrom (from : List ℕ) (old new : DatabaseState) (text : List ℕ) : Type 0 where
  pub there : HasName old.snapshots from
  pub stays : Pairwise (λ number. IsUnforkedUntold) 1 old.parts new.parts
  pub snapshots : new.snapshots ≡ old.snapshots
  pub log : new.log ≡ old.log
  pub prints : text ≡ refused_text refusals.NoMemory

-- the snapshot of a name was closed
pub record ClosesName (name : List ℕ) (old new : DatabaseState) (text : List ℕ) : Type 0 where
  pub place : ℕ
  pub there : IsNameAt old.snapshots name place
  pub closes : ClosesAt place old new
  pub prints : text ≡ closed_text name

-- ---- what is asked of a snapshot

-- the answer to a query over the rows that the snapshots' pages spell, or where the text says no query
abbrev pub query_text : ℕ → List SnapshotState → Result QueryState ℕ → List ℕ
query_text page_size snapshots (Ok query) = answer_text (answer_of query (lists_of_all page_size snapshots))
query_text page_size snapshots (Err place) = refused_text (refusals.BadQuery place)

-- a query was answered, or memory for that was refused
abbrev pub AnswersQuery : ℕ → List ℕ → List SnapshotState → List ℕ → Type 0
AnswersQuery page_size asked snapshots text =
    (text ≡ query_text page_size snapshots (query_of asked))
    ⊎ (IsOk (query_of asked) × (text ≡ refused_text refusals.NoMemory))

-- the consistency conditions were tested on these rows, or memory for that was refused
abbrev pub AnswersCheck : ℕ → List SnapshotState → List ℕ → Type 0
AnswersCheck page_size snapshots text =
    (text ≡ check_text (broken_condition page_size snapshots))
    ⊎ (text ≡ refused_text refusals.NoMemory)

-- the snapshot of a name was asked, and nothing changed
pub record AsksName (name : List ℕ) (Prints : List SnapshotState → List ℕ → Type 0) (old new : DatabaseState)
    (text : List ℕ) : Type 0 where
  pub place : ℕ
  pub there : IsSomeAnd (slice_get old.snapshots place) (λ snapshot. (snapshot.name ≡ name) × Prints snapshot.parts text)
  pub same : new ≡ old

-- ---- events

-- an event was done, and this is what it printed
abbrev pub Answers : ℕ → Event → DatabaseState → DatabaseState → List ℕ → Type 0
Answers page_size (events.Run command) old new text = RunsWhole command old new text
Answers page_size (events.Begin command) old new text = Asks (home_of command) (requests.Begin command) old new text
Answers page_size (events.Step number) old new text = Asks number requests.Step old new text
Answers page_size (events.Done number) old new text = Asks number requests.Done old new text
Answers page_size (events.Touched number) old new text = Asks number requests.Touched old new text
Answers page_size (events.Free number) old new text = Asks number requests.Free old new text
Answers page_size (events.Shared number) old new text = Asks number requests.Shared old new text
Answers page_size (events.Limit number more) old new text = Asks number (requests.Limit more) old new text
Answers page_size (events.Fork name) old new text =
    (¬ HasName old.snapshots name) × (OpensName page_size name old new text ⊎ OpensNone old new text)
Answers page_size (events.ForkFrom name from) old new text =
    (¬ HasName old.snapshots name) × (OpensNameFrom name from old new text ⊎ OpensNoneFrom from old new text)
Answers page_size (events.Close name) old new text = ClosesName name old new text
Answers page_size (events.Query name asked) old new text = AsksName name (AnswersQuery page_size asked) old new text
Answers page_size (events.Check name) old new text = AsksName name (AnswersCheck page_size) old new text

-- an event that names a snapshot that isn't open, or opens one of an open name
abbrev pub IsMisnamed : DatabaseState → Event → Type 0
IsMisnamed database (events.Fork name) = HasName database.snapshots name
IsMisnamed database (events.ForkFrom name from) = HasName database.snapshots name ⊎ (¬ HasName database.snapshots from)
IsMisnamed database (events.Close name) = ¬ HasName database.snapshots name
IsMisnamed database (events.Query name asked) = ¬ HasName database.snapshots name
IsMisnamed database (events.Check name) = ¬ HasName database.snapshots name
IsMisnamed database other = ⊥
