-- What `query` does: it answers a query over the database in the files of a folder or, where a log is named, over that behind
-- it.
use Rattle.std.specs.Prelude.{◌≡◌, ◌⊎◌, ℕ, List, Option, None, Some, Result, Ok, Err, IsOk, IsOkAnd}
use Rattle.std.specs.Io.KnownBytes.{Appends}
use Rattle.hy_rows.specs.Tables.{Lists}
use Rattle.hy_schema.specs.declared.refusal.Refusal.{Refusal}
use Rattle.hy_schema.specs.declared.refusal.Refusal.TheVariants as refusals
use Rattle.hy_files.specs.Files.{FilesByPath}
use Rattle.hy_files.specs.Loads.{IsReadFault}
use Rattle.hy_commands.specs.Parts.{database_of}
use Rattle.hy_batches.specs.Batches.{Batch}
use Rattle.hy_batches.specs.Logs.{IsLog}
use Rattle.hy_recovery.specs.of_crossing.Crossings.{database_behind}
use Rattle.hy_recovery.specs.of_crossing.Making.{SomeIsShort}
use Rattle.hy_recovery.specs.of_partition.Jobs.{Log}
use Rattle.hy_storm.specs.of_session.Databases.{lists_of}
use Rattle.hy_storm.specs.of_session.Texts.{answer_text}
use Rattle.hy_query.specs.Language.{query_of}
use Rattle.hy_query.specs.Meaning.{answer_of}
use Rattle.hy_query.specs.Queries.{QueryState}
use Rattle.hy_program.specs.declared.fault.RunFault.{RunFault}
use Rattle.hy_program.specs.declared.fault.RunFault.TheVariants as fault
use Rattle.hy_program.specs.Faults.{IsOfFiles}
use Rattle.hy_program.specs.Reading.{HasBoth, HasLoad, HasLog, IsReadAllFault}
use Rattle.hy_program.specs.Replay.{IsHistoryOf, IsWhyLost, greatest_limits}

-- the lists of a load with the rows of each table warehouse by warehouse
abbrev pub by_warehouse : Lists → Lists
by_warehouse lists = lists_of (database_of lists)

-- this is an answer over what batches come to on a load, by a serial list of their commits
abbrev pub IsAnswerOn : Lists → List Batch → QueryState → List ℕ → Type 0
IsAnswerOn lists batches query printed =
    (history : Log) × IsHistoryOf lists batches history
    × (printed ≡ answer_text (answer_of query (lists_of (database_behind lists history))))

-- the same for bytes that are a log
abbrev pub IsAnswerBehind : Lists → List ℕ → QueryState → List ℕ → Type 0
IsAnswerBehind lists bytes query printed =
    (batches : List Batch) × (rest : List ℕ) × IsLog bytes batches rest × IsAnswerOn lists batches query printed

-- this is a serial list of the commits of a log of the load in the files of the folder
abbrev pub HasHistory : List ℕ → List ℕ → Option FilesByPath → Lists → Log → Type 0
HasHistory directory log files lists history =
    (batches : List Batch) × HasLog directory log files lists batches × IsHistoryOf lists batches history

-- the files of the folder are those of a load, the text says a query, and its answer over the load stands behind the bytes
-- that were there; where a log is named, it is one of this load, and the answer is that over the database behind it
abbrev pub IsQueryDone : List ℕ → List ℕ → Option (List ℕ) → Option FilesByPath → Option (List ℕ) → Option (List ℕ) → Type 0
IsQueryDone directory text None files old new =
    (lists : Lists) × HasLoad files directory lists
    × IsOkAnd (query_of text) (λ query. Appends old new (answer_text (answer_of query (by_warehouse lists))))
IsQueryDone directory text (Some log) files old new =
    (lists : Lists) × (history : Log) × HasHistory directory log files lists history
    × IsOkAnd (query_of text)
    (λ query. Appends old new (answer_text (answer_of query (lists_of (database_behind lists history)))))

-- why a query over a load has no answer: the frames lack for the rows of a warehouse, or memory is refused
abbrev pub IsWhyUnanswered : Lists → Refusal → Type 0
IsWhyUnanswered lists why =
    ((why ≡ refusals.NoFrame) × SomeIsShort 4_096 lists 100_000) ⊎ (why ≡ refusals.NoMemory)

-- why a text has no answer: it says no query, and fails at a place, whatever else there is; or it says one that has none
abbrev pub WhyUnasked : Lists → Result QueryState ℕ → Refusal → Type 0
WhyUnasked lists (Ok query) why = IsWhyUnanswered lists why
WhyUnasked lists (Err place) why = why ≡ refusals.BadQuery place

abbrev pub IsWhyUnasked : Lists → List ℕ → Refusal → Type 0
IsWhyUnasked lists text why = WhyUnasked lists (query_of text) why

-- why a text has no answer over what bytes come to on a load: it says no query, whatever the bytes are; or it says one, and
-- memory is refused for it, or nothing comes of the bytes, or memory is refused for the answer
abbrev pub WhyUnaskedBehind : Lists → List ℕ → Result QueryState ℕ → Refusal → Type 0
WhyUnaskedBehind lists bytes (Ok query) why = (why ≡ refusals.NoMemory) ⊎ IsWhyLost greatest_limits lists bytes why
WhyUnaskedBehind lists bytes (Err place) why = why ≡ refusals.BadQuery place

abbrev pub IsWhyUnaskedBehind : Lists → List ℕ → List ℕ → Refusal → Type 0
IsWhyUnaskedBehind lists bytes text why = WhyUnaskedBehind lists bytes (query_of text) why

-- why it isn't done: the files can't be read or are no load; then the text says no query; then frames or memory lack, all
-- before anything was printed; or the output failed. Where a log is named, it is read behind the nine files, and what is wrong
-- with it comes behind what is wrong with the text
abbrev pub IsQueryFault : List ℕ → List ℕ → Option (List ℕ) → Option FilesByPath → Type 0 → RunFault → Type 0
IsQueryFault directory text None files unprinted (fault.Writer error) =
    (lists : Lists) × HasLoad files directory lists × IsOk (query_of text)
IsQueryFault directory text None files unprinted (fault.Refused refusal) =
    (IsOfFiles directory (IsReadFault files directory) (fault.Refused refusal)
    ⊎ ((lists : Lists) × HasLoad files directory lists × IsWhyUnasked lists text refusal))
    × unprinted
IsQueryFault directory text None files unprinted why = IsOfFiles directory (IsReadFault files directory) why × unprinted
IsQueryFault directory text (Some log) files unprinted (fault.Writer error) =
    (lists : Lists) × (history : Log) × HasHistory directory log files lists history × IsOk (query_of text)
IsQueryFault directory text (Some log) files unprinted (fault.Refused refusal) =
    (IsReadAllFault directory log files (fault.Refused refusal)
    ⊎ ((lists : Lists) × (bytes : List ℕ) × HasBoth directory log files lists bytes × IsWhyUnaskedBehind lists bytes text refusal))
    × unprinted
IsQueryFault directory text (Some log) files unprinted why = IsReadAllFault directory log files why × unprinted
