-- Answers behind the bytes that an output has.
use Rattle.std.specs.Prelude.{ℕ, List, Option}
use Rattle.std.specs.Io.KnownBytes.{Appends}
use Rattle.hy_events.specs.declared.event.Event.{Event}
use Rattle.hy_session.specs.of_partition.Jobs.{Log}
use Rattle.hy_session.specs.of_partition.Partition.{PartitionState}
use Rattle.hy_script.specs.declared.answer.Request.{Request}
use Rattle.hy_script.specs.Answers.{Answers, Asks, Grants, IsMisnamed}
use Rattle.hy_script.specs.declared.event.Unanswered.{Unanswered}
use Rattle.hy_script.specs.declared.event.Unanswered.TheVariants as unanswered
use Rattle.hy_script.specs.Databases.{DatabaseState}
use Rattle.hy_script.specs.Scripts.{AnswersLine, Prints}

-- a request was granted, with the serial list before and after, and its answer stands behind the bytes that were there
abbrev pub IsGranted : Request → Log → Log → PartitionState → PartitionState → Option (List ℕ) → Option (List ℕ) → Type 0
IsGranted request log longer old new before after =
    (text : List ℕ) × Grants request log longer old new text × Appends before after text

-- a request to the warehouse of a number
abbrev pub IsAsked : ℕ → Request → DatabaseState → DatabaseState → Option (List ℕ) → Option (List ℕ) → Type 0
IsAsked number request old new before after =
    (text : List ℕ) × Asks number request old new text × Appends before after text

-- what was printed stands behind the bytes that were there
abbrev pub IsWritten : (List ℕ → Type 0) → Option (List ℕ) → Option (List ℕ) → Type 0
IsWritten Prints before after = (text : List ℕ) × Prints text × Appends before after text

-- an event
abbrev pub IsAnswered : ℕ → Event → DatabaseState → DatabaseState → Option (List ℕ) → Option (List ℕ) → Type 0
IsAnswered page_size event old new before after =
    (text : List ℕ) × Answers page_size event old new text × Appends before after text

-- why an event has no answer: it misnames a snapshot, and nothing was written, or the output failed
abbrev pub IsUnanswered : DatabaseState → Event → Type 0 → Type 0 → Unanswered → Type 0
IsUnanswered database event unprinted failed unanswered.BadEvent = IsMisnamed database event × unprinted
IsUnanswered database event unprinted failed (unanswered.Output error) = failed

-- a line
abbrev pub IsLineAnswered : ℕ → List ℕ → DatabaseState → DatabaseState → Option (List ℕ) → Option (List ℕ) → Type 0
IsLineAnswered page_size line old new before after =
    (text : List ℕ) × AnswersLine page_size line old new text × Appends before after text

-- all lines, or those before a bad event
abbrev pub ArePrinted : ℕ → List (ℕ × List ℕ) → DatabaseState → Option (List ℕ) → Option (List ℕ) → Option ℕ → Type 0
ArePrinted page_size lines first before after bad =
    (text : List ℕ) × Prints page_size lines first text bad × Appends before after text
