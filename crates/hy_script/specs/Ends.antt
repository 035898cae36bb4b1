-- Why a script ends before its last line.
use Rattle.std.specs.Prelude.{◌≡◌, ℕ, List, Option, Some}
use Rattle.hy_schema.specs.declared.refusal.Refusal.TheVariants as refusals
use Rattle.hy_rows.specs.Tables.{Lists}
use Rattle.hy_session.specs.of_crossing.Making.{IsWhyNoneMade}
use Rattle.hy_script.specs.declared.event.Unanswered.{Unanswered}
use Rattle.hy_script.specs.declared.event.Unanswered.TheVariants as unanswered
use Rattle.hy_script.specs.declared.script.ScriptFault.{ScriptFault}
use Rattle.hy_script.specs.declared.script.ScriptFault.TheVariants as faults
use Rattle.hy_script.specs.Databases.{DatabaseState}
use Rattle.hy_script.specs.Printed.{ArePrinted}
use Rattle.hy_script.specs.Scripts.{IsBad, IsPrinted}

-- a line is a bad event, and nothing was written for it, or the output failed
abbrev pub IsLineFault : DatabaseState → List ℕ → Type 0 → Type 0 → Unanswered → Type 0
IsLineFault database line unprinted failed unanswered.BadEvent = IsBad database line × unprinted
IsLineFault database line unprinted failed (unanswered.Output error) = failed

-- one of the lines is a bad event, or the output failed
abbrev pub IsLinesFault : ℕ → List (ℕ × List ℕ) → DatabaseState → Option (List ℕ) → Option (List ℕ) → Type 0 → ScriptFault → Type 0
IsLinesFault page_size lines first before after failed (faults.BadEvent number) =
    ArePrinted page_size lines first before after (Some number)
IsLinesFault page_size lines first before after failed (faults.Output error) = failed
IsLinesFault page_size lines first before after failed (faults.Refused refusal) = ⊥

-- the same, or there is no memory to hold answers, before anything was written
abbrev pub IsRunFault : ℕ → List (ℕ × List ℕ) → DatabaseState → Option (List ℕ) → Option (List ℕ) → Type 0 → Type 0
    → ScriptFault → Type 0
IsRunFault page_size lines first before after unprinted failed (faults.BadEvent number) =
    ArePrinted page_size lines first before after (Some number)
IsRunFault page_size lines first before after unprinted failed (faults.Output error) = failed
IsRunFault page_size lines first before after unprinted failed (faults.Refused refusal) =
    (refusal ≡ refusals.NoMemory) × unprinted

-- the partitions can't be made, before anything was written; or there is a bad event, behind the answers to the events
-- before it; or the output failed
abbrev pub IsScriptFault : ℕ → Lists → ℕ → ℕ → List ℕ → Option (List ℕ) → Option (List ℕ) → Type 0 → Type 0
    → ScriptFault → Type 0
IsScriptFault page_size lists frames commits script before after unprinted failed (faults.Refused refusal) =
    IsWhyNoneMade page_size lists frames refusal × unprinted
IsScriptFault page_size lists frames commits script before after unprinted failed (faults.BadEvent number) =
    IsPrinted page_size lists frames commits script before after (Some number)
IsScriptFault page_size lists frames commits script before after unprinted failed (faults.Output error) = failed
