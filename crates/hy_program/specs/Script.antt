-- What `script` does: it runs the events of a file on the database in the files of a folder.
use Rattle.std.specs.Prelude.{◌≡◌, ◌⊎◌, ℕ, List, Option, None, Some}
use Rattle.hy_schema.specs.declared.refusal.Refusal.TheVariants as refusals
use Rattle.hy_rows.specs.Tables.{Lists}
use Rattle.hy_files.specs.Files.{FilesByPath}
use Rattle.hy_script.specs.Scripts.{IsPrinted}
use Rattle.hy_recovery.specs.of_crossing.Making.{SomeIsShort}
use Rattle.hy_program.specs.declared.fault.RunFault.{RunFault}
use Rattle.hy_program.specs.declared.fault.RunFault.TheVariants as fault
use Rattle.hy_program.specs.declared.script.Limits.{Limits}
use Rattle.hy_program.specs.Reading.{HasBoth, IsReadAllFault}

-- the answers to its events stand behind the bytes that were there
abbrev pub IsScriptDone : List ℕ → List ℕ → Limits → Option FilesByPath → Option (List ℕ) → Option (List ℕ) → Type 0
IsScriptDone directory file limits files old new =
    (lists : Lists) × (script : List ℕ) × HasBoth directory file files lists script
    × IsPrinted 4_096 lists limits.frames limits.kept script old new None

-- why it isn't done: the files can't be read or are no load, or a warehouse lacks frames for its rows, before anything
-- was printed; an event is bad, behind the answers to those before it; or the output failed
abbrev pub IsScriptFaultOf : List ℕ → List ℕ → Limits → Option FilesByPath → Option (List ℕ) → Option (List ℕ) → Type 0
    → RunFault → Type 0
IsScriptFaultOf directory file limits files old new unprinted (fault.BadEvent number) =
    (lists : Lists) × (script : List ℕ) × HasBoth directory file files lists script
    × IsPrinted 4_096 lists limits.frames limits.kept script old new (Some number)
IsScriptFaultOf directory file limits files old new unprinted (fault.Writer error) =
    (lists : Lists) × (script : List ℕ) × HasBoth directory file files lists script
IsScriptFaultOf directory file limits files old new unprinted (fault.Refused refusal) =
    (IsReadAllFault directory file files (fault.Refused refusal)
    ⊎ ((refusal ≡ refusals.NoFrame) × (lists : Lists) × (script : List ℕ) × HasBoth directory file files lists script
    × SomeIsShort 4_096 lists limits.frames))
    × unprinted
IsScriptFaultOf directory file limits files old new unprinted why = IsReadAllFault directory file files why × unprinted
