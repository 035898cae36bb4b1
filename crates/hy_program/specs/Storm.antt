-- What `storm` does: it runs terminals and sessions on the database in the files of a folder, and prints what they came to.
use Rattle.std.specs.Prelude.{◌≡◌, ◌⊎◌, ⊤, ℕ, ℤ, List, ◌++◌, Option, None, Some, IfSome, codes}
use Rattle.std.specs.Fmt.{decimal, signed_decimal}
use Rattle.std.specs.Io.KnownBytes.{Appends}
use Rattle.hy_rows.specs.Tables.{Lists}
use Rattle.std.specs.declared.io.Error.{Error}
use Rattle.hy_schema.specs.declared.refusal.Refusal.{Refusal}
use Rattle.hy_schema.specs.declared.refusal.Refusal.TheVariants as refusals
use Rattle.hy_batches.specs.Batches.{Batch}
use Rattle.hy_batches.specs.Encoding.{log_bytes}
use Rattle.hy_recovery.specs.of_partition.Jobs.{Log}
use Rattle.hy_recovery.specs.of_forks.Logged.{SaySame}
use Rattle.hy_files.specs.Files.{AddsPath, FilesByPath, HasFile, IsOutOfMemory, KeepsOthers, KnownPaths}
use Rattle.hy_files.specs.Loads.{IsReadFault}
use Rattle.hy_storm.specs.declared.ending.Figures.{Figures}
use Rattle.hy_storm.specs.Storms.{AreFigures, AreFiguresBehind}
use Rattle.hy_program.specs.declared.fault.RunFault.{RunFault}
use Rattle.hy_program.specs.declared.fault.RunFault.TheVariants as fault
use Rattle.hy_program.specs.Faults.{IsOfFiles}
use Rattle.hy_program.specs.Reading.{HasLoad}

-- the two lines with what was accepted and paid, and with what was kept and grew
abbrev pub sums_text : ℕ → ℕ → ℕ → ℤ → List ℕ
sums_text commits cents kept growth =
    codes "commits " ++ decimal commits ++ codes " cents " ++ decimal cents
    ++ codes "\ngrowth " ++ decimal kept ++ codes " " ++ signed_decimal growth ++ codes "\n"

-- the two lines with the rounds of sessions, and with the frames that are shared
abbrev pub rounds_text : ℕ → ℕ → List ℕ
rounds_text rounds shared =
    codes "sessions " ++ decimal rounds ++ codes " hold\nshared " ++ decimal shared ++ codes "\n"

-- the five lines of what a storm came to
abbrev pub storm_text : Figures → List ℕ
storm_text figures =
    sums_text figures.commits figures.cents figures.kept figures.growth
    ++ rounds_text figures.rounds figures.shared ++ codes "conditions 1 2 3 4 5 6 7 8 9 10 12 hold\n"

-- the file of a storm's log, as far as files are known, has the bytes of whole batches and no others, which say the same as a
-- serial list: joined they are what each warehouse has kept of it
abbrev pub HasLogFile : Lists → Log → Option FilesByPath → List ℕ → Type 0
HasLogFile lists serial files path =
    (batches : List Batch) × SaySame lists batches serial × HasFile files path (log_bytes batches)

-- there is a serial list of which these are the figures; and where a log is named, and no thread ended early and no log failed,
-- the log's file has all of that list
abbrev pub IsStormKept : Lists → Option (List ℕ) → Option FilesByPath → Figures → Type 0
IsStormKept lists log files figures =
    (serial : Log) × AreFiguresBehind lists serial figures
    × (figures.refusal ≡ None → IfSome log (HasLogFile lists serial files))

-- a storm on a load came to figures, with this reason or none why a thread ended early or the log failed; and their lines
-- stand behind the bytes that were there
abbrev pub IsStormPrinted : Lists → Option Refusal → Option (List ℕ) → Option (List ℕ) → Type 0
IsStormPrinted lists early old new =
    (figures : Figures) × AreFigures lists figures × (figures.refusal ≡ early) × Appends old new (storm_text figures)

-- the files of the folder are those of a load, and a storm on it in which no thread ended early and no log failed was printed:
-- its figures are those of a serial list, all of which stands in the log's file, where a log is named
pub record IsStormDone (directory : List ℕ) (log : Option (List ℕ)) (before after : Option FilesByPath)
    (old new : Option (List ℕ)) : Type 0 where
  pub lists : Lists
  pub load : HasLoad before directory lists
  pub figures : Figures
  pub serial : Log
  pub are : AreFiguresBehind lists serial figures
  pub refusal : figures.refusal ≡ None
  pub file : IfSome log (HasLogFile lists serial after)
  pub printed : Appends old new (storm_text figures)

-- where a log is named, its file may be another one; no other file is
abbrev pub KeepsAllBut : Option (List ℕ) → Option FilesByPath → Option FilesByPath → Type 0
KeepsAllBut None old new = new ≡ old
KeepsAllBut (Some path) old new = KeepsOthers old new path

-- the log's file can't be written, or memory was refused
abbrev pub IsWhyUnwritten : List ℕ → Error → RunFault → Type 0
IsWhyUnwritten path error (fault.Refused refusal) = (refusal ≡ refusals.NoMemory) × IsOutOfMemory error
IsWhyUnwritten path error (fault.CannotWriteFile written) = (written.now ≡ path) × (IsOutOfMemory error → ⊥)
IsWhyUnwritten path error other = ⊥

-- why there is no storm: it is refused, or the log's file can't be written, as the file system said
abbrev pub IsNoStorm : Option (List ℕ) → KnownPaths × KnownPaths → RunFault → Type 0
IsNoStorm log unwritten (fault.Refused refusal) = ⊤
IsNoStorm log unwritten (fault.CannotWriteFile path) = (log ≡ Some path.now) × AddsPath unwritten.0 unwritten.1 path.now
IsNoStorm log unwritten other = ⊥

-- why it isn't done: the files can't be read or are no load, or the log's file can't be written, or there was no storm on
-- their load, before anything was printed; or a thread ended early or the log failed, behind the lines; or the output failed
abbrev pub IsStormFault : List ℕ → Option (List ℕ) → Option FilesByPath → KnownPaths × KnownPaths → Option (List ℕ) → Option (List ℕ)
    → Type 0 → RunFault → Type 0
IsStormFault directory log files unwritten old new unprinted (fault.Writer error) = (lists : Lists) × HasLoad files directory lists
IsStormFault directory log files unwritten old new unprinted (fault.CannotWriteFile path) =
    ((lists : Lists) × HasLoad files directory lists) × (log ≡ Some path.now) × AddsPath unwritten.0 unwritten.1 path.now × unprinted
IsStormFault directory log files unwritten old new unprinted (fault.Refused refusal) =
    (IsOfFiles directory (IsReadFault files directory) (fault.Refused refusal) × unprinted)
    ⊎ ((lists : Lists) × HasLoad files directory lists × (unprinted ⊎ IsStormPrinted lists (Some refusal) old new))
IsStormFault directory log files unwritten old new unprinted why = IsOfFiles directory (IsReadFault files directory) why × unprinted
