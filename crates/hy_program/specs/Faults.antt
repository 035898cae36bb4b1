-- Why a command line isn't done: the texts, and what is behind them.
use Rattle.std.specs.Prelude.{◌≡◌, ⊤, ℕ, Bool, List, ◌++◌, Option, None, Some, IsSomeAnd, IsTrue, codes}
use Rattle.std.specs.Fmt.{decimal}
use Rattle.std.specs.Io.KnownBytes.{Appends}
use Rattle.hy_schema.specs.Refusals.{refusal_text}
use Rattle.hy_files.specs.declared.directory.FileFault.{FileFault}
use Rattle.hy_files.specs.declared.directory.FileFault.TheVariants as files
use Rattle.hy_files.specs.Directory.{path_of}
use Rattle.hy_script.specs.declared.script.ScriptFault.{ScriptFault}
use Rattle.hy_script.specs.declared.script.ScriptFault.TheVariants as scripts
use Rattle.hy_program.specs.declared.fault.FilePath.{FilePath}
use Rattle.hy_program.specs.declared.fault.RunFault.{RunFault}
use Rattle.hy_program.specs.declared.fault.RunFault.TheVariants as fault
use Rattle.hy_program.specs.declared.fault.ServeFault.{ServeFault}
use Rattle.hy_program.specs.declared.fault.ServeFault.TheVariants as serves

abbrev pub path_text : FilePath → List ℕ
path_text path = path_of path.directory.now path.table

abbrev pub serve_text : ServeFault → List ℕ
serve_text (serves.OtherLoad path) = path.now ++ codes " is the log of another load"
serve_text (serves.CannotReadSums path) = codes "cannot read " ++ path.now ++ codes ".load"
serve_text (serves.CannotWriteSums path) = codes "cannot write " ++ path.now ++ codes ".load"
serve_text (serves.Input error) = codes "cannot read standard input"

-- the text of a fault; that of an output's error isn't known to a clause
abbrev pub fault_text : RunFault → Option (List ℕ)
fault_text (fault.Refused refusal) = Some (codes "refused " ++ refusal_text refusal)
fault_text (fault.CannotRead path) = Some (codes "cannot read " ++ path_text path)
fault_text (fault.CannotWrite path) = Some (codes "cannot write " ++ path_text path)
fault_text (fault.CannotReadFile path) = Some (codes "cannot read " ++ path.now)
fault_text (fault.CannotWriteFile path) = Some (codes "cannot write " ++ path.now)
fault_text (fault.BadEvent number) = Some (codes "bad event on line " ++ decimal number)
fault_text (fault.Serve found) = Some (serve_text found)
fault_text (fault.Writer error) = None

-- the first output is blamed only where a write to it has failed
abbrev pub IsBlamedRightly : Bool → RunFault → Type 0
IsBlamedRightly has_failed (fault.Writer error) = IsTrue has_failed
IsBlamedRightly has_failed (fault.Refused refusal) = ⊤
IsBlamedRightly has_failed (fault.CannotRead path) = ⊤
IsBlamedRightly has_failed (fault.CannotReadFile path) = ⊤
IsBlamedRightly has_failed (fault.BadEvent number) = ⊤
IsBlamedRightly has_failed (fault.Serve found) = ⊤
IsBlamedRightly has_failed (fault.CannotWrite path) = ⊤
IsBlamedRightly has_failed (fault.CannotWriteFile path) = ⊤

-- the line of the fault stands behind the bytes that were there
abbrev pub Explains : RunFault → Option (List ℕ) → Option (List ℕ) → Type 0
Explains why old new = IsSomeAnd (fault_text why) (λ text. Appends old new (text ++ codes "\n"))

-- what a fault of a folder's files is for a command line
abbrev pub IsAboutFiles : List ℕ → FileFault → RunFault → Type 0
IsAboutFiles directory (files.Refused refusal) made = made ≡ fault.Refused refusal
IsAboutFiles directory (files.CannotRead table) (fault.CannotRead path) =
    (path.directory.now ≡ directory) × (path.table ≡ table)
IsAboutFiles directory (files.CannotWrite table) (fault.CannotWrite path) =
    (path.directory.now ≡ directory) × (path.table ≡ table)
IsAboutFiles directory found made = ⊥

-- the fault of a command line is one of a folder's files
abbrev pub IsOfFiles : List ℕ → (FileFault → Type 0) → RunFault → Type 0
IsOfFiles directory Is (fault.Refused refusal) = Is (files.Refused refusal)
IsOfFiles directory Is (fault.CannotRead path) = (path.directory.now ≡ directory) × Is (files.CannotRead path.table)
IsOfFiles directory Is (fault.CannotWrite path) = (path.directory.now ≡ directory) × Is (files.CannotWrite path.table)
IsOfFiles directory Is (fault.CannotReadFile path) = ⊥
IsOfFiles directory Is (fault.CannotWriteFile path) = ⊥
IsOfFiles directory Is (fault.BadEvent number) = ⊥
IsOfFiles directory Is (fault.Serve found) = ⊥
IsOfFiles directory Is (fault.Writer error) = ⊥

-- what a fault of a script is for a command line
abbrev pub IsOfScript : ScriptFault → RunFault → Type 0
IsOfScript (scripts.Refused refusal) made = made ≡ fault.Refused refusal
IsOfScript (scripts.BadEvent number) made = made ≡ fault.BadEvent number
IsOfScript (scripts.Output error) made = made ≡ fault.Writer error
