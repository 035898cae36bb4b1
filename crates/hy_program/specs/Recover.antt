-- What `recover` does: it runs what a log has again on the database in the files of a folder, and prints what it finds behind
-- it.
use Rattle.std.specs.Prelude.{◌≡◌, ◌⊎◌, ℕ, List, ◌++◌, Option, None, Some, codes}
use Rattle.std.specs.Fmt.{decimal}
use Rattle.std.specs.Io.KnownBytes.{Appends}
use Rattle.hy_rows.specs.Tables.{Lists, Tables}
use Rattle.hy_schema.specs.Loads.{IsLoad, all_whole}
use Rattle.hy_schema.specs.declared.refusal.Refusal.{Refusal}
use Rattle.hy_loads.specs.Checks.{IsRefusalOf}
use Rattle.hy_tables.specs.Files.{texts_of}
use Rattle.hy_files.specs.declared.directory.FileFault.{FileFault}
use Rattle.hy_files.specs.Directory.{AreFiles, KeepsOtherFiles, tables}
use Rattle.hy_files.specs.Faults.{IsOfSystem, IsUnwritten}
use Rattle.hy_files.specs.Files.{AddsPath, FilesByPath, KnownPaths}
use Rattle.hy_program.specs.declared.fault.RunFault.{RunFault}
use Rattle.hy_program.specs.declared.fault.RunFault.TheVariants as fault
use Rattle.hy_program.specs.Check.{report}
use Rattle.hy_program.specs.Faults.{IsOfFiles}
use Rattle.hy_program.specs.Reading.{HasBoth, IsReadAllFault}
use Rattle.hy_program.specs.Replay.{IsBehind, IsWhyLost}
use Rattle.hy_program.specs.declared.script.Limits.{Limits}

-- its limits: 100,000 frames and 1,000,000 commits for each warehouse
abbrev pub recover_limits : Limits
recover_limits = record { frames = 100_000; kept = 1_000_000 }

-- ---- what is printed

-- the line with the number of batches
abbrev pub batches_text : ℕ → List ℕ
batches_text count = codes "batches " ++ decimal count ++ codes "\n"

abbrev pub recovered_text : ℕ → Tables → List ℕ
recovered_text count rows = batches_text count ++ report rows

-- ---- what is saved

-- the items of a load, with other rows
abbrev pub with_rows : Lists → Tables → Lists
with_rows lists rows = record { items = lists.items; tables = rows }

-- where a folder is named, these lists are a load, and its nine files have their texts; else no file changed. The files are
-- those before and those after
abbrev pub IsSaved : Option (List ℕ) → Lists → Option FilesByPath × Option FilesByPath → Type 0
IsSaved None lists files = files.1 ≡ files.0
IsSaved (Some directory) lists files = IsLoad lists × AreFiles files.1 directory tables (texts_of lists)

-- no file but the nine of the folder is written, where one is named
abbrev pub KeepsFolder : Option (List ℕ) → Option FilesByPath × Option FilesByPath → Type 0
KeepsFolder None files = files.1 ≡ files.0
KeepsFolder (Some directory) files = KeepsOtherFiles files.0 files.1 directory tables

-- the folder is asked for, where one is named
abbrev pub Makes : Option (List ℕ) → KnownPaths × KnownPaths → Type 0
Makes None folders = folders.1 ≡ folders.0
Makes (Some directory) folders = AddsPath folders.0 folders.1 directory

-- a file of the folder can't be written, as the file system said
abbrev pub IsUnwrittenIn : List ℕ → Lists → Option FilesByPath × Option FilesByPath → KnownPaths × KnownPaths → FileFault → Type 0
IsUnwrittenIn directory lists files unwritten found =
    IsUnwritten files.0 files.1 directory (texts_of lists) found × IsOfSystem unwritten.0 unwritten.1 directory found

-- why lists aren't saved in a folder: they are no load, and no file changed; or a file can't be written
abbrev pub IsUnsaved : List ℕ → Lists → Option FilesByPath × Option FilesByPath → KnownPaths × KnownPaths → RunFault → Type 0
IsUnsaved directory lists files unwritten why =
    ((refusal : Refusal) × (why ≡ fault.Refused refusal) × IsRefusalOf all_whole lists refusal × (files.1 ≡ files.0))
    ⊎ IsOfFiles directory (IsUnwrittenIn directory lists files unwritten) why

abbrev pub IsSaveFault : Option (List ℕ) → Lists → Option FilesByPath × Option FilesByPath → KnownPaths × KnownPaths → RunFault → Type 0
IsSaveFault None lists files unwritten why = ⊥
IsSaveFault (Some directory) lists files unwritten why = IsUnsaved directory lists files unwritten why

-- ---- the command

-- what is found behind a log of a load stands behind the bytes that were there
pub record IsFound (directory log : List ℕ) (files : Option FilesByPath) (old new : Option (List ℕ)) (lists : Lists) (rows : Tables) : Type 0 where
  pub bytes : List ℕ
  pub count : ℕ
  pub read : HasBoth directory log files lists bytes
  pub behind : IsBehind lists bytes count rows
  pub printed : Appends old new (recovered_text count rows)

-- and it is saved
abbrev pub IsRecoverDone : List ℕ → List ℕ → Option (List ℕ) → Option FilesByPath × Option FilesByPath → Option (List ℕ) × Option (List ℕ)
    → Type 0
IsRecoverDone directory log into files bytes =
    (lists : Lists) × (rows : Tables) × IsFound directory log files.0 bytes.0 bytes.1 lists rows
    × IsSaved into (with_rows lists rows) files

-- nothing is recovered, with nothing printed and no file changed
abbrev pub IsNotRecovered : List ℕ → List ℕ → Option FilesByPath × Option FilesByPath → Type 0 → Refusal → Type 0
IsNotRecovered directory log files unprinted refusal =
    ((IsReadAllFault directory log files.0 (fault.Refused refusal)
    ⊎ ((lists : Lists) × (bytes : List ℕ) × HasBoth directory log files.0 lists bytes × IsWhyLost recover_limits lists bytes refusal))
    × (files.1 ≡ files.0) × unprinted)

-- what was found is printed, and can't be saved
abbrev pub IsNotSaved : List ℕ → List ℕ → Option (List ℕ) → Option FilesByPath × Option FilesByPath → KnownPaths × KnownPaths
    → Option (List ℕ) × Option (List ℕ) → RunFault → Type 0
IsNotSaved directory log into files unwritten bytes why =
    (lists : Lists) × (rows : Tables) × IsFound directory log files.0 bytes.0 bytes.1 lists rows
    × IsSaveFault into (with_rows lists rows) files unwritten why

-- why it isn't done: the files can't be read or are no load, or the log isn't one of it, before anything was printed; or what
-- is found can't be saved, behind the lines; or the output failed
abbrev pub IsRecoverFault : List ℕ → List ℕ → Option (List ℕ) → Option FilesByPath × Option FilesByPath → KnownPaths × KnownPaths
    → Option (List ℕ) × Option (List ℕ) → Type 0 → RunFault → Type 0
IsRecoverFault directory log into files unwritten bytes unprinted (fault.Writer error) =
    ((lists : Lists) × (given : List ℕ) × HasBoth directory log files.0 lists given) × (files.1 ≡ files.0)
IsRecoverFault directory log into files unwritten bytes unprinted (fault.Refused refusal) =
    IsNotRecovered directory log files unprinted refusal
    ⊎ IsNotSaved directory log into files unwritten bytes (fault.Refused refusal)
IsRecoverFault directory log into files unwritten bytes unprinted (fault.CannotWrite path) =
    IsNotSaved directory log into files unwritten bytes (fault.CannotWrite path)
IsRecoverFault directory log into files unwritten bytes unprinted why =
    IsReadAllFault directory log files.0 why × (files.1 ≡ files.0) × unprinted
