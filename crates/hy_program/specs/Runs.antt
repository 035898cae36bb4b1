-- What a run of the program leaves, by the way in which it ended. Of files and of bytes that were written, a pair has
-- what was there before, and what is there after it, as far as they are known; what is to come of the input may be known too.
use Rattle.std.specs.Prelude.{◌≡◌, ◌⊎◌, ℕ, List, Option}
use Rattle.std.specs.Option.{option_copied}
use Rattle.hy_schema.specs.declared.refusal.Refusal.TheVariants as refusals
use Rattle.hy_files.specs.Directory.{KeepsOtherFiles, tables}
use Rattle.hy_files.specs.Files.{AddsPath, FilesByPath, KnownPaths}
use Rattle.hy_cli.specs.CommandLine.{Says}
use Rattle.hy_cli.specs.declared.words.Line.{Line}
use Rattle.hy_cli.specs.declared.words.Line.TheVariants as line
use Rattle.hy_program.specs.declared.ending.Ending.{Ending}
use Rattle.hy_program.specs.declared.ending.Ending.TheVariants as ending
use Rattle.hy_program.specs.declared.fault.RunFault.{RunFault}
use Rattle.hy_program.specs.declared.fault.RunFault.TheVariants as fault
use Rattle.hy_program.specs.declared.generate.Size.{Size}
use Rattle.hy_program.specs.Check.{IsCheckFault, IsChecked}
use Rattle.hy_program.specs.Faults.{Explains}
use Rattle.hy_program.specs.First.{IsFirstFault, IsFirstPrinted}
use Rattle.hy_program.specs.declared.script.Limits.{Limits}
use Rattle.hy_program.specs.Script.{IsScriptDone, IsScriptFaultOf}
use Rattle.hy_program.specs.Generate.{IsGenerateFault, IsGenerated, IsSize}
use Rattle.hy_program.specs.Query.{IsQueryDone, IsQueryFault}
use Rattle.hy_program.specs.Recover.{IsRecoverDone, IsRecoverFault, KeepsFolder, Makes}
use Rattle.hy_hyper_life.specs.Reading.{KeepsAllBut as KeepsAllButLog, sums_path}
use Rattle.hy_hyper_life.specs.Served.{ServesFiles}
use Rattle.hy_program.specs.Serve.{IsServeFaultOf, terms_of}
use Rattle.hy_program.specs.Storm.{IsStormDone, IsStormFault, KeepsAllBut}

abbrev pub KnownFiles : Type 0
KnownFiles = Option FilesByPath × Option FilesByPath

abbrev pub BothPaths : Type 0
BothPaths = KnownPaths × KnownPaths

abbrev pub KnownBytes : Type 0
KnownBytes = Option (List ℕ) × Option (List ℕ)

-- the size that `gen` is given
abbrev pub size_of : ℕ → ℕ → ℕ → Size
size_of warehouses customers items = record {
  warehouses = warehouses;
  customers = customers;
  items = items;
}

-- the limits that `script` is given
abbrev pub limits_of : ℕ → ℕ → Limits
limits_of frames kept = record { frames = frames; kept = kept }

-- a command line was done: it printed what it found behind the bytes that were there
abbrev pub IsDone : Line → KnownFiles → Option (List ℕ) → KnownBytes → Type 0
IsDone (line.First amount) files coming bytes = IsFirstPrinted amount bytes.0 bytes.1
IsDone (line.Generate directory warehouses customers items) files coming bytes =
    IsGenerated directory.now (size_of warehouses customers items) files.1 bytes.0 bytes.1
IsDone (line.Check directory log) files coming bytes = IsChecked directory.now (option_copied log) files.0 bytes.0 bytes.1
IsDone (line.Script directory file frames kept) files coming bytes =
    IsScriptDone directory.now file.now (limits_of frames kept) files.0 bytes.0 bytes.1
IsDone (line.Serve directory log frames kept is_numbered) files coming bytes =
    ServesFiles directory.now log.now (terms_of frames kept is_numbered) files coming bytes
IsDone (line.Query directory text log) files coming bytes =
    IsQueryDone directory.now text.now (option_copied log) files.0 bytes.0 bytes.1
IsDone (line.Storm directory terminals sessions commands log) files coming bytes =
    IsStormDone directory.now (option_copied log) files.0 files.1 bytes.0 bytes.1
IsDone (line.Recover directory log out) files coming bytes =
    IsRecoverDone directory.now log.now (option_copied out) files bytes

-- why a command line isn't done; where it is refused, nothing is printed, but for a script's answers to the events
-- before a bad one, for the lines of a storm in which a thread ended early or the log failed, and for what was found behind a
-- log and can't be saved
abbrev pub IsFaultOf : Line → KnownFiles → BothPaths → Option (List ℕ) → KnownBytes → Type 0 → RunFault → Type 0
IsFaultOf (line.First amount) files unwritten coming bytes unprinted why = IsFirstFault amount unprinted why
IsFaultOf (line.Generate directory warehouses customers items) files unwritten coming bytes unprinted why =
    IsGenerateFault directory.now (size_of warehouses customers items) files unwritten unprinted why
IsFaultOf (line.Check directory log) files unwritten coming bytes unprinted why =
    IsCheckFault directory.now (option_copied log) files.0 unprinted why
IsFaultOf (line.Script directory file frames kept) files unwritten coming bytes unprinted why =
    IsScriptFaultOf directory.now file.now (limits_of frames kept) files.0 bytes.0 bytes.1 unprinted why
IsFaultOf (line.Serve directory log frames kept is_numbered) files unwritten coming bytes unprinted why =
    IsServeFaultOf directory.now log.now (terms_of frames kept is_numbered) files unwritten coming bytes unprinted why
IsFaultOf (line.Query directory text log) files unwritten coming bytes unprinted why =
    IsQueryFault directory.now text.now (option_copied log) files.0 unprinted why
IsFaultOf (line.Storm directory terminals sessions commands log) files unwritten coming bytes unprinted why =
    IsStormFault directory.now (option_copied log) files.0 unwritten bytes.0 bytes.1 unprinted why
IsFaultOf (line.Recover directory log out) files unwritten coming bytes unprinted why =
    IsRecoverFault directory.now log.now (option_copied out) files unwritten bytes unprinted why

-- `gen` writes files, those of its folder, where there is a database of its size; a service its log and the digests beside it; a
-- storm writes its log, and a recovery the files of its folder, where one is named. No other command line writes any
abbrev pub MayWrite : Line → KnownFiles → Type 0
MayWrite (line.Generate directory warehouses customers items) files =
    IsSize (size_of warehouses customers items) × KeepsOtherFiles files.0 files.1 directory.now tables
MayWrite (line.Serve directory log frames kept is_numbered) files =
    KeepsAllButLog files.0 files.1 log.now (sums_path log.now)
MayWrite (line.Storm directory terminals sessions commands log) files = KeepsAllBut (option_copied log) files.0 files.1
MayWrite (line.Recover directory log out) files = KeepsFolder (option_copied out) files
MayWrite other files = ⊥

-- `gen` makes a folder, its own, where there is a database of its size, and a recovery its own, where one is named
abbrev pub MayMake : Line → BothPaths → Type 0
MayMake (line.Generate directory warehouses customers items) folders =
    IsSize (size_of warehouses customers items) × AddsPath folders.0 folders.1 directory.now
MayMake (line.Recover directory log out) folders = Makes (option_copied out) folders
MayMake other folders = ⊥

-- a command line that was done has made no folder, but for `gen` and a recovery, which were to make their own
abbrev pub HasMade : Line → BothPaths → Type 0
HasMade (line.Generate directory warehouses customers items) folders = AddsPath folders.0 folders.1 directory.now
HasMade (line.Recover directory log out) folders = Makes (option_copied out) folders
HasMade other folders = folders.1 ≡ folders.0

-- the files stay as they were, but where the words say a command line that writes some
abbrev pub KeepsFiles : List (List ℕ) → KnownFiles → Type 0
KeepsFiles words files = (files.1 ≡ files.0) ⊎ ((line : Line) × Says words line × MayWrite line files)

-- no folder is made, but where the words say a command line that makes one
abbrev pub KeepsFolders : List (List ℕ) → BothPaths → Type 0
KeepsFolders words folders = (folders.1 ≡ folders.0) ⊎ ((line : Line) × Says words line × MayMake line folders)

-- the words say a command line that made the folders which it makes
abbrev pub HaveMade : List (List ℕ) → BothPaths → Type 0
HaveMade words folders = (line : Line) × Says words line × HasMade line folders

-- the words say a command line that was done
abbrev pub Completes : List (List ℕ) → KnownFiles → Option (List ℕ) → KnownBytes → Type 0
Completes words files coming bytes = (line : Line) × Says words line × IsDone line files coming bytes

-- this is why the words aren't done, and this is what there is then: memory was refused while they were read, and nothing
-- was done or printed; or their command line isn't done, and the files and the first output have what it leaves for that
-- reason
abbrev pub AreUndone : List (List ℕ) → KnownFiles → BothPaths → Option (List ℕ) → KnownBytes → Type 0 → RunFault → Type 0
AreUndone words files unwritten coming bytes unprinted why =
    ((why ≡ fault.Refused refusals.NoMemory) × (files.1 ≡ files.0) × unprinted)
    ⊎ ((line : Line) × Says words line × ((files.1 ≡ files.0) ⊎ MayWrite line files)
    × IsFaultOf line files unwritten coming bytes unprinted why)

-- the words aren't done for one reason, and the line that says it stands behind the bytes of the second output
abbrev pub AreRefused : List (List ℕ) → KnownFiles → BothPaths → Option (List ℕ) → KnownBytes → Type 0 → KnownBytes → Type 0
AreRefused words files unwritten coming bytes unprinted second =
    (why : RunFault) × AreUndone words files unwritten coming bytes unprinted why × Explains why second.0 second.1

-- the same, and what the second output has isn't known
abbrev pub AreUndoneSilently : List (List ℕ) → KnownFiles → BothPaths → Option (List ℕ) → KnownBytes → Type 0 → Type 0
AreUndoneSilently words files unwritten coming bytes unprinted =
    (why : RunFault) × AreUndone words files unwritten coming bytes unprinted why

-- the exit status of a run that ended so
abbrev pub status_of : Ending → ℕ
status_of ending.Done = 0
status_of ending.Refused = 1
status_of ending.WriterFailed = 1
status_of ending.NoLine = 2
