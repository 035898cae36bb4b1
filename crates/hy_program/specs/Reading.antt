-- The files that a command reads: the nine of a load, and one behind them, which may be a log.
use Rattle.std.specs.Prelude.{◌≡◌, ◌⊎◌, ℕ, List, Option}
use Rattle.std.specs.declared.io.Error.{Error}
use Rattle.hy_schema.specs.declared.refusal.Refusal.TheVariants as refusals
use Rattle.hy_rows.specs.Tables.{Lists}
use Rattle.hy_files.specs.Directory.{AreFiles, IsFirstMissing, tables}
use Rattle.hy_files.specs.Files.{FilesByPath, HasFile, IsMissing, IsOutOfMemory}
use Rattle.hy_files.specs.Loads.{AreRefused, HaveTexts, SayLoad}
use Rattle.hy_batches.specs.Batches.{Batch}
use Rattle.hy_batches.specs.Logs.{IsLog}
use Rattle.hy_program.specs.declared.fault.RunFault.{RunFault}
use Rattle.hy_program.specs.declared.fault.RunFault.TheVariants as fault

-- the files of the folder are those of a load with these lists
abbrev pub HasLoad : Option FilesByPath → List ℕ → Lists → Type 0
HasLoad files directory lists = HaveTexts files directory (SayLoad lists)

-- the files of the folder are those of a load with these lists, and the file has these bytes
abbrev pub HasBoth : List ℕ → List ℕ → Option FilesByPath → Lists → List ℕ → Type 0
HasBoth directory file files lists bytes = HasLoad files directory lists × HasFile files file bytes

-- the same, and the bytes are those of a log with these batches, and of no more than the begin of another one
abbrev pub HasLog : List ℕ → List ℕ → Option FilesByPath → Lists → List Batch → Type 0
HasLog directory log files lists batches =
    (bytes : List ℕ) × (rest : List ℕ) × HasBoth directory log files lists bytes × IsLog bytes batches rest

-- the file can't be read, or memory was refused
abbrev pub IsWhyUnread : List ℕ → Error → RunFault → Type 0
IsWhyUnread file error (fault.Refused refusal) = (refusal ≡ refusals.NoMemory) × IsOutOfMemory error
IsWhyUnread file error (fault.CannotReadFile path) = (path.now ≡ file) × (IsOutOfMemory error → ⊥)
IsWhyUnread file error other = ⊥

-- that file isn't there, or memory was refused
abbrev pub IsFileFault : List ℕ → Option FilesByPath → RunFault → Type 0
IsFileFault file files (fault.Refused refusal) = refusal ≡ refusals.NoMemory
IsFileFault file files (fault.CannotReadFile path) = (path.now ≡ file) × IsMissing files file
IsFileFault file files why = ⊥

-- the nine files of the folder are there
abbrev pub HasNine : List ℕ → Option FilesByPath → Type 0
HasNine directory files = (texts : List (List ℕ)) × AreFiles files directory tables texts

-- why the files can't be read or are no load, the first of these: one of the nine isn't there; that file isn't;
-- the nine are no load. Memory may be refused at any of them
abbrev pub IsReadAllFault : List ℕ → List ℕ → Option FilesByPath → RunFault → Type 0
IsReadAllFault directory file files (fault.CannotRead path) =
    (path.directory.now ≡ directory) × IsFirstMissing files directory path.table
IsReadAllFault directory file files (fault.CannotReadFile path) =
    HasNine directory files × (path.now ≡ file) × IsMissing files file
IsReadAllFault directory file files (fault.Refused refusal) =
    (refusal ≡ refusals.NoMemory)
    ⊎ (((bytes : List ℕ) × HasFile files file bytes) × HaveTexts files directory (AreRefused refusal))
IsReadAllFault directory file files why = ⊥
