-- Why a service doesn't begin.
use Rattle.std.specs.Prelude.{◌≡◌, ◌⊎◌, ⊤, ℕ, List, Bool, IsTrue, Option, Some}
use Rattle.std.specs.declared.io.Error.{Error}
use Rattle.hy_schema.specs.declared.refusal.Refusal.TheVariants as refusals
use Rattle.hy_files.specs.Directory.{AreFiles, IsFirstMissing, tables}
use Rattle.hy_files.specs.Files.{AddsPath, FilesByPath, HasFile, IsMissing, IsOutOfMemory, KnownPaths}
use Rattle.hy_files.specs.Loads.{AreRefused, HaveTexts}
use Rattle.hy_files_sums.specs.Beside.{IsFound}
use Rattle.hy_files_sums.specs.declared.beside.Found.TheVariants as found
use Rattle.hy_hyper_service.specs.declared.service.ServiceFault.{ServiceFault}
use Rattle.hy_hyper_service.specs.declared.service.ServiceFault.TheVariants as services
use Rattle.hy_hyper_life.specs.declared.fault.LifeFault.{LifeFault}
use Rattle.hy_hyper_life.specs.declared.fault.LifeFault.TheVariants as faults

-- an error says that memory was refused; or it is one of the file, for which this fault stands
abbrev pub IsWhy : Error → LifeFault → LifeFault → Type 0
IsWhy error other made =
    (IsOutOfMemory error × (made ≡ faults.Refused refusals.NoMemory)) ⊎ ((IsOutOfMemory error → ⊥) × (made ≡ other))

-- what it is for a service on files that it ended before its input did
abbrev pub IsAbout : ServiceFault → LifeFault → Type 0
IsAbout (services.Refused refusal) made = made ≡ faults.Refused refusal
IsAbout (services.Output error) made = made ≡ faults.Output error
IsAbout (services.Input error) made = made ≡ faults.Input error

-- the output is blamed only where a write to it has failed
abbrev pub IsBlamed : Bool → LifeFault → Type 0
IsBlamed has_failed (faults.Output error) = IsTrue has_failed
IsBlamed has_failed why = ⊤

-- the nine files of a folder are there
abbrev pub HasNine : Option FilesByPath → List ℕ → Type 0
HasNine files directory = (texts : List (List ℕ)) × AreFiles files directory tables texts

-- one of them isn't, or memory was refused
abbrev pub IsTextsFault : Option FilesByPath → List ℕ → LifeFault → Type 0
IsTextsFault files directory (faults.CannotRead table) = IsFirstMissing files directory table
IsTextsFault files directory (faults.Refused refusal) = refusal ≡ refusals.NoMemory
IsTextsFault files directory why = ⊥

-- the file of a log isn't there, or memory was refused
abbrev pub IsLogUnread : Option FilesByPath → List ℕ → LifeFault → Type 0
IsLogUnread files path faults.CannotReadLog = IsMissing files path
IsLogUnread files path (faults.Refused refusal) = refusal ≡ refusals.NoMemory
IsLogUnread files path why = ⊥

-- the lock on a log's file can't be had, as the file system said, or memory was refused
abbrev pub IsHoldFault : KnownPaths × KnownPaths → List ℕ → LifeFault → Type 0
IsHoldFault unwritten path faults.CannotWriteLog = AddsPath unwritten.0 unwritten.1 path
IsHoldFault unwritten path (faults.Refused refusal) = refusal ≡ refusals.NoMemory
IsHoldFault unwritten path why = ⊥

-- why no load and no log are read, the first of these: one of the nine files isn't there; the log isn't; the nine are no load.
-- Memory may be refused at any of them
abbrev pub IsReadFault : Option FilesByPath → List ℕ → List ℕ → LifeFault → Type 0
IsReadFault files directory path (faults.CannotRead table) = IsFirstMissing files directory table
IsReadFault files directory path faults.CannotReadLog = HasNine files directory × IsMissing files path
IsReadFault files directory path (faults.Refused refusal) =
    (refusal ≡ refusals.NoMemory)
    ⊎ (HaveTexts files directory (AreRefused refusal) × ((bytes : List ℕ) × HasFile files path bytes))
IsReadFault files directory path why = ⊥

-- why it isn't known that no digests of another load stand beside a log: there are such; or they can't be read
abbrev pub IsSumsFault : Option FilesByPath → List ℕ → List ℕ → LifeFault → Type 0
IsSumsFault files beside sums faults.OtherLoad = IsFound files beside sums found.Other
IsSumsFault files beside sums faults.CannotReadSums = ⊤
IsSumsFault files beside sums (faults.Refused refusal) = refusal ≡ refusals.NoMemory
IsSumsFault files beside sums why = ⊥

-- the digests beside a log can't be written, or memory was refused
abbrev pub IsSumsUnwritten : LifeFault → Type 0
IsSumsUnwritten faults.CannotWriteSums = ⊤
IsSumsUnwritten (faults.Refused refusal) = refusal ≡ refusals.NoMemory
IsSumsUnwritten why = ⊥

-- why a log doesn't go on: the digests beside it, or it, can't be written
abbrev pub IsWriteFault : KnownPaths × KnownPaths → List ℕ → LifeFault → Type 0
IsWriteFault unwritten path faults.CannotWriteSums = ⊤
IsWriteFault unwritten path faults.CannotWriteLog = AddsPath unwritten.0 unwritten.1 path
IsWriteFault unwritten path (faults.Refused refusal) = refusal ≡ refusals.NoMemory
IsWriteFault unwritten path why = ⊥

-- why a life that has ended so isn't over well: for that reason, and the log's file has all that was written; or that can't be
abbrev pub IsEndFault : Option ServiceFault → Type 0 → KnownPaths × KnownPaths → List ℕ → LifeFault → Type 0
IsEndFault ended written unwritten path why =
    ((fault : ServiceFault) × (ended ≡ Some fault) × IsAbout fault why × written) ⊎ IsWriteFault unwritten path why
