-- A load in the nine files of a directory.
use Rattle.std.specs.Prelude.{◌≡◌, ◌⊎◌, ℕ, List, Option}
use Rattle.hy_rows.specs.Tables.{Lists}
use Rattle.hy_schema.specs.declared.refusal.Refusal.{Refusal}
use Rattle.hy_schema.specs.declared.refusal.Refusal.TheVariants as refusals
use Rattle.hy_schema.specs.Loads.{IsLoad, all_whole}
use Rattle.hy_loads.specs.Checks.{IsRefusalOf}
use Rattle.hy_tables.specs.Files.{ends_read, lists_read, readings_of}
use Rattle.hy_files.specs.declared.directory.FileFault.{FileFault}
use Rattle.hy_files.specs.declared.directory.FileFault.TheVariants as fault
use Rattle.hy_files.specs.Directory.{AreFiles, IsFirstMissing, tables}
use Rattle.hy_files.specs.Files.{FilesByPath}

-- texts were read whole, and say this load
abbrev pub SayLoad : Lists → List (List ℕ) → Type 0
SayLoad load texts =
    (load ≡ lists_read (readings_of texts)) × (ends_read (readings_of texts) ≡ all_whole)
    × IsLoad (lists_read (readings_of texts))

-- texts are no load, for this reason, or memory was refused
abbrev pub AreRefused : Refusal → List (List ℕ) → Type 0
AreRefused refusal texts = IsRefusalOf (ends_read (readings_of texts)) (lists_read (readings_of texts)) refusal

-- the nine files of a directory are there, as far as files are known, and this holds of their texts
abbrev pub HaveTexts : Option FilesByPath → List ℕ → (List (List ℕ) → Type 0) → Type 0
HaveTexts known directory holds = (texts : List (List ℕ)) × AreFiles known directory tables texts × holds texts

-- the file of a table is the first that isn't there; or memory was refused; or all are there, and are no load
abbrev pub IsReadFault : Option FilesByPath → List ℕ → FileFault → Type 0
IsReadFault known directory (fault.CannotRead table) = IsFirstMissing known directory table
IsReadFault known directory (fault.CannotWrite table) = ⊥
IsReadFault known directory (fault.Refused refusal) =
    (refusal ≡ refusals.NoMemory) ⊎ HaveTexts known directory (AreRefused refusal)
