-- Why the files of a directory weren't read or written.
use Rattle.std.specs.Prelude.{◌≡◌, ◌⊎◌, ⊤, ℕ, List, Option}
use Rattle.hy_schema.specs.declared.refusal.Refusal.TheVariants as refusals
use Rattle.hy_files.specs.declared.directory.FileFault.{FileFault}
use Rattle.hy_files.specs.declared.directory.FileFault.TheVariants as fault
use Rattle.hy_rows.specs.declared.catalogue.Table.{Table}
use Rattle.hy_files.specs.Directory.{EndsAt, IsFirstMissing, path_of}
use Rattle.hy_files.specs.Files.{AddsPath, FilesByPath, KnownPaths}

-- the file of a table is the first that isn't there, or memory was refused
abbrev pub IsUnread : Option FilesByPath → List ℕ → FileFault → Type 0
IsUnread known directory (fault.CannotRead table) = IsFirstMissing known directory table
IsUnread known directory (fault.CannotWrite table) = ⊥
IsUnread known directory (fault.Refused refusal) = refusal ≡ refusals.NoMemory

-- no file was written, or writing ended at the file of a table: those before it have their texts, and those behind it
-- are as they were
abbrev pub EndsSomewhere : Option FilesByPath → Option FilesByPath → List ℕ → List (List ℕ) → Type 0
EndsSomewhere old new directory texts =
    (new ≡ old) ⊎ ((table : Table) × EndsAt old new directory table texts)

-- the file of a table wasn't written: those before it have their texts, and those behind it are as they were; or
-- memory was refused, before the first file or at one of them
abbrev pub IsUnwritten : Option FilesByPath → Option FilesByPath → List ℕ → List (List ℕ) → FileFault → Type 0
IsUnwritten old new directory texts (fault.CannotRead table) = ⊥
IsUnwritten old new directory texts (fault.CannotWrite table) = EndsAt old new directory table texts
IsUnwritten old new directory texts (fault.Refused refusal) =
    (refusal ≡ refusals.NoMemory) × EndsSomewhere old new directory texts

-- that the file of a table can't be written was said by the file system, which was asked to write it
abbrev pub IsOfSystem : KnownPaths → KnownPaths → List ℕ → FileFault → Type 0
IsOfSystem old new directory (fault.CannotWrite table) = AddsPath old new (path_of directory table)
IsOfSystem old new directory other = ⊤
