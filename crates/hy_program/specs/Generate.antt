-- What `gen` does: it writes the nine files of a generated database.
use Rattle.std.specs.Prelude.{◌≡◌, ◌⊎◌, ℕ, List, Option, true, IsFalse, codes}
use Rattle.std.specs.Io.KnownBytes.{Appends}
use Rattle.hy_schema.specs.declared.refusal.Refusal.TheVariants as refusals
use Rattle.hy_tables.specs.Files.{texts_of}
use Rattle.hy_tables.specs.Generated.{generated_lists, is_size}
use Rattle.hy_files.specs.Directory.{AreFiles, tables}
use Rattle.hy_files.specs.declared.directory.FileFault.{FileFault}
use Rattle.hy_files.specs.Faults.{EndsSomewhere, IsOfSystem, IsUnwritten}
use Rattle.hy_files.specs.Files.{FilesByPath, KnownPaths}
use Rattle.hy_program.specs.declared.fault.RunFault.{RunFault}
use Rattle.hy_program.specs.declared.fault.RunFault.TheVariants as fault
use Rattle.hy_program.specs.declared.generate.Size.{Size}
use Rattle.hy_program.specs.Faults.{IsOfFiles}

-- the texts of the nine files
abbrev pub generated_texts : Size → List (List ℕ)
generated_texts size = texts_of (generated_lists size.warehouses size.customers size.items)

-- whether there is a database of this size
abbrev pub IsSize : Size → Type 0
IsSize size = is_size size.warehouses size.customers size.items ≡ true

-- the files are written, and the line that says so stands behind the bytes that were there
abbrev pub IsGenerated : List ℕ → Size → Option FilesByPath → Option (List ℕ) → Option (List ℕ) → Type 0
IsGenerated directory size files old new =
    AreFiles files directory tables (generated_texts size) × Appends old new (codes "wrote 9 tables\n")

-- a file of the folder can't be written, as the file system said
abbrev pub IsUnwrittenAt : List ℕ → Size → Option FilesByPath × Option FilesByPath → KnownPaths × KnownPaths → FileFault → Type 0
IsUnwrittenAt directory size files unwritten found =
    IsUnwritten files.0 files.1 directory (generated_texts size) found × IsOfSystem unwritten.0 unwritten.1 directory found

-- why it isn't done: the size is out of range, and no file changed; memory is refused or a file can't be written, with
-- the files before it written and those behind it as they were, before anything was printed; or the output failed. The
-- files, and the paths that couldn't be written, are those before and those after
abbrev pub IsGenerateFault : List ℕ → Size → Option FilesByPath × Option FilesByPath → KnownPaths × KnownPaths → Type 0 → RunFault → Type 0
IsGenerateFault directory size files unwritten unprinted (fault.Writer error) =
    IsSize size × AreFiles files.1 directory tables (generated_texts size)
IsGenerateFault directory size files unwritten unprinted (fault.Refused refusal) =
    (((refusal ≡ refusals.NoMemory) × EndsSomewhere files.0 files.1 directory (generated_texts size))
    ⊎ ((refusal ≡ refusals.OutOfRange) × IsFalse (is_size size.warehouses size.customers size.items) × (files.1 ≡ files.0)))
    × unprinted
IsGenerateFault directory size files unwritten unprinted why =
    IsOfFiles directory (IsUnwrittenAt directory size files unwritten) why × IsSize size × unprinted
