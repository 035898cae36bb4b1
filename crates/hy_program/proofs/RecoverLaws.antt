-- What `recover` finds, and why it isn't done.
use Rattle.std.proofs.Common.{◌≡◌, ℕ, List, Option, None, Some, Result, Ok, Err, IfErr, OnOk, inl, inr, refl, subst, sym}
use Rattle.std.specs.declared.io.Error.{Error}
use Rattle.hy_rows.specs.Tables.{Lists, Tables}
use Rattle.hy_schema.specs.declared.refusal.Refusal.{Refusal}
use Rattle.hy_rows.specs.declared.catalogue.Table.{Table}
use Rattle.hy_tables.specs.Files.{texts_of}
use Rattle.hy_files.specs.declared.directory.FileFault.{FileFault}
use Rattle.hy_files.specs.declared.directory.FileFault.TheVariants as faults
use Rattle.hy_files.specs.Directory.{KeepsOtherFiles, tables}
use Rattle.hy_files.specs.Faults.{IsOfSystem, IsUnwritten}
use Rattle.hy_files.specs.Files.{FilesByPath, KnownPaths}
use Rattle.hy_program.specs.declared.fault.RunFault.{RunFault}
use Rattle.hy_program.specs.declared.fault.RunFault.TheVariants as fault
use Rattle.hy_program.specs.Faults.{IsAboutFiles}
use Rattle.hy_program.specs.Reading.{HasBoth, IsReadAllFault}
use Rattle.hy_program.specs.Recover.{IsFound, IsRecoverDone, IsRecoverFault, IsSaveFault, IsSaved, IsUnsaved, IsUnwrittenIn, KeepsFolder, recover_limits, with_rows}
use Rattle.hy_program.specs.Replay.{IsWhyLost}

module _ (directory log : List ℕ) (files : Option FilesByPath × Option FilesByPath) (unwritten : KnownPaths × KnownPaths)
    (bytes : Option (List ℕ) × Option (List ℕ)) (Unprinted : Type 0) where
  -- the files can't be read
  pub read_fault : (into : Option (List ℕ)) (why : RunFault) → IsReadAllFault directory log files.0 why → files.1 ≡ files.0
      → Unprinted → IsRecoverFault directory log into files unwritten bytes Unprinted why
  read_fault into (fault.Refused refusal) is same unprinted = inl (inl is, same, unprinted)
  read_fault into (fault.CannotRead path) is same unprinted = (is, same, unprinted)
  read_fault into (fault.CannotReadFile path) is same unprinted = (is, same, unprinted)
  read_fault into (fault.CannotWrite path) is same unprinted = absurd (is)
  read_fault into (fault.CannotWriteFile path) is same unprinted = absurd (is)
  read_fault into (fault.BadEvent number) is same unprinted = absurd (is)
  read_fault into (fault.Serve served) is same unprinted = absurd (is)
  read_fault into (fault.Writer error) is same unprinted = absurd (is)

  unsaved : (named : List ℕ) (lists : Lists) (rows : Tables) → IsFound directory log files.0 bytes.0 bytes.1 lists rows
      → (why : RunFault) → IsUnsaved named (with_rows lists rows) files unwritten why
      → IsRecoverFault directory log (Some named) files unwritten bytes Unprinted why
  unsaved named lists rows found (fault.Refused refusal) is = inr (lists, rows, found, is)
  unsaved named lists rows found (fault.CannotWrite path) is = (lists, rows, found, is)
  unsaved named lists rows found (fault.CannotRead path) (inl is) = let bad = is.1 in absurd (cc)
  unsaved named lists rows found (fault.CannotRead path) (inr is) = absurd (is.1.0)
  unsaved named lists rows found (fault.CannotReadFile path) (inl is) = let bad = is.1 in absurd (cc)
  unsaved named lists rows found (fault.CannotReadFile path) (inr is) = absurd (is)
  unsaved named lists rows found (fault.CannotWriteFile path) (inl is) = let bad = is.1 in absurd (cc)
  unsaved named lists rows found (fault.CannotWriteFile path) (inr is) = absurd (is)
  unsaved named lists rows found (fault.BadEvent number) (inl is) = let bad = is.1 in absurd (cc)
  unsaved named lists rows found (fault.Serve served) (inl is) = let bad = is.1 in absurd (cc)
  unsaved named lists rows found (fault.BadEvent number) (inr is) = absurd (is)
  unsaved named lists rows found (fault.Serve served) (inr is) = absurd (is)
  unsaved named lists rows found (fault.Writer error) (inl is) = let bad = is.1 in absurd (cc)
  unsaved named lists rows found (fault.Writer error) (inr is) = absurd (is)

  -- nothing is recovered
  pub lost_fault : {X : Type 0} (into : Option (List ℕ)) (lists : Lists) (given : List ℕ)
      → HasBoth directory log files.0 lists given → (refusal : Refusal) → IsWhyLost recover_limits lists given refusal → files.1 ≡ files.0
      → Unprinted → (result : Result X RunFault) → result ≡ Err (fault.Refused refusal)
      → IfErr result (IsRecoverFault directory log into files unwritten bytes Unprinted)
  lost_fault {X = X} into lists given has refusal lost same unprinted result is =
      subst (λ (r : Result X RunFault). IfErr r (IsRecoverFault directory log into files unwritten bytes Unprinted)) (sym is)
      (inl (inr (lists, given, has, lost), same, unprinted))

  -- the output failed
  pub writer_fault : {X : Type 0} (into : Option (List ℕ)) (lists : Lists) (given : List ℕ)
      → HasBoth directory log files.0 lists given → files.1 ≡ files.0 → (error : Error) → (result : Result X RunFault)
      → result ≡ Err (fault.Writer error) → IfErr result (IsRecoverFault directory log into files unwritten bytes Unprinted)
  writer_fault {X = X} into lists given has same error result is =
      subst (λ (r : Result X RunFault). IfErr r (IsRecoverFault directory log into files unwritten bytes Unprinted)) (sym is)
      ((lists, given, has), same)

  -- what was found can't be saved
  pub save_fault : (into : Option (List ℕ)) (lists : Lists) (rows : Tables)
      → IsFound directory log files.0 bytes.0 bytes.1 lists rows → (why : RunFault)
      → IsSaveFault into (with_rows lists rows) files unwritten why
      → IsRecoverFault directory log into files unwritten bytes Unprinted why
  save_fault None lists rows found why is = absurd (is)
  save_fault (Some named) lists rows found why is = unsaved named lists rows found why is

  pub save_fault_by : {X : Type 0} (into : Option (List ℕ)) (lists : Lists) (rows : Tables)
      → IsFound directory log files.0 bytes.0 bytes.1 lists rows → (result : Result X RunFault)
      → IfErr result (IsSaveFault into (with_rows lists rows) files unwritten)
      → IfErr result (IsRecoverFault directory log into files unwritten bytes Unprinted)
  save_fault_by into lists rows found (Ok done) is = tt
  save_fault_by into lists rows found (Err why) is = save_fault into lists rows found why is

-- what was found was saved, by files that reading had left as they were
pub done_by : {X E : Type 0} (directory log : List ℕ) (into : Option (List ℕ)) (old read new : Option FilesByPath)
    (bytes : Option (List ℕ) × Option (List ℕ)) (lists : Lists) (rows : Tables)
    → IsFound directory log old bytes.0 bytes.1 lists rows → read ≡ old → (result : Result X E)
    → OnOk result (IsSaved into (with_rows lists rows) (read, new)) → OnOk result (IsRecoverDone directory log into (old, new) bytes)
done_by directory log into old read new bytes lists rows found same (Ok done) saved =
    (lists, rows, found, subst (λ (it : Option FilesByPath). IsSaved into (with_rows lists rows) (it, new)) same saved)
done_by directory log into old read new bytes lists rows found same (Err why) saved = tt

-- files that stay as they were
kept-others : (known : Option FilesByPath) (directory : List ℕ) (written : List Table) → KeepsOtherFiles known known directory written
kept-others None directory written = tt
kept-others (Some files) directory written = λ other differs. refl

pub keeps_folder : (into : Option (List ℕ)) (old new : Option FilesByPath) → new ≡ old → KeepsFolder into (old, new)
keeps_folder None old new same = same
keeps_folder (Some directory) old new same =
    subst (λ (it : Option FilesByPath). KeepsOtherFiles old it directory tables) (sym same) (kept-others old directory tables)

-- a folder's files can't be written
module _ (directory : List ℕ) (lists : Lists) (files : Option FilesByPath × Option FilesByPath) (unwritten : KnownPaths × KnownPaths) where
  pub unsaved_files : (found : FileFault) (made : RunFault) → IsAboutFiles directory found made
      → IsUnwritten files.0 files.1 directory (texts_of lists) found → IsOfSystem unwritten.0 unwritten.1 directory found
      → IsUnsaved directory lists files unwritten made
  unsaved_files (faults.Refused refusal) made is ends said =
      subst (λ (it : RunFault). IsUnsaved directory lists files unwritten it) (sym is) (inr (ends, said))
  unsaved_files (faults.CannotWrite table) (fault.CannotWrite path) is ends said =
      inr (is.0, subst (λ (it : Table). IsUnwrittenIn directory lists files unwritten (faults.CannotWrite it)) (sym is.1) (ends, said))
  unsaved_files (faults.CannotWrite table) (fault.Refused refusal) is ends said = absurd (is)
  unsaved_files (faults.CannotWrite table) (fault.CannotRead path) is ends said = absurd (is)
  unsaved_files (faults.CannotWrite table) (fault.CannotReadFile path) is ends said = absurd (is)
  unsaved_files (faults.CannotWrite table) (fault.CannotWriteFile path) is ends said = absurd (is)
  unsaved_files (faults.CannotWrite table) (fault.BadEvent number) is ends said = absurd (is)
  unsaved_files (faults.CannotWrite table) (fault.Serve served) is ends said = absurd (is)
  unsaved_files (faults.CannotWrite table) (fault.Writer error) is ends said = absurd (is)
  unsaved_files (faults.CannotRead table) made is ends said = absurd (ends)
