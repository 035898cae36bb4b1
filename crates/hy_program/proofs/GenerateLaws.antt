-- Why `gen` isn't done.
use Rattle.std.proofs.Common.{rules, ◌≡◌, ℕ, List, Option, Bool, true, false, Ok, refl, inl, subst, sym}
use Rattle.std.specs.Result.{IsErrOf}
use Rattle.hy_files.specs.declared.directory.FileFault.{FileFault}
use Rattle.hy_files.specs.declared.directory.FileFault.TheVariants as files
use Rattle.hy_rows.specs.declared.catalogue.Table.{Table}
use Rattle.hy_files.specs.Faults.{IsOfSystem, IsUnwritten}
use Rattle.hy_files.specs.Files.{FilesByPath, KnownPaths}
use Rattle.hy_program.specs.declared.fault.RunFault.{RunFault}
use Rattle.hy_program.specs.declared.fault.RunFault.TheVariants as fault
use Rattle.hy_program.specs.declared.generate.Size.{Size}
use Rattle.hy_program.specs.Faults.{IsAboutFiles}
use Rattle.hy_program.specs.Generate.{IsGenerateFault, IsSize, IsUnwrittenAt, generated_texts}

pub true_unless_false : (test : Bool) → (test ≡ false → ⊥) → test ≡ true
true_unless_false true holds = refl
true_unless_false false holds = absurd (holds refl)

-- what is given is no error
pub ok_is_no_err : {T E : Type 0} (value : T) (error : E) → IsErrOf (Ok value) error → ⊥
ok_is_no_err value error is = absurd (search (rules, is))

module _ (directory : List ℕ) (size : Size) (old new : Option FilesByPath) (unwritten : KnownPaths × KnownPaths)
    (Unprinted : Type 0) where
  -- a fault of the files of the folder is one of `gen`
  pub generate_fault : (found : FileFault) (made : RunFault) → IsAboutFiles directory found made
      → IsUnwritten old new directory (generated_texts size) found → IsOfSystem unwritten.0 unwritten.1 directory found
      → IsSize size → Unprinted → IsGenerateFault directory size (old, new) unwritten Unprinted made
  generate_fault (files.Refused refusal) made is memory said sized unprinted =
      subst (λ (it : RunFault). IsGenerateFault directory size (old, new) unwritten Unprinted it) (sym is)
      (inl memory, unprinted)
  generate_fault (files.CannotWrite table) (fault.CannotWrite path) is ends said sized unprinted = (
    (is.0, subst (λ (it : Table). IsUnwrittenAt directory size (old, new) unwritten (files.CannotWrite it)) (sym is.1) (ends, said)),
    sized,
    unprinted,
  )
  generate_fault (files.CannotWrite table) (fault.Refused refusal) is ends said sized unprinted = absurd (is)
  generate_fault (files.CannotWrite table) (fault.CannotRead path) is ends said sized unprinted = absurd (is)
  generate_fault (files.CannotWrite table) (fault.CannotReadFile path) is ends said sized unprinted = absurd (is)
  generate_fault (files.CannotWrite table) (fault.CannotWriteFile path) is ends said sized unprinted = absurd (is)
  generate_fault (files.CannotWrite table) (fault.BadEvent number) is ends said sized unprinted = absurd (is)
  generate_fault (files.CannotWrite table) (fault.Serve served) is ends said sized unprinted = absurd (is)
  generate_fault (files.CannotWrite table) (fault.Writer error) is ends said sized unprinted = absurd (is)
  generate_fault (files.CannotRead table) made is ends said sized unprinted = absurd (ends)
