-- The lines of rows, as far as they were written, and why `check` isn't done.
use Rattle.std.proofs.Common.{◌≡◌, ◌+◌, ◌<◌, ◌∙◌, ◌++◌, ℕ, List, Option, None, Some, Result, Err, IfErr, length, drop, get_or, ap, append_assoc, inr, subst, sym}
use Rattle.std.specs.List.{flat_map}
use Rattle.std.proofs.lemmas.List.{drop_more}
use Rattle.std.specs.declared.io.Error.{Error}
use Rattle.hy_files.specs.declared.directory.FileFault.{FileFault}
use Rattle.hy_files.specs.declared.directory.FileFault.TheVariants as files
use Rattle.hy_files.specs.Files.{FilesByPath}
use Rattle.hy_files.specs.Loads.{IsReadFault}
use Rattle.hy_rows.specs.declared.catalogue.Table.{Table}
use Rattle.hy_rows.specs.Tables.{Lists, Tables}
use Rattle.hy_schema.specs.declared.refusal.Refusal.{Refusal}
use Rattle.hy_program.specs.declared.fault.RunFault.{RunFault}
use Rattle.hy_program.specs.declared.fault.RunFault.TheVariants as fault
use Rattle.hy_program.specs.Check.{HaveRows, IsCheckFault}
use Rattle.hy_program.specs.Faults.{IsAboutFiles}
use Rattle.hy_program.specs.Reading.{HasBoth}
use Rattle.hy_program.specs.Replay.{IsBehind, IsWhyLost, greatest_limits}

-- one line more
pub line_more : {Row : Type 0} (line_of : Row → List ℕ) (rows : List Row) (place : ℕ) (row : Row)
    → (old new added : List ℕ) → place < length rows → get_or rows place row ≡ row → new ≡ old ++ added
    → added ≡ line_of row → old ++ flat_map line_of (drop place rows) ≡ flat_map line_of rows
    → new ++ flat_map line_of (drop (place + 1) rows) ≡ flat_map line_of rows
line_more line_of rows place row old new added within is pushed line whole =
    let next = rw is at (drop_more rows place row within) in
    let rest = flat_map line_of (drop (place + 1) rows) in
    ap (λ text. text ++ rest) (pushed ∙ ap (λ text. old ++ text) line)
    ∙ append_assoc old (line_of row) rest ∙ rw next at whole

-- a fault of the files of the folder is one of `check`
module _ (directory : List ℕ) (known : Option FilesByPath) (Unprinted : Type 0) where
  pub check_fault : (found : FileFault) (made : RunFault) → IsAboutFiles directory found made
      → IsReadFault known directory found → Unprinted → IsCheckFault directory None known Unprinted made
  check_fault (files.Refused refusal) made is why unprinted =
      subst (λ (it : RunFault). IsCheckFault directory None known Unprinted it) (sym is) (why, unprinted)
  check_fault (files.CannotRead table) (fault.CannotRead path) is missing unprinted = (
    (is.0, subst (λ (it : Table). IsReadFault known directory (files.CannotRead it)) (sym is.1) missing),
    unprinted,
  )
  check_fault (files.CannotRead table) (fault.Refused refusal) is missing unprinted = absurd (is)
  check_fault (files.CannotRead table) (fault.CannotWrite path) is missing unprinted = absurd (is)
  check_fault (files.CannotRead table) (fault.CannotReadFile path) is missing unprinted = absurd (is)
  check_fault (files.CannotRead table) (fault.CannotWriteFile path) is missing unprinted = absurd (is)
  check_fault (files.CannotRead table) (fault.BadEvent number) is missing unprinted = absurd (is)
  check_fault (files.CannotRead table) (fault.Serve served) is missing unprinted = absurd (is)
  check_fault (files.CannotRead table) (fault.Writer error) is missing unprinted = absurd (is)
  check_fault (files.CannotWrite table) made is never unprinted = absurd (never)

-- the rows that came of a log
pub have_rows : (directory log : List ℕ) (known : Option FilesByPath) (lists : Lists) (given : List ℕ) (count : ℕ) (rows : Tables)
    → HasBoth directory log known lists given → IsBehind lists given count rows → HaveRows directory log known rows
have_rows directory log known lists given count rows has behind =
    (lists, behind.batches, (given, behind.rest, has, behind.whole), behind.replayed)

-- why there are none, or they aren't printed
module _ (directory log : List ℕ) (known : Option FilesByPath) (Unprinted : Type 0) where
  pub lost_fault : {X : Type 0} (lists : Lists) (given : List ℕ) → HasBoth directory log known lists given → (refusal : Refusal)
      → IsWhyLost greatest_limits lists given refusal → Unprinted → (result : Result X RunFault)
      → result ≡ Err (fault.Refused refusal) → IfErr result (IsCheckFault directory (Some log) known Unprinted)
  lost_fault {X = X} lists given has refusal lost unprinted result is =
      subst (λ (r : Result X RunFault). IfErr r (IsCheckFault directory (Some log) known Unprinted)) (sym is)
      (inr (lists, given, has, lost), unprinted)

  pub unprinted_fault : (rows : Tables) → HaveRows directory log known rows → (error : Error) → (made : RunFault)
      → made ≡ fault.Writer error → IsCheckFault directory (Some log) known Unprinted made
  unprinted_fault rows have error made is =
      subst (λ (it : RunFault). IsCheckFault directory (Some log) known Unprinted it) (sym is) (rows, have)

-- where less is said of what wasn't printed, less holds
module _ (directory : List ℕ) (known : Option FilesByPath) (Unprinted Other : Type 0) (leads : Unprinted → Other) where
  pub check_weaker : (log : Option (List ℕ)) (why : RunFault) → IsCheckFault directory log known Unprinted why
      → IsCheckFault directory log known Other why
  check_weaker None (fault.Refused refusal) is = (is.0, leads is.1)
  check_weaker None (fault.Writer error) is = is
  check_weaker None (fault.CannotRead path) is = (is.0, leads is.1)
  check_weaker None (fault.CannotWrite path) is = (is.0, leads is.1)
  check_weaker None (fault.CannotReadFile path) is = absurd (is.0)
  check_weaker None (fault.CannotWriteFile path) is = absurd (is.0)
  check_weaker None (fault.BadEvent number) is = absurd (is.0)
  check_weaker None (fault.Serve served) is = absurd (is.0)
  check_weaker (Some log) (fault.Refused refusal) is = (is.0, leads is.1)
  check_weaker (Some log) (fault.Writer error) is = is
  check_weaker (Some log) (fault.CannotRead path) is = (is.0, leads is.1)
  check_weaker (Some log) (fault.CannotWrite path) is = absurd (is.0)
  check_weaker (Some log) (fault.CannotReadFile path) is = (is.0, leads is.1)
  check_weaker (Some log) (fault.CannotWriteFile path) is = absurd (is.0)
  check_weaker (Some log) (fault.BadEvent number) is = absurd (is.0)
  check_weaker (Some log) (fault.Serve served) is = absurd (is.0)
