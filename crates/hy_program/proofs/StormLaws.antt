-- What `storm` has done, and why it isn't done.
use Rattle.std.proofs.Common.{◌≡◌, ◌∙◌, ℕ, List, Option, None, Some, Result, Ok, Err, IfErr, IfOk, ap, inl, inr, subst, sym}
use Rattle.std.specs.Io.KnownBytes.{Appends}
use Rattle.hy_rows.specs.Tables.{Lists}
use Rattle.hy_files.specs.declared.directory.FileFault.{FileFault}
use Rattle.hy_files.specs.declared.directory.FileFault.TheVariants as files
use Rattle.hy_files.specs.Files.{FilesByPath, HasFile, KnownPaths}
use Rattle.hy_files.specs.Loads.{IsReadFault}
use Rattle.hy_rows.specs.declared.catalogue.Table.{Table}
use Rattle.hy_redo.specs.Calls.{LogState}
use Rattle.hy_redo.specs.Writers.{Told}
use Rattle.hy_storm.specs.declared.ending.Figures.{Figures}
use Rattle.hy_storm.specs.Storms.{AreLogged}
use Rattle.hy_program.specs.declared.fault.RunFault.{RunFault}
use Rattle.hy_program.specs.declared.fault.RunFault.TheVariants as fault
use Rattle.hy_program.specs.Faults.{IsAboutFiles}
use Rattle.hy_program.specs.Reading.{HasLoad}
use Rattle.hy_program.specs.Storm.{IsNoStorm, IsStormDone, IsStormFault, IsStormKept, storm_text}

module _ (directory : List ℕ) (log : Option (List ℕ)) (known : Option FilesByPath) (unwritten : KnownPaths × KnownPaths)
    (old new : Option (List ℕ)) (Unprinted : Type 0) where
  -- a fault of the files of the folder
  pub storm_fault : (found : FileFault) (made : RunFault) → IsAboutFiles directory found made
      → IsReadFault known directory found → Unprinted → IsStormFault directory log known unwritten old new Unprinted made
  storm_fault (files.Refused refusal) made is why unprinted =
      subst (λ (it : RunFault). IsStormFault directory log known unwritten old new Unprinted it) (sym is) (inl (why, unprinted))
  storm_fault (files.CannotRead table) (fault.CannotRead path) is missing unprinted = (
    (is.0, subst (λ (it : Table). IsReadFault known directory (files.CannotRead it)) (sym is.1) missing),
    unprinted,
  )
  storm_fault (files.CannotRead table) (fault.Refused refusal) is missing unprinted = absurd (is)
  storm_fault (files.CannotRead table) (fault.CannotWrite path) is missing unprinted = absurd (is)
  storm_fault (files.CannotRead table) (fault.CannotReadFile path) is missing unprinted = absurd (is)
  storm_fault (files.CannotRead table) (fault.CannotWriteFile path) is missing unprinted = absurd (is)
  storm_fault (files.CannotRead table) (fault.BadEvent number) is missing unprinted = absurd (is)
  storm_fault (files.CannotRead table) (fault.Serve served) is missing unprinted = absurd (is)
  storm_fault (files.CannotRead table) (fault.Writer error) is missing unprinted = absurd (is)
  storm_fault (files.CannotWrite table) made is never unprinted = absurd (never)

  -- a load on which there was no storm
  pub no_storm : (lists : Lists) → HasLoad known directory lists → (why : RunFault) → IsNoStorm log unwritten why → Unprinted
      → IsStormFault directory log known unwritten old new Unprinted why
  no_storm lists load (fault.Refused refusal) none unprinted = inr (lists, load, inl unprinted)
  no_storm lists load (fault.CannotWriteFile path) none unprinted = ((lists, load), none.0, none.1, unprinted)
  no_storm lists load (fault.CannotRead path) none unprinted = absurd (none)
  no_storm lists load (fault.CannotReadFile path) none unprinted = absurd (none)
  no_storm lists load (fault.CannotWrite path) none unprinted = absurd (none)
  no_storm lists load (fault.BadEvent number) none unprinted = absurd (none)
  no_storm lists load (fault.Serve served) none unprinted = absurd (none)
  no_storm lists load (fault.Writer error) none unprinted = absurd (none)

  -- a refusal behind a `?`
  pub refused_by : {X : Type 0} (result : Result X RunFault) (made : RunFault)
      → IsStormFault directory log known unwritten old new Unprinted made → result ≡ Err made
      → IfErr result (IsStormFault directory log known unwritten old new Unprinted)
  refused_by {X = X} result made is_fault is =
      subst (λ (r : Result X RunFault). IfErr r (IsStormFault directory log known unwritten old new Unprinted)) (sym is) is_fault

-- there is no log
pub unlogged : {X : Type 0} (log : Option (List ℕ)) (unwritten : KnownPaths × KnownPaths) (result : Result X RunFault)
    → IfErr result (λ why. (any : KnownPaths × KnownPaths) → IsNoStorm None any why) → log ≡ None
    → IfErr result (IsNoStorm log unwritten)
unlogged log unwritten (Ok done) none is = tt
unlogged log unwritten (Err why) none is = subst (λ (it : Option (List ℕ)). IsNoStorm it unwritten why) (sym is) (none unwritten)

-- ---- what a storm has kept

-- the file of a log that came back
pub stored : (lists : Lists) (figures : Figures) (log : LogState) (told : Told) (files : Option FilesByPath) (path : List ℕ)
    → AreLogged lists figures (Some log) → told ≡ log.told → HasFile files path told.written
    → IsStormKept lists (Some path) files figures
stored lists figures log told files path logged is has = (
  logged.0,
  logged.1,
  λ nothing.
      let all = logged.2 nothing in (
        all.0,
        all.1,
        subst (λ (bytes : List ℕ). HasFile files path bytes) (ap (λ (it : Told). it.written) is ∙ all.2.written) has,
      ),
)

-- where no log is named, its file may be any
pub kept-unlogged : (lists : Lists) (log : Option (List ℕ)) (files : Option FilesByPath) (result : Result Figures RunFault)
    → IfOk result (IsStormKept lists None None) → log ≡ None → IfOk result (IsStormKept lists log files)
kept-unlogged lists log files (Ok figures) kept is =
    subst (λ (it : Option (List ℕ)). IsStormKept lists it files figures) (sym is) (kept.0, kept.1, λ nothing. tt)
kept-unlogged lists log files (Err why) kept is = tt

-- a storm that was printed, with no refusal
pub storm-done : (directory : List ℕ) (log : Option (List ℕ)) (before after : Option FilesByPath) (old new : Option (List ℕ))
    (lists : Lists) (figures : Figures) → HasLoad before directory lists → IsStormKept lists log after figures
    → figures.refusal ≡ None → Appends old new (storm_text figures) → IsStormDone directory log before after old new
storm-done directory log before after old new lists figures load kept nothing printed = record {
  lists = lists;
  load = load;
  figures = figures;
  serial = kept.0;
  are = kept.1;
  refusal = nothing;
  file = kept.2 nothing;
  printed = printed;
}
