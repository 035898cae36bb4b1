-- Why a script isn't run.
use Rattle.std.proofs.Common.{◌≡◌, ℕ, Bool, List, Option, Result, Ok, Err, IfErr, IsErrAnd, IsTrue, inl, inr, subst, sym}
use Rattle.hy_rows.specs.Tables.{Lists}
use Rattle.hy_files.specs.declared.directory.FileFault.{FileFault}
use Rattle.hy_files.specs.declared.directory.FileFault.TheVariants as files
use Rattle.hy_files.specs.Files.{FilesByPath}
use Rattle.hy_files.specs.Loads.{AreRefused, HaveTexts, IsReadFault}
use Rattle.hy_schema.specs.declared.refusal.LoadFault.{LoadFault}
use Rattle.hy_schema.specs.declared.refusal.Refusal.TheVariants as refusals
use Rattle.hy_script.specs.Ends.{IsScriptFault}
use Rattle.hy_script.specs.declared.script.ScriptFault.{ScriptFault}
use Rattle.hy_script.specs.declared.script.ScriptFault.TheVariants as scripts
use Rattle.hy_program.specs.declared.fault.RunFault.{RunFault}
use Rattle.hy_program.specs.declared.script.Limits.{Limits}
use Rattle.hy_program.specs.Faults.{IsBlamedRightly, IsOfScript}
use Rattle.hy_program.specs.Reading.{HasBoth}
use Rattle.hy_program.specs.Script.{IsScriptFaultOf}

pub if_err : {T E : Type 0} {P Q : E → Type 0} (r : Result T E) → ((error : E) → P error → Q error) → IsErrAnd r P → IfErr r Q
if_err (Ok value) leads is = absurd is
if_err (Err error) leads is = leads error is

-- where the rows of a load are broken the nine files are there
pub broken_nine : (directory : List ℕ) (known : Option FilesByPath) (found : FileFault) (broken : LoadFault)
    → found ≡ files.Refused (refusals.BadLoad broken) → IsReadFault known directory found
    → HaveTexts known directory (AreRefused (refusals.BadLoad broken))
broken_nine directory known found broken is why =
    elim (subst (IsReadFault known directory) is why) [
      | inl memory ↦ absurd (cc)
      | inr texts ↦ texts
    ]

module _ (directory file : List ℕ) (known : Option FilesByPath) where
  pub script_fault : (limits : Limits) (lists : Lists) (script : List ℕ) (old new : Option (List ℕ)) (Unprinted Failed : Type 0)
      → HasBoth directory file known lists script → (found : ScriptFault)
      → IsScriptFault 4_096 lists limits.frames limits.kept script old new Unprinted Failed found
      → (made : RunFault) → IsOfScript found made → IsScriptFaultOf directory file limits known old new Unprinted made
  script_fault limits lists script old new Unprinted Failed has (scripts.Refused refusal) why made is =
      subst (λ (it : RunFault). IsScriptFaultOf directory file limits known old new Unprinted it) (sym is) (
        elim why.0 [
          | inl frame ↦ inr (frame.0, lists, script, has, frame.1)
          | inr memory ↦ inl (inl memory)
        ],
        why.1,
      )
  script_fault limits lists script old new Unprinted Failed has (scripts.BadEvent number) why made is =
      subst (λ (it : RunFault). IsScriptFaultOf directory file limits known old new Unprinted it) (sym is)
      (lists, script, has, why)
  script_fault limits lists script old new Unprinted Failed has (scripts.Output error) why made is =
      subst (λ (it : RunFault). IsScriptFaultOf directory file limits known old new Unprinted it) (sym is)
      (lists, script, has)

-- the output is blamed for a script only where a write to it has failed
pub blamed_rightly : (page_size : ℕ) (lists : Lists) (frames kept : ℕ) (script : List ℕ) (old new : Option (List ℕ))
    (Unprinted : Type 0) (has_failed : Bool) (found : ScriptFault)
    → IsScriptFault page_size lists frames kept script old new Unprinted (IsTrue has_failed) found
    → (made : RunFault) → IsOfScript found made → IsBlamedRightly has_failed made
blamed_rightly page_size lists frames kept script old new Unprinted has_failed (scripts.Refused refusal) why made is =
    subst (IsBlamedRightly has_failed) (sym is) tt
blamed_rightly page_size lists frames kept script old new Unprinted has_failed (scripts.BadEvent number) why made is =
    subst (IsBlamedRightly has_failed) (sym is) tt
blamed_rightly page_size lists frames kept script old new Unprinted has_failed (scripts.Output error) why made is =
    subst (IsBlamedRightly has_failed) (sym is) why
