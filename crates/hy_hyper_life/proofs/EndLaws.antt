-- How a life ends.
use Rattle.std.proofs.Common.{◌≡◌, ℕ, List, Bool, IsTrue, Option, inl, inr, subst, sym}
use Rattle.std.specs.Prelude.{⊤, MatchOption}
use Rattle.std.specs.declared.io.Error.{Error}
use Rattle.hy_rows.specs.Tables.{Lists}
use Rattle.hy_batches.specs.Batches.{Batch}
use Rattle.hy_files.specs.Files.{FilesByPath, HasFile, KnownPaths}
use Rattle.hy_redo.specs.Calls.{LogState}
use Rattle.hy_script.specs.Databases.{DatabaseState}
use Rattle.hy_hyper_answers.specs.declared.answers.Style.{Style}
use Rattle.hy_hyper_input.specs.Inputs.{InputState, fresh}
use Rattle.hy_hyper_service.specs.declared.service.ServiceFault.{ServiceFault}
use Rattle.hy_hyper_service.specs.declared.service.ServiceFault.TheVariants as services
use Rattle.hy_hyper_service.specs.Endings.{EndsLife, EndsParts}
use Rattle.hy_hyper_service.specs.Endings.EndsLife.{by_round, unread as unread_input}
use Rattle.hy_hyper_service.specs.Endings.EndsParts.{log_failed, no_memory, output_failed}
use Rattle.hy_hyper_service.specs.Keeping.{LoggedState}
use Rattle.hy_hyper_service.specs.Rounds.{ServiceState, logged}
use Rattle.hy_hyper_life.specs.declared.fault.LifeFault.{LifeFault}
use Rattle.hy_hyper_life.specs.declared.fault.LifeFault.TheVariants as faults
use Rattle.hy_hyper_life.specs.declared.serving.Terms.{Terms}
use Rattle.hy_hyper_life.specs.Faults.{IsAbout, IsBlamed, IsEndFault, IsHoldFault, IsReadFault, IsSumsFault, IsWriteFault}
use Rattle.hy_hyper_life.specs.Lives.{IsCutOff, IsLived}
use Rattle.hy_hyper_life.specs.Lives.IsCutOff.{at_begin, at_end, under_way}
use Rattle.hy_hyper_life.specs.Reading.{sums_path}
use Rattle.hy_hyper_life.specs.Served.{EndsBadly, IsServeFault, IsUnserved, IsUnservedFrom}
use Rattle.hy_hyper_life.specs.Served.EndsBadly.{cut_off, unended}
use Rattle.hy_hyper_life.specs.Served.IsUnservedFrom.{ended as badly, unbegun, unopened}
use Rattle.hy_hyper_life.specs.Served.IsUnserved.{behind, malformed, unread, unsure}
use Rattle.hy_hyper_life.specs.Served.IsServeFault.{unheld, unserved, untouched}

-- what came of a life, and of the end of its log
pub ends-badly : (lists : Lists) (start : ServiceState) (path : List ℕ) (files : Option FilesByPath)
    (unwritten : KnownPaths × KnownPaths) (inputs : InputState × InputState) (out : Option (List ℕ)) (has_failed : Bool)
    (log : LogState) (over : Option ServiceFault) (why : LifeFault)
    → MatchOption over (IsLived 4_096 lists start inputs.0 inputs.1 log out)
    (IsCutOff 4_096 lists start inputs.0 inputs.1 log out has_failed)
    → IsEndFault over (HasFile files path log.told.written) unwritten path why
    → EndsBadly lists start path files unwritten inputs out has_failed why
ends-badly lists start path files unwritten inputs out has_failed log over why went (inl fault) =
    cut_off log fault.0
    (subst (λ (over : Option ServiceFault). MatchOption over (IsLived 4_096 lists start inputs.0 inputs.1 log out)
    (IsCutOff 4_096 lists start inputs.0 inputs.1 log out has_failed)) fault.1 went) fault.2 fault.3
ends-badly lists start path files unwritten inputs out has_failed log over why went (inr fault) =
    unended log over went fault
