-- A round over the parts of a service is one of the service.
use Rattle.std.proofs.Common.{◌≡◌, ◌++◌, ℕ, List, [], Option, Bool, subst}
use Rattle.hy_rows.specs.Tables.{Lists}
use Rattle.hy_script.specs.Databases.{DatabaseState}
use Rattle.hy_hyper_input.specs.Inputs.{InputState}
use Rattle.hy_hyper_answers.specs.declared.answers.Style.{Style}
use Rattle.hy_hyper_answers.specs.Served.{HeldAnswers}
use Rattle.hy_hyper_service.specs.declared.lines.RoundEnd.{RoundEnd}
use Rattle.hy_hyper_service.specs.declared.service.ServiceFault.{ServiceFault}
use Rattle.hy_hyper_service.specs.Endings.{DoesLines, EndsParts}
use Rattle.hy_hyper_service.specs.Endings.EndsParts.{log_failed, no_memory, output_failed}
use Rattle.hy_hyper_service.specs.Keeping.{KeepsCommits, LoggedState}
use Rattle.hy_hyper_service.specs.Rounds.{AnswersLines, OfLines, RunsParts, RunsRound}

pub round-of : (page_size : ℕ) (lists : Lists) (database next : DatabaseState) (log later : LoggedState)
    (held holds : HeldAnswers) (out printed : Option (List ℕ)) (before after : InputState) (end : RoundEnd)
    → log.seen ≡ database.log → later.seen ≡ next.log
    → RunsParts page_size lists (database, next) (log, later) (held, holds) (out, printed) before after end
    → RunsRound page_size lists (record { database = database; log = log.log; style = held.style; out = out })
    (record { database = next; log = later.log; style = holds.style; out = printed }) before after end
round-of page_size lists database next log later held holds out printed before after end is will runs = record {
  said = runs.said;
  text = runs.text;
  of_lines = runs.of_lines;
  round = record {
    done = runs.done;
    serves = runs.serves;
    keeps = subst (λ seen. KeepsCommits lists (record { log = log.log; seen = seen })
        (record { log = later.log; seen = next.log }) runs.done next) is
        (subst (λ seen. KeepsCommits lists log (record { log = later.log; seen = seen }) runs.done next) will runs.keeps);
    printed = runs.printed;
    style = runs.style;
  };
}

-- what nothing printed says may be said by other words
pub ends-by : (page_size : ℕ) (lists : Lists) (style : Style) (database : DatabaseState) (inputs : InputState × InputState)
    (old new : LoggedState) (unprinted other : Type 0) (has_failed : Bool) (why : ServiceFault) → (unprinted → other)
    → EndsParts page_size lists style database inputs old new unprinted has_failed why
    → EndsParts page_size lists style database inputs old new other has_failed why
ends-by page_size lists style database inputs old new unprinted other has_failed why then (no_memory is same none) =
    no_memory is same (then none)
ends-by page_size lists style database inputs old new unprinted other has_failed why then (log_failed is done told does unkept none) =
    log_failed is done told does unkept (then none)
ends-by page_size lists style database inputs old new unprinted other has_failed why then (output_failed error is failed done told does kept) =
    output_failed error is failed done told does kept

-- lines that are answered where no answer was held before
pub lines-done : (page_size : ℕ) (before done : DatabaseState) (held holds : HeldAnswers) (old new : InputState)
    (end : RoundEnd) → held.text ≡ [] → AnswersLines page_size before done held holds old new end
    → DoesLines page_size held.style before done old new
lines-done page_size before done held holds old new end none answers = record {
  said = answers.said;
  text = answers.text;
  end = end;
  of_lines = subst (λ (text : List ℕ). OfLines old new answers.said (text ++ answers.text) end) none answers.of_lines;
  serves = answers.serves;
}
