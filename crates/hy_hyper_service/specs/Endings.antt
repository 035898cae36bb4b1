-- Why a service ends before its input does.
use Rattle.std.specs.Prelude.{◌≡◌, ℕ, List, IsTrue, Bool, Option}
use Rattle.std.specs.declared.io.Error.{Error}
use Rattle.hy_rows.specs.Tables.{Lists}
use Rattle.hy_schema.specs.declared.refusal.Refusal.TheVariants as refusals
use Rattle.hy_redo.specs.Calls.{LogState}
use Rattle.hy_script.specs.Databases.{DatabaseState}
use Rattle.hy_hyper_input.specs.Inputs.{FailsToFill, InputState}
use Rattle.hy_hyper_input.specs.Received.{Hears, Said}
use Rattle.hy_hyper_answers.specs.declared.answers.Style.{Style}
use Rattle.hy_hyper_answers.specs.Served.{Serves}
use Rattle.hy_hyper_service.specs.declared.lines.RoundEnd.{RoundEnd}
use Rattle.hy_hyper_service.specs.declared.service.ServiceFault.{ServiceFault}
use Rattle.hy_hyper_service.specs.declared.service.ServiceFault.TheVariants as faults
use Rattle.hy_hyper_service.specs.Keeping.{IsWhyUnkept, KeepsCommits, LoggedState}
use Rattle.hy_hyper_service.specs.Rounds.{AreRounds, OfLines, RoundState, ServiceState, logged, said_in}

-- what a round did before its batch: the lines that were there were answered, and this is the database behind them
pub record DoesLines (page_size : ℕ) (style : Style) (database done : DatabaseState) (before after : InputState)
    : Type 0 where
  pub said : List Said
  pub text : List ℕ
  pub end : RoundEnd
  pub of_lines : OfLines before after said text end
  pub serves : Serves page_size style said database done text

-- Memory was refused, for an answer or for the batch, and nothing was written; or the log has failed, behind some bytes of the
-- batch of what the lines committed, or all of them; in both nothing was printed. Or the output has failed, behind that batch,
-- acknowledged. The inputs are those before and behind the round.
pub data EndsParts (page_size : ℕ) (lists : Lists) (style : Style) (database : DatabaseState)
    (inputs : InputState × InputState) (old new : LoggedState) (unprinted : Type 0) (has_failed : Bool)
    (why : ServiceFault) : Type 0 where
  no_memory : why ≡ faults.Refused refusals.NoMemory → new ≡ old → unprinted
      → EndsParts page_size lists style database inputs old new unprinted has_failed why
  log_failed : why ≡ faults.Refused refusals.LogFailed → (done told : DatabaseState)
      → DoesLines page_size style database done inputs.0 inputs.1
      → IsWhyUnkept lists old new done told refusals.LogFailed → unprinted
      → EndsParts page_size lists style database inputs old new unprinted has_failed why
  output_failed : (error : Error) → why ≡ faults.Output error → IsTrue has_failed → (done told : DatabaseState)
      → DoesLines page_size style database done inputs.0 inputs.1 → KeepsCommits lists old new done told
      → EndsParts page_size lists style database inputs old new unprinted has_failed why

-- a round ended a service: its log, the bytes that its output has, whether that has failed, and why
abbrev pub EndsRound : ℕ → Lists → ServiceState → InputState → InputState → LogState → Option (List ℕ) → Bool → ServiceFault
    → Type 0
EndsRound page_size lists service before after log out has_failed why = (new : LoggedState) × (new.log ≡ log)
    × EndsParts page_size lists service.style service.database (before, after) (logged service) new (out ≡ service.out)
    has_failed why

-- Rounds went well, in which the lines that had come were served. Then the next one ended the service; or no line was left to its
-- end, and the input couldn't be read: then the log and the output are as those rounds left them.
pub data EndsLife (page_size : ℕ) (lists : Lists) (first : ServiceState) (before after : InputState) (log : LogState)
    (out : Option (List ℕ)) (has_failed : Bool) (why : ServiceFault) : Type 0 where
  by_round : (rounds : List RoundState) → (last : ServiceState) → AreRounds page_size lists first rounds last
      → (middle : InputState) → Hears before middle (said_in rounds)
      → EndsRound page_size lists last middle after log out has_failed why
      → EndsLife page_size lists first before after log out has_failed why
  unread : (rounds : List RoundState) → (last : ServiceState) → AreRounds page_size lists first rounds last
      → Hears before after (said_in rounds) → (error : Error) → why ≡ faults.Input error → (middle : InputState)
      → FailsToFill middle after → log ≡ last.log → out ≡ last.out
      → EndsLife page_size lists first before after log out has_failed why
