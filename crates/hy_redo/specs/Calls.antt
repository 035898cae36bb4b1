-- What a call of the log does, and runs of calls.
use Rattle.std.specs.Prelude.{◌≡◌, ℕ, ◌+◌, Bool, true, false, List, [], ◌∷◌, map, Result, Ok, Err}
use Rattle.hy_schema.specs.declared.refusal.Refusal.{Refusal}
use Rattle.hy_schema.specs.declared.refusal.Refusal.TheVariants as refusals
use Rattle.hy_batches.specs.Batches.{Batch}
use Rattle.hy_batches.specs.Encoding.{batch_bytes}
use Rattle.hy_redo.specs.Writers.{IsFront, Told, failed_behind, with_more, with_sync}

-- a log: what its writer tells, and whether that has failed it
pub record LogState : Type 0 where
  pub told : Told
  pub has_failed : Bool

-- a call is refused: the writer failed behind some of the bytes, or behind all of them
pub record IsCutShort (old new : LogState) (bytes : List ℕ) (refusal : Refusal) : Type 0 where
  pub refused : refusal ≡ refusals.LogFailed
  pub front : List ℕ
  pub begins : IsFront front bytes
  pub changed : new ≡ record { told = failed_behind old.told front; has_failed = true }

-- whether the log had failed before the call decides: then it is refused and nothing changes. Else all bytes of the batch
-- are written and synced, or some of them are written and the log has failed
abbrev pub AnswersBy : Bool → LogState → LogState → Batch → Result (Unit {0}) Refusal → Type 0
AnswersBy true old new batch (Ok done) = ⊥
AnswersBy true old new batch (Err refusal) = (refusal ≡ refusals.LogFailed) × (new ≡ old)
AnswersBy false old new batch (Ok done) =
    new ≡ record { told = with_sync (with_more old.told (batch_bytes batch)); has_failed = false }
AnswersBy false old new batch (Err refusal) = IsCutShort old new (batch_bytes batch) refusal

abbrev pub Answers : LogState → LogState → Batch → Result (Unit {0}) Refusal → Type 0
Answers old new batch answer = AnswersBy old.has_failed old new batch answer

-- ---- runs of calls

-- a call: the batch that the log was handed, what it answered, and the log behind it
pub record Call : Type 0 where
  pub batch : Batch
  pub answer : Result (Unit {0}) Refusal
  pub log : LogState

-- calls one behind another, from a log on
abbrev pub AreCalls : LogState → List Call → Type 0
AreCalls log [] = Unit {0}
AreCalls log (call ∷ calls) = Answers log call.log call.batch call.answer × AreCalls call.log calls

-- the log behind them
abbrev pub log_behind : LogState → List Call → LogState
log_behind log [] = log
log_behind log (call ∷ calls) = log_behind call.log calls

-- the batches that it was handed
abbrev pub handed : List Call → List Batch
handed calls = map (λ (call : Call). call.batch) calls

-- 1 for an answer that acknowledges its batch
abbrev pub once : Result (Unit {0}) Refusal → ℕ
once (Ok done) = 1
once (Err refusal) = 0

-- how many batches were acknowledged
abbrev pub acknowledged : List Call → ℕ
acknowledged [] = 0
acknowledged (call ∷ calls) = once call.answer + acknowledged calls
