-- What the disk may have when the power goes, and how it reads.
use Rattle.std.specs.Prelude.{◌≡◌, ℕ, ◌+◌, ◌<◌, ◌≤◌, ◌⊎◌, false, IsTrue, List, [], ◌∷◌, ◌++◌, length, take, Result, Ok, Err}
use Rattle.hy_schema.specs.declared.refusal.Refusal.{Refusal}
use Rattle.hy_schema.specs.declared.refusal.Refusal.TheVariants as refusals
use Rattle.hy_batches.specs.Batches.{Batch}
use Rattle.hy_batches.specs.Encoding.{log_bytes}
use Rattle.hy_batches.specs.Grammar.{are_batches}
use Rattle.hy_batches.specs.Logs.{IsLog, Reads}
use Rattle.hy_redo.specs.Writers.{Told}
use Rattle.hy_redo.specs.Calls.{AreCalls, Call, LogState, acknowledged, handed, log_behind}

-- A stop between two moments, at which the writer told this, leaves a beginning of the bytes that it had taken by then, at
-- least those that were synced at the first moment. A writer only adds bytes and syncs more of them: so this speaks of each
-- moment between, also of those within a call.
abbrev pub MayLeave : Told → Told → List ℕ → Type 0
MayLeave old new left = (size : ℕ) × (old.synced ≤ size) × (left ≡ take size new.written)

-- bytes read as the first of these batches, at least so many, and nothing else is read from them but a want of memory
abbrev pub ReadsFirst : List Batch → ℕ → List ℕ → Type 0
ReadsFirst batches least left =
    (count : ℕ) × (rest : List ℕ) × (least ≤ count) × IsLog left (take count batches) rest
    × ((read : Result (List Batch) Refusal) → Reads left read
    → (read ≡ Ok (take count batches)) ⊎ (read ≡ Err refusals.NoMemory))

-- a log that begins behind whole batches that are synced, or behind nothing
pub record BeginsBehind (batches : List Batch) (log : LogState) : Type 0 where
  pub written : log.told.written ≡ log_bytes batches
  pub synced : length (log_bytes batches) ≤ log.told.synced
  pub not_failed : log.has_failed ≡ false

-- However a run of calls went, whose batches may stand in a log behind those that were there, so that no edition falls: a
-- stop behind some of them, or at any later moment of the run, leaves the first of all batches that the log was handed,
-- behind those that were there; among them all that were acknowledged by then.
abbrev pub LeaveBatches : Type 0
LeaveBatches =
    (first : List Batch) (log : LogState) (calls more : List Call) (left : List ℕ) → BeginsBehind first log
    → AreCalls log (calls ++ more) → IsTrue (are_batches (first ++ handed (calls ++ more)))
    → MayLeave (log_behind log calls).told (log_behind log (calls ++ more)).told left
    → ReadsFirst (first ++ handed (calls ++ more)) (length first + acknowledged calls) left

-- where one of the calls was refused, the writer has failed since the first of them
abbrev pub HaveCauses : Type 0
HaveCauses =
    (log : LogState) (calls : List Call) (call : Call) (refusal : Refusal) → log.has_failed ≡ false
    → AreCalls log (calls ++ call ∷ []) → call.answer ≡ Err refusal
    → (refusal ≡ refusals.LogFailed) × (log.told.failures < call.log.told.failures)
