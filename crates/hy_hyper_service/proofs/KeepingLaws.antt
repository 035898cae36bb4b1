-- What the log makes of a batch that it is handed.
use Rattle.std.proofs.Common.{◌≡◌, Bool, true, false, List, [], ◌∷◌, ◌++◌, Result, Ok, Err, Some, None, inr, refl, sym, subst}
use Rattle.std.specs.Prelude.{IfErr}
use Rattle.hy_rows.specs.Tables.{Lists}
use Rattle.hy_schema.specs.declared.refusal.Refusal.{Refusal}
use Rattle.hy_schema.specs.declared.refusal.Refusal.TheVariants as refusals
use Rattle.hy_batches.specs.Batches.{Batch}
use Rattle.hy_redo.specs.Calls.{Answers, AnswersBy, LogState}
use Rattle.hy_redo_drains.specs.of_forks.Drains.{TellsHere, drained_of}
use Rattle.hy_redo_drains.specs.of_forks.Lists.{Pairwise}
use Rattle.hy_redo_drains.specs.of_forks.Logged.{SaySame}
use Rattle.hy_redo_drains.specs.of_partition.Jobs.{Log}
use Rattle.hy_redo_drains.specs.Following.{Follows}
use Rattle.hy_redo_drains.proofs.FollowLaws.{drained, written-one}
use Rattle.hy_script.specs.Databases.{DatabaseState}
use Rattle.hy_hyper_service.specs.Keeping.{HandsBatch, IsWhyUnkept, LoggedState, nothing_due}

module _ (lists : Lists) (log new : LogState) (seen next : Log) (batch : Batch) (answer : Result (Unit {0}) Refusal)
    (answers : Answers log new batch answer) where
  -- the log still follows the serial list
  pub follows-on : Follows lists (nothing_due log seen)
      → ((batches : List Batch) → SaySame lists batches seen → SaySame lists (batches ++ batch ∷ []) next)
      → Follows lists (nothing_due new next)
  follows-on follows goes =
      written-one lists log new next (Some batch) None batch answer
      (drained lists log seen next None batch refl follows goes) refl refl answers

-- a refused call is refused by E14
fails : (failed : Bool) (log new : LogState) (batch : Batch) (why : Refusal) → AnswersBy failed log new batch (Err why)
    → why ≡ refusals.LogFailed
fails true log new batch why is = is.0
fails false log new batch why is = is.refused

pub unkept : (lists : Lists) (old new : LoggedState) (before after : DatabaseState) (answer : Result (Unit {0}) Refusal)
    → HandsBatch lists old new before after answer → IfErr answer (IsWhyUnkept lists old new before after)
unkept lists old new before after (Ok done) hands = tt
unkept lists old new before after (Err why) hands =
    let is = fails old.log.has_failed old.log new.log (drained_of old.seen after.parts) why hands.answers in
    inr (is, subst (λ why. HandsBatch lists old new before after (Err why)) is hands)

-- what a drain and a write say together
pub handed : (lists : Lists) (log new : LogState) (seen next : Log) (before middle after : DatabaseState) (batch : Batch)
    (answer : Result (Unit {0}) Refusal) → middle ≡ before → Pairwise (TellsHere middle.log) 1 middle.parts after.parts
    → after.snapshots ≡ middle.snapshots → after.log ≡ middle.log → batch ≡ drained_of seen after.parts → next ≡ middle.log
    → ((batches : List Batch) → SaySame lists batches seen → SaySame lists (batches ++ batch ∷ []) middle.log)
    → Answers log new batch answer
    → HandsBatch lists (record { log = log; seen = seen }) (record { log = new; seen = next }) before after answer
handed lists log new seen next before middle after batch answer same told snapshots log_is is moved goes answers =
    subst (λ (database : DatabaseState). HandsBatch lists (record { log = log; seen = seen })
    (record { log = new; seen = next }) database after answer) same
    (record {
      told = record { told = told; snapshots = snapshots; log = log_is };
      seen = moved;
      answers = subst (λ batch. Answers log new batch answer) is answers;
      goes_on = λ batches said. subst (λ (list : Log). SaySame lists (batches ++ drained_of seen after.parts ∷ []) list) (sym moved)
          (subst (λ batch. SaySame lists (batches ++ batch ∷ []) middle.log) is (goes batches said));
    })
