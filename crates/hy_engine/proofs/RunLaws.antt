-- What the steps of a worker come to.
use Rattle.std.proofs.Common.{◌≡◌, ◌↔◌, ℕ, Bool, true, false, inl, inr, [], refl, ◌∙◌, Option, Some, None, Result, Ok, Err, subst, sym}
use Rattle.std.proofs.lemmas.Bool.{false≢true}
use Rattle.std.specs.Prelude.{IfSome, IsOkAnd, IsSome, IsSomeAnd, IsTrue, MatchBool, MatchOption}
use Rattle.hy_schema.specs.declared.refusal.Refusal.{Refusal}
use Rattle.hy_schema.specs.declared.refusal.Refusal.TheVariants as refusals
use Rattle.hy_redo_drains.specs.of_partition.Jobs.{DoneState, Log, RunningJob, is_last}
use Rattle.hy_redo_drains.specs.of_partition.Partition.{PartitionState}
use Rattle.hy_redo_drains.specs.of_partition.Steps.{Accepts, RefusesAt, StepsTo}
use Rattle.hy_redo_drains.specs.of_partition.declared.job.Progress.{Progress}
use Rattle.hy_redo_drains.specs.of_partition.declared.job.Progress.TheVariants as progress
use Rattle.hy_redo_drains.proofs.of_forks.ServingLaws.{ended-answers}
use Rattle.hy_redo_drains.proofs.of_partition.FinishLaws.{HasEnded, Reached, reached-end, reached-step}
use Rattle.hy_engine.specs.Engines.{AnswersRunning}
use Rattle.hy_engine.specs.inside.Early.{AreEarly, EndsRun}

-- what a step without the journal answers
abbrev pub StepsEarly : PartitionState → PartitionState → Result Progress Refusal → Type 0
StepsEarly old new outcome = MatchOption old.running ((outcome ≡ Err refusals.NotRunning) × (new ≡ old))
    (λ job. IsOkAnd outcome (λ reached. (log : Option Log) → StepsTo job log log old new reached))

-- one step more
pub reached-early : (old now new : PartitionState) (outcome : Result Progress Refusal) → IsSome now.running
    → StepsEarly now new outcome → ((log : Log) → Reached log log old now) → (log : Log) → Reached log log old new
reached-early old now new outcome running step reached log = reached-step log log log old now new outcome running (reached log) (at now.running running step)
  where
    at : (current : Option RunningJob) → IsSome current
        → MatchOption current ((outcome ≡ Err refusals.NotRunning) × (new ≡ now)) (λ job. IsOkAnd outcome (λ reached. (log : Option Log) → StepsTo job log log now new reached))
        → MatchOption current ((outcome ≡ Err refusals.NotRunning) × (new ≡ now) × (log ≡ log)) (λ job. IsOkAnd outcome (StepsTo job (Some log) (Some log) now new))
    at None some step = absurd (false≢true some)
    at (Some job) some step = by outcome step
      where
        by : (outcome : Result Progress Refusal) → IsOkAnd outcome (λ reached. (log : Option Log) → StepsTo job log log now new reached)
            → IsOkAnd outcome (StepsTo job (Some log) (Some log) now new)
        by (Ok reached) steps = steps (Some log)
        by (Err refusal) steps = absurd steps

pub early_more : (old now new : PartitionState) (outcome : Result Progress Refusal) → IsSome now.running
    → StepsEarly now new outcome → AreEarly old now → AreEarly old new
early_more old now new outcome running step early =
    record { reached = reached-early old now new outcome running step early.reached }

-- where a job was refused, nothing runs
refused_ends : (job : RunningJob) (done : ℕ) (old new : PartitionState) → RefusesAt job done old new → new.running ≡ None
refused_ends job done old new refuses = elim refuses.reason [
  | inl item ↦ item.2.running
  | inr other ↦ elim other [ inl frame ↦ frame.2.running | inr memory ↦ memory.1.running ]
]

-- no job is accepted where there is no serial list
unaccepted : (job : RunningJob) (old new : PartitionState) → Accepts job None None old new → ⊥
unaccepted job old new accepts = let none : None ≡ Some accepts.log = accepts.before_is in absurd (cc)

-- whether the job goes on
pub early_goes_on : (old new : PartitionState) (outcome : Result Progress Refusal) (more : Bool)
    → (IsTrue more ↔ (outcome ≡ Ok progress.More)) → IsSome old.running → StepsEarly old new outcome
    → MatchBool more (IsSome new.running) (new.running ≡ None)
early_goes_on old new outcome more decides running step = at old.running running step more decides
  where
    ends : (job : RunningJob) → StepsTo job None None old new progress.Finished → new.running ≡ None
    ends job steps = elim steps [
      | inl last ↦ absurd (unaccepted job old new last.1)
      | inr refuses ↦ refused_ends job job.slices old new refuses.1
    ]

    by : (job : RunningJob) (outcome : Result Progress Refusal) (more : Bool) → (IsTrue more ↔ (outcome ≡ Ok progress.More))
        → IsOkAnd outcome (λ reached. (log : Option Log) → StepsTo job log log old new reached)
        → MatchBool more (IsSome new.running) (new.running ≡ None)
    by job (Ok progress.More) true decides steps = subst IsSome (sym (steps None).2.running) refl
    by job (Ok progress.More) false decides steps = absurd (false≢true (decides.1 refl))
    by job (Ok progress.Finished) true decides steps = let finished : Result Progress Refusal = Ok progress.Finished in let same : finished ≡ Ok progress.More = decides.0 refl in absurd (cc)
    by job (Ok progress.Finished) false decides steps = ends job (steps None)
    by job (Err refusal) more decides steps = absurd steps

    at : (current : Option RunningJob) → IsSome current
        → MatchOption current ((outcome ≡ Err refusals.NotRunning) × (new ≡ old))
        (λ job. IsOkAnd outcome (λ reached. (log : Option Log) → StepsTo job log log old new reached))
        → (more : Bool) → (IsTrue more ↔ (outcome ≡ Ok progress.More)) → MatchBool more (IsSome new.running) (new.running ≡ None)
    at None some step more decides = absurd (false≢true some)
    at (Some job) some step more decides = by job outcome more decides step

-- what runs has its last slice to come, and is looked at
abbrev pub IsAtLast : PartitionState → Type 0
IsAtLast p = IsSomeAnd p.running (λ job. IsTrue (is_last job))

-- nothing runs where each job that runs has its last slice to come and none has
none_runs : (running : Option RunningJob) → IfSome running (λ job. is_last job ≡ true) → (IsSomeAnd running (λ job. IsTrue (is_last job)) → ⊥) → running ≡ None
none_runs None last none = refl
none_runs (Some job) last none = absurd (none last)

-- any serial list does where no step asked for it
abbrev no_log : Log
no_log = []

-- the steps so far have ended the job
pub ended_early : (old now : PartitionState) → AreEarly old now → IfSome now.running (λ job. is_last job ≡ true)
    → (IsAtLast now → ⊥) → IfSome old.running (λ job. EndsRun job old now)
ended_early old now early last none = at old.running refl (reached-end no_log no_log old now (none_runs now.running last none) (early.reached no_log))
  where
    at : (running : Option RunningJob) → old.running ≡ running
        → MatchOption running ((now ≡ old) × (no_log ≡ no_log)) (λ first. HasEnded first (Some no_log) (Some no_log) old now)
        → IfSome running (λ job. EndsRun job old now)
    at None is same = tt
    at (Some job) is how = record { before = no_log; after = no_log; how = how }

-- the last slice has ended it
pub ended_last : (before after : Log) (old now new : PartitionState) (outcome : Result Progress Refusal) → AreEarly old now
    → IsAtLast now
    → MatchOption now.running ((outcome ≡ Err refusals.NotRunning) × (new ≡ now) × (after ≡ before))
    (λ job. IsOkAnd outcome (StepsTo job (Some before) (Some after) now new))
    → IfSome old.running (λ job. EndsRun job old new)
ended_last before after old now new outcome early last step =
    at old.running refl (reached-end before after old new (ended now.running last step)
    (reached-step before before after old now new outcome (some now.running last) (early.reached before) step))
  where
    some : (running : Option RunningJob) → IsSomeAnd running (λ job. IsTrue (is_last job)) → IsSome running
    some None last = absurd last
    some (Some job) last = refl

    by : (job : RunningJob) → IsTrue (is_last job) → (outcome : Result Progress Refusal) → IsOkAnd outcome (StepsTo job (Some before) (Some after) now new) → new.running ≡ None
    by job last (Ok progress.More) steps = absurd (false≢true (sym steps.0 ∙ last))
    by job last (Ok progress.Finished) steps = elim steps [
      | inl accepts ↦ accepts.1.does.ends.running
      | inr refuses ↦ refused_ends job job.slices now new refuses.1
    ]
    by job last (Err refusal) steps = absurd steps

    ended : (running : Option RunningJob) → IsSomeAnd running (λ job. IsTrue (is_last job))
        → MatchOption running ((outcome ≡ Err refusals.NotRunning) × (new ≡ now) × (after ≡ before)) (λ job. IsOkAnd outcome (StepsTo job (Some before) (Some after) now new))
        → new.running ≡ None
    ended None last step = absurd last
    ended (Some job) last step = by job last outcome step

    at : (running : Option RunningJob) → old.running ≡ running
        → MatchOption running ((new ≡ old) × (after ≡ before)) (λ first. HasEnded first (Some before) (Some after) old new)
        → IfSome running (λ job. EndsRun job old new)
    at None is same = tt
    at (Some job) is how = record { before = before; after = after; how = how }

-- the job that ended has an answer
pub has_answer : (running : Option RunningJob) (old now : PartitionState) → IsSome running → IfSome running (λ job. EndsRun job old now) → IsSome now.finished
has_answer None old now some ends = absurd (false≢true some)
has_answer (Some job) old now some ends =
    ended-answers job (Some ends.before) (Some ends.after) old now ends.how

-- its answer was taken
pub answered : (running : Option RunningJob) (old ended new : PartitionState) (answer : DoneState) → IsSome running
    → IfSome running (λ job. EndsRun job old ended) → ended.finished ≡ Some answer → new ≡ record ended { finished = None }
    → IsSomeAnd running (λ job. AnswersRunning job old new answer)
answered None old ended new answer some ends is taken = absurd (false≢true some)
answered (Some job) old ended new answer some ends is taken =
    record { before = ends.before; after = ends.after; ended = ended; how = ends.how; answered = is; taken = taken }
