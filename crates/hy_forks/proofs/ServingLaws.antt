-- What a partition's own call says, as one word.
use Rattle.std.proofs.Common.{◌≡◌, ◌⊎◌, ℕ, inl, inr, Option, None, Result, Ok, Err, IfErr, ap, refl, subst, sym}
use Rattle.std.specs.Prelude.{IsSome, OnErr, OnOk}
use Rattle.hy_schema.specs.declared.refusal.Refusal.{Refusal}
use Rattle.hy_crossing.specs.of_partition.Jobs.{JobState, Log, RunningJob}
use Rattle.hy_crossing.specs.of_partition.Partition.{PartitionState}
use Rattle.hy_crossing.specs.of_partition.Steps.{Accepts, IsUnbegun, Refuses, RefusesAt, begin_refusal, with_job}
use Rattle.hy_forks.specs.Partitions.{TriesToBegin, begun, unbegun}

pub tries-to-begin : (job : JobState) (result : Result (Unit {0}) (JobState × Refusal)) (old new : PartitionState)
    → OnOk result (new ≡ with_job old job) → OnOk result (begin_refusal old job.command ≡ None)
    → IfErr result (λ refused. IsUnbegun old job.command refused.1) → IfErr result (λ refused. refused.0 ≡ job)
    → OnErr result (new ≡ old) → TriesToBegin job result old new
tries-to-begin job (Ok done) old new is accepted refused back same = begun refl accepted is
tries-to-begin job (Err (job_back, why)) old new is accepted refused back same =
    unbegun why (ap (λ (it : JobState). Err (it, why)) back) refused same

-- ---- whole commands

-- a job that was refused has an answer
refused-answers : (job : RunningJob) (done : ℕ) (old new : PartitionState) → RefusesAt job done old new
    → IsSome new.finished
refused-answers job done old new refuses = elim refuses.reason [
  | inl item ↦ subst IsSome (sym item.2.finished) refl
  | inr other ↦ elim other [
    | inl frame ↦ subst IsSome (sym frame.2.finished) refl
    | inr memory ↦ subst IsSome (sym memory.1.finished) refl
  ]
]

-- and so has one that has ended
pub ended-answers : (job : RunningJob) (before after : Option Log) (old new : PartitionState)
    → Accepts job before after old new ⊎ Refuses job before after old new → IsSome new.finished
ended-answers job before after old new how = elim how [
  | inl accepts ↦ subst IsSome (sym accepts.does.ends.finished) refl
  | inr refuses ↦ refused-answers job refuses.done old new refuses.refused
]
