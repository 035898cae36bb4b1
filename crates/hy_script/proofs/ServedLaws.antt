-- Where a client's pass is behind what is done to a partition.
use Rattle.std.proofs.Common.{◌≡◌, ◌⊎◌, ◌∙◌, ◌+◌, ◌≤◌, Option, None, Some, IsSome, MatchOption, ap, arith, inl, inr, refl}
use Rattle.std.proofs.lemmas.Bool.{false≢true}
use Rattle.hy_session.specs.of_partition.Jobs.{DoneState, Log, RunningJob}
use Rattle.hy_session.specs.of_partition.Partition.{PartitionState}
use Rattle.hy_session.specs.of_partition.Parts.{KeepsBeside}
use Rattle.hy_session.specs.of_partition.Steps.{Accepts, Ends, KeepsJob, Refuses, RefusesAt}
use Rattle.hy_script.specs.declared.terminal.Terminal.{Terminal}
use Rattle.hy_script.specs.inside.Invariants.{IsServed, KeepsServed, held}

pub held-some : {X : Type 0} (value : Option X) → IsSome value → 0 + 0 + held value ≡ 1
held-some None is = absurd (false≢true is)
held-some (Some x) is = refl

pub keeps-same : (old new : PartitionState) → new ≡ old → KeepsServed old new
keeps-same old new same = record {
  max_frames = ap (λ (p : PartitionState). p.space.frames.max) same;
  passes = λ few. ap (λ (p : PartitionState). held p.running + held p.finished) same;
}

pub keeps-then : (old middle new : PartitionState) → KeepsServed old middle → KeepsServed middle new
    → KeepsServed old new
keeps-then old middle new first next = record {
  max_frames = next.max_frames ∙ first.max_frames;
  passes = λ few.
      let one = first.passes few in
      let other = next.passes (omega (arith, one, few)) in
      other ∙ one;
}

-- the job and the answer stay
pub keeps-job : (old new : PartitionState) → KeepsJob old new → new.space.frames.max ≡ old.space.frames.max
    → KeepsServed old new
keeps-job old new job max = record {
  max_frames = max;
  passes = λ few. rw (job.running, job.finished) refl;
}

pub keeps-beside : (old new : PartitionState) → KeepsBeside old new → KeepsServed old new
keeps-beside old new beside = record {
  max_frames = beside.max_frames;
  passes = λ few. rw (beside.running, beside.finished) refl;
}

-- ---- a job that runs

module _ (old new : PartitionState) (job : RunningJob) (runs : old.running ≡ Some job) where
  keeps-ended : (answer : DoneState) → Ends old new answer → KeepsServed old new
  keeps-ended answer ends = record {
    max_frames = ends.rest.max_frames;
    passes = λ few.
        let ran : held old.running ≡ 1 = ap held runs in
        let ended : held new.running ≡ 0 = ap held ends.running in
        let answered : held new.finished ≡ 1 = ap held ends.finished in
        omega (arith, few, ran, ended, answered);
  }

  keeps-refused : (done : _) → RefusesAt job done old new → KeepsServed old new
  keeps-refused done refused = elim refused.reason [
    | inl item ↦ keeps-ended _ item.2
    | inr other ↦ elim other [
      | inl frame ↦ keeps-ended _ frame.2
      | inr memory ↦ keeps-ended _ memory.1
    ]
  ]

  keeps-ends : (before after : Option Log) → Accepts job before after old new ⊎ Refuses job before after old new
      → KeepsServed old new
  keeps-ends before after ends = elim ends [
    | inl accepts ↦ keeps-ended _ accepts.does.ends
    | inr refuses ↦ keeps-refused refuses.done refuses.refused
  ]

-- the job that runs, if one does, comes to its end
pub keeps-finished : (old new : PartitionState) (before after : Log) (running : Option RunningJob)
    → old.running ≡ running → MatchOption running ((new ≡ old) × (after ≡ before))
    (λ job. Accepts job (Some before) (Some after) old new ⊎ Refuses job (Some before) (Some after) old new)
    → KeepsServed old new
keeps-finished old new before after None idle none = keeps-same old new none.0
keeps-finished old new before after (Some job) runs ends = keeps-ends old new job runs (Some before) (Some after) ends

-- ---- the terminal

module _ {K : Type 0} (old new : PartitionState) (terminal : Terminal K) (served : IsServed old terminal) where
  pub served-kept : KeepsServed old new → IsServed new terminal
  served-kept keeps =
      let few : held old.running + held old.finished ≤ 1 = omega (arith, served.one_pass) in
      record {
        max_frames = keeps.max_frames ∙ served.max_frames;
        one_pass = omega (arith, keeps.passes few, served.one_pass);
      }
