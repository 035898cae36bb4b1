use Rattle.std.proofs.Common.{rules, ◌≡◌, ◌⊎◌, ◌+◌, ◌==◌, false, inl, inr, Option, None, Some, Result, Ok, Err, refl, ap, subst, arith}
use Rattle.std.specs.Prelude.{IsOkAnd, IsSomeAnd, MatchOption, is_some}
use Rattle.std.proofs.lemmas.Bool.Decides.{nat_tests}
use Rattle.hy_schema.specs.declared.refusal.Refusal.{Refusal}
use Rattle.hy_schema.specs.declared.refusal.Refusal.TheVariants as refusals
use Rattle.hy_commands.specs.Commands.{slice_count}
use Rattle.hy_recovery.specs.of_partition.Jobs.{Log, RunningJob, with_slice_done}
use Rattle.hy_recovery.specs.of_partition.Partition.{PartitionState}
use Rattle.hy_recovery.specs.of_partition.Steps.{Accepts, Refuses, StepsTo}
use Rattle.hy_recovery.specs.of_partition.declared.job.Progress.{Progress}
use Rattle.hy_recovery.specs.of_partition.declared.job.Progress.TheVariants as progress
use Rattle.hy_recovery.proofs.of_partition.FinishLaws.{HasEnded, Reached, reached-end, reached-start, reached-step}
use Rattle.hy_program.specs.First.{HasTwoSlices}
use Rattle.hy_program.proofs.first.run_slices.Goals as goal

-- what a step of a partition answers, with the serial list before and after it
abbrev Stepped : Log → Log → PartitionState → PartitionState → Result Progress Refusal → Type 0
Stepped before after old new result =
    MatchOption old.running ((result ≡ Err refusals.NotRunning) × (new ≡ old) × (after ≡ before))
    (λ job. IsOkAnd result (StepsTo job (Some before) (Some after) old new))

-- a job of two slices has ended behind its second step
two_steps : (start between after : Log) (old mid new : PartitionState) (first second : Result Progress Refusal)
    (job : RunningJob) → old.running ≡ Some job → HasTwoSlices job → first ≡ Ok progress.More
    → Stepped start between old mid first → Stepped between after mid new second
    → HasEnded job (Some start) (Some after) old new
two_steps start between after old mid new first second job is two more step again =
    let did : StepsTo job (Some start) (Some between) old mid progress.More =
    subst (λ (r : Result Progress Refusal). IsOkAnd r (StepsTo job (Some start) (Some between) old mid)) more
    (subst (λ (running : Option RunningJob).
    MatchOption running ((first ≡ Err refusals.NotRunning) × (mid ≡ old) × (between ≡ start))
    (λ job. IsOkAnd first (StepsTo job (Some start) (Some between) old mid))) is step) in
    by second did.2.running again
    (reached-step start between after old mid new second (ap is_some did.2.running)
    (reached-step start start between old old mid first (ap is_some is) (reached-start start old) step) again)
  where
    ended : new.running ≡ None → Reached start after old new → HasEnded job (Some start) (Some after) old new
    ended none reached =
        subst (λ (running : Option RunningJob).
        MatchOption running ((new ≡ old) × (after ≡ start)) (λ first. HasEnded first (Some start) (Some after) old new)) is
        (reached-end start after old new none reached)

    last : (reached : Progress) → StepsTo (with_slice_done job) (Some between) (Some after) mid new reached
        → new.running ≡ None
    last progress.More steps =
        let not_yet : (job.slices + 1 + 1 == slice_count job.command) ≡ false = steps.0 in
        absurd (grind (arith, nat_tests, not_yet, two.0, two.1))
    last progress.Finished steps = elim steps [
      | inl whole ↦ whole.1.does.ends.running
      | inr refuses ↦ elim refuses.1.reason [
        | inl item ↦ item.2.running
        | inr other ↦ elim other [ inl frame ↦ frame.2.running | inr memory ↦ memory.1.running ]
      ]
    ]

    by : (second : Result Progress Refusal) → mid.running ≡ Some (with_slice_done job)
        → Stepped between after mid new second → Reached start after old new
        → HasEnded job (Some start) (Some after) old new
    by second running again reached =
        at second
        (subst (λ (r : Option RunningJob).
        MatchOption r ((second ≡ Err refusals.NotRunning) × (new ≡ mid) × (after ≡ between))
        (λ job. IsOkAnd second (StepsTo job (Some between) (Some after) mid new))) running again)
      where
        at : (second : Result Progress Refusal)
            → IsOkAnd second (StepsTo (with_slice_done job) (Some between) (Some after) mid new)
            → HasEnded job (Some start) (Some after) old new
        at (Ok progressed) steps = ended (last progressed steps) reached
        at (Err refusal) steps = absurd steps

-- behind the first slice
pub returns-in-Ok-More : goal.returns-in-Ok-More
returns-in-Ok-More g c =
    let old = c.args.partition.now in
    let more : c.step.result ≡ Ok progress.More = search rules in
    at old.running refl c.requires more
  where
    at : (running : Option RunningJob) → c.args.partition.now.running ≡ running → IsSomeAnd running HasTwoSlices
        → c.step.result ≡ Ok progress.More
        → IsSomeAnd running (λ job. Accepts job (Some c.args.journal.now.list.log) (Some c.step-progress.new.journal.list.log)
        c.args.partition.now c.step-progress.new.self
        ⊎ Refuses job (Some c.args.journal.now.list.log) (Some c.step-progress.new.journal.list.log)
        c.args.partition.now c.step-progress.new.self)
    at None is two more = absurd two
    at (Some job) is two more =
        two_steps c.args.journal.now.list.log c.step.new.journal.list.log c.step-progress.new.journal.list.log
        c.args.partition.now c.step.new.self c.step-progress.new.self
        c.step.result c.step-progress.result job is two more c.step.ensures c.step-progress.ensures
