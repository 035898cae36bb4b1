-- What a job got is an answer, and why a job comes back.
use Rattle.std.proofs.Common.{◌≡◌, ◌⊎◌, inl, inr, true, false, List, Result, Ok, Err, IfErr}
use Rattle.hy_rows.specs.Tables.{Lists}
use Rattle.hy_schema.specs.declared.refusal.Refusal.{Refusal}
use Rattle.hy_schema.specs.declared.refusal.Refusal.TheVariants as refusals
use Rattle.hy_commands.specs.declared.command.Command.{Command}
use Rattle.hy_commands.specs.Commands.{home_of}
use Rattle.hy_queues.specs.Queues.{FrontState, IsWhyUnput}
use Rattle.hy_commands.specs.declared.edition.Edition.TheVariants as editions
use Rattle.hy_redo_drains.specs.of_partition.Jobs.{DoneState, JobState, Log}
use Rattle.hy_redo_drains.specs.of_partition.Partition.{PartitionState}
use Rattle.hy_redo_drains.specs.of_forks.Partitions.{AreWhole, CrossesAndTells}
use Rattle.hy_engine.specs.Engines.{AnswersJob, EngineState, IsAnswer, IsHome, IsWhyBack, at_home, closed, homeless, in_all, names_several, waits}

module _ (lists : Lists) (job : JobState) (answer : DoneState) (edition : job.edition ≡ editions.Second) where
  -- in a partition
  pub answered-at-home : (old new : PartitionState) → AnswersJob job old new answer → ∥ IsAnswer lists answer ∥₁
  answered-at-home old new answers = ∣ record { job = job; edition = edition; done = at_home old new answers } ∣₁

  -- in the partitions of a load
  pub answered-in-all : (before after : Log) (old new : List PartitionState) → AreWhole lists old
      → CrossesAndTells lists job before after old new answer → ∥ IsAnswer lists answer ∥₁
  answered-in-all before after old new are crosses =
      ∣ record { job = job; edition = edition; done = in_all before after old new are crosses } ∣₁

module _ (lists : Lists) (engine : EngineState) (command : Command) where
  -- a job whose home isn't there
  pub back-homeless : (why : Refusal) → (IsHome engine (home_of command) → ⊥)
      → (why ≡ refusals.NoSuchWarehouse) ⊎ ((why ≡ refusals.Closed) × ((jobs : FrontState JobState) × (jobs.is_closed ≡ true)))
      → IsWhyBack lists engine command why
  back-homeless why nowhere (inl is) = homeless is nowhere
  back-homeless why nowhere (inr (is, (jobs, shut))) = closed is jobs shut

  -- one that its home's queue didn't take
  pub back-untaken : {X : Type 0} (result : Result (Unit {0}) (X × Refusal)) → IsHome engine (home_of command)
      → names_several command ≡ false
      → IfErr result (λ refused. (jobs : FrontState JobState) × IsWhyUnput jobs refused.1)
      → IfErr result (λ refused. IsWhyBack lists engine command refused.1)
  back-untaken (Ok done) home local why = tt
  back-untaken (Err refused) home local (jobs, why) = waits jobs home local why
