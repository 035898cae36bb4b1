-- Where the clients' passes are behind a command over several warehouses.
use Rattle.std.proofs.Common.{◌≡◌, ℕ, suc, List, [], ◌∷◌, inl, inr, refl, ap}
use Rattle.hy_rows.specs.Tables.{Lists}
use Rattle.hy_commands.specs.declared.command.Command.{Command}
use Rattle.hy_commands.specs.declared.command.Commit.{Commit}
use Rattle.hy_session.specs.of_partition.Jobs.{DoneState, JobState, Log}
use Rattle.hy_session.specs.of_partition.Partition.{PartitionState}
use Rattle.hy_session.specs.of_crossing.Crossings.{Crosses, EndsIfNamed, Informs, KeepsIfNamed, LeavesIfNamed, TellsIfNamed, entry_of}
use Rattle.hy_session.specs.of_crossing.Lists.{InTurn, Pairwise}
use Rattle.hy_session.proofs.of_crossing.PairLaws.{pairs-then}
use Rattle.hy_session.proofs.of_forks.RelationLaws.{pairs-map}
use Rattle.hy_session.specs.of_forks.Drains.{TellsHere}
use Rattle.hy_session.specs.of_forks.Partitions.{CrossesAndTells}
use Rattle.hy_script.specs.inside.Invariants.{KeepsServed}
use Rattle.hy_script.proofs.ServedLaws.{keeps-beside, keeps-finished, keeps-same, keeps-then}

abbrev pub Keeps : ℕ → PartitionState → PartitionState → Type 0
Keeps number old new = KeepsServed old new

-- a relation that a step implies, where a state is led along
pairs-turned : {State Row : Type 0} (step : ℕ → State → State → Row → Row → Type 0) (relation : ℕ → Row → Row → Type 0)
    → ((number : ℕ) (before after : State) (old new : Row) → step number before after old new → relation number old new)
    → (number : ℕ) (before after : State) (olds news : List Row) → InTurn step number before after olds news
    → Pairwise relation number olds news
pairs-turned step relation leads number before after [] [] turn = tt
pairs-turned step relation leads number before after [] (new ∷ news) turn = absurd turn
pairs-turned step relation leads number before after (old ∷ olds) [] turn = absurd turn
pairs-turned step relation leads number before after (old ∷ olds) (new ∷ news) turn = (
  leads number before turn.0 old new turn.1,
  pairs-turned step relation leads (suc number) turn.0 after olds news turn.2,
)

-- it was told the serial list
pub keeps-told : (log : Log) (old new : PartitionState) → new ≡ record old { seen = log } → KeepsServed old new
keeps-told log old new tells = record {
  max_frames = ap (λ (p : PartitionState). p.space.frames.max) tells;
  passes = λ few. rw tells refl;
}

module _ (command : Command) where
  keeps-ended : (number : ℕ) (before after : Log) (old new : PartitionState)
      → EndsIfNamed command number before after old new → KeepsServed old new
  keeps-ended number before after old new ends = elim ends [
    | inl named ↦ keeps-finished old new before after old.running refl named.1
    | inr unnamed ↦ keeps-same old new unnamed.1.0
  ]

  keeps-named : (log : Log) (number : ℕ) (old new : PartitionState) → TellsIfNamed command log number old new
      → KeepsServed old new
  keeps-named log number old new tells = elim tells [
    | inl named ↦ keeps-told log old new named.1.0
    | inr unnamed ↦ keeps-same old new unnamed.1
  ]

  keeps-kept : (commit : Commit) (log : Log) (number : ℕ) (old new : PartitionState)
      → KeepsIfNamed command commit log number old new → KeepsServed old new
  keeps-kept commit log number old new keeps = elim keeps [
    | inl named ↦ keeps-beside old new named.1.beside
    | inr unnamed ↦ keeps-same old new unnamed.1
  ]

  keeps-left : (number : ℕ) (old new : PartitionState) → LeavesIfNamed command number old new → KeepsServed old new
  keeps-left number old new leaves = elim leaves [
    | inl named ↦ elim (named.1) [
      | inl same ↦ keeps-same old new same
      | inr before ↦ keeps-beside old new before.beside
    ]
    | inr unnamed ↦ keeps-same old new unnamed.1
  ]

both : (number : ℕ) (old middle new : PartitionState) → Keeps number old middle → Keeps number middle new
    → Keeps number old new
both number old middle new first next = keeps-then old middle new first next

keeps-crosses : (lists : Lists) (job : JobState) (before after : Log) (olds news : List PartitionState)
    (answer : DoneState) → Crosses lists job before after olds news answer → Pairwise Keeps 1 olds news
keeps-crosses lists job before after olds news answer crosses =
    pairs-then Keeps Keeps Keeps both 1 olds informs.ended news
    (pairs-turned (EndsIfNamed job.command) Keeps (keeps-ended job.command) 1 before crosses.log olds informs.ended
    informs.ends)
    (pairs-then Keeps Keeps Keeps both 1 informs.ended crosses.middle news
    (pairs-map (TellsIfNamed job.command crosses.log) Keeps (keeps-named job.command crosses.log) 1 informs.ended
    crosses.middle informs.tells) last)
  where
    informs : Informs job.command before crosses.log olds crosses.middle
    informs = crosses.informs

    last : Pairwise Keeps 1 crosses.middle news
    last = elim crosses.does [
      | inl accepts ↦ pairs-map (KeepsIfNamed job.command (entry_of lists job crosses.log).commit after) Keeps
          (keeps-kept job.command (entry_of lists job crosses.log).commit after) 1 crosses.middle news accepts.parts
      | inr refuses ↦ pairs-map (LeavesIfNamed job.command) Keeps (keeps-left job.command) 1 crosses.middle news
          refuses.parts
    ]

pub keeps-crossed : (lists : Lists) (job : JobState) (before after : Log) (olds news : List PartitionState)
    (answer : DoneState) → CrossesAndTells lists job before after olds news answer → Pairwise Keeps 1 olds news
keeps-crossed lists job before after olds news answer done =
    pairs-then Keeps Keeps Keeps both 1 olds done.crossed news
    (keeps-crosses lists job before after olds done.crossed answer done.crosses)
    (pairs-map (TellsHere after) Keeps (λ number old new told. keeps-told after old new told.0) 1 done.crossed news
    done.tells)
