-- Snapshots of all warehouses.
use Rattle.std.proofs.Common.{◌≡◌, ◌∙◌, ◌⊎◌, ◌↔◌, ◌-◌, ◌<◌, ℕ, Bool, Result, Ok, Err, List, [], All, IfErr, true, false, length, slice_get, slice_index_or, ap, inl, inr, subst, sym}
use Rattle.std.proofs.lemmas.Bool.{true≢false}
use Rattle.hy_worlds.specs.Origins.{Origin}
use Rattle.hy_rows.specs.Tables.{Lists}
use Rattle.hy_schema.specs.declared.refusal.Refusal.{Refusal}
use Rattle.hy_schema.specs.declared.refusal.Refusal.TheVariants as refusals
use Rattle.hy_session.specs.of_partition.Jobs.{Log}
use Rattle.hy_session.specs.of_partition.Partition.{PartitionState}
use Rattle.hy_session.specs.of_partition.Snapshots.{SnapshotState}
use Rattle.hy_session.specs.of_partition.Steps.{Closes, Forks, ForksFrom}
use Rattle.hy_session.specs.of_crossing.Crossings.{ArePartitions}
use Rattle.hy_session.specs.of_crossing.Lists.{Pairwise}
use Rattle.hy_session.proofs.of_forks.ForkedLaws.{are_from-others}
use Rattle.hy_session.proofs.of_forks.RelationLaws.{pairs-map}
use Rattle.hy_session.specs.of_forks.Forks.{AreOfKit, ClosesHere, ForksAll, ForksAllFrom, ForksFromHere, ForksHere, IsUnforked, IsUnforkedUntold, are_from}
use Rattle.hy_script.specs.Databases.{OpenSnapshot}
use Rattle.hy_script.specs.inside.Invariants.{IsTaken, KeepsServed}
use Rattle.hy_script.proofs.CrossedLaws.{Keeps}
use Rattle.hy_script.proofs.ListLaws.{from_some}
use Rattle.hy_script.proofs.ServedLaws.{keeps-job}

module _ (kit : Origin) (lists : Lists) where
  -- one that was just taken, under a name
  pub just-taken : (parts : List PartitionState) (name : List ℕ) (snapshots : List SnapshotState)
      → ArePartitions lists parts → AreOfKit kit snapshots → are_from kit snapshots parts ≡ true
      → IsTaken kit lists (record { name = name; parts = snapshots })
  just-taken parts name snapshots are of_kit from = record {
    of_kit = of_kit;
    mine = λ others those. are_from-others kit lists snapshots parts others are those from;
  }

  -- the one at a place
  pub taken-at : (all : List OpenSnapshot) (place : ℕ) (snapshot : OpenSnapshot) → place < length all
      → snapshot ≡ slice_index_or all place snapshot → All (IsTaken kit lists) all → IsTaken kit lists snapshot
  taken-at all place snapshot within is each =
      subst (λ (it : OpenSnapshot). IsTaken kit lists it) (sym is) (each place snapshot within)

-- ---- a fork of all partitions

module _ (n : ℕ) (kit : Origin) (log known : Log) (olds news : List PartitionState) (snapshots : List SnapshotState)
    (forks : ForksAll n kit log known olds news snapshots) where
  forks-keeps : (number : ℕ) (old new : PartitionState) → ForksHere n kit log known snapshots number old new
      → KeepsServed old new
  forks-keeps number old new here =
      from_some (slice_get snapshots (number - 1)) (λ (it : SnapshotState) (fork : Forks n kit log known old new it).
      keeps-job old new fork.job fork.max_frames) here

  pub keeps-forked : Pairwise Keeps 1 olds news
  keeps-forked = pairs-map (ForksHere n kit log known snapshots) Keeps forks-keeps 1 olds news forks.each

-- ---- a fork of what a snapshot of all sees

module _ (kit : Origin) (others : List SnapshotState) (olds news : List PartitionState) (snapshots : List SnapshotState)
    (forks : ForksAllFrom kit others olds news snapshots) where
  again-keeps : (number : ℕ) (old new : PartitionState) → ForksFromHere kit others snapshots number old new
      → KeepsServed old new
  again-keeps number old new here =
      from_some (slice_get snapshots (number - 1)) (λ (it : SnapshotState) taken.
      from_some (slice_get others (number - 1)) (λ (from : SnapshotState) (fork : ForksFrom kit from old new it).
      keeps-job old new fork.job fork.users.limit) taken) here

  pub keeps-forked_from : Pairwise Keeps 1 olds news
  keeps-forked_from = pairs-map (ForksFromHere kit others snapshots) Keeps again-keeps 1 olds news forks.each

-- ---- nothing is forked

pub keeps-unforked : (log : Log) (olds news : List PartitionState) → Pairwise (λ number. IsUnforked log) 1 olds news
    → Pairwise Keeps 1 olds news
keeps-unforked log olds news unforked =
    pairs-map (λ number. IsUnforked log) Keeps (λ number old new it. keeps-job old new it.job it.max_frames) 1 olds news
    unforked

pub keeps-untold : (olds news : List PartitionState) → Pairwise (λ number. IsUnforkedUntold) 1 olds news
    → Pairwise Keeps 1 olds news
keeps-untold olds news untold =
    pairs-map (λ number. IsUnforkedUntold) Keeps (λ number old new it. keeps-job old new (it []).job (it []).max_frames) 1
    olds news untold

-- it isn't refused for a snapshot of others
pub own-memory : {T : Type 0} (result : Result T Refusal) (are : Bool) → are ≡ true
    → (result ≡ Err refusals.NotMine ↔ (are ≡ false))
    → IfErr result (λ why. (why ≡ refusals.NotMine) ⊎ (why ≡ refusals.NoMemory))
    → IfErr result (λ why. why ≡ refusals.NoMemory)
own-memory (Ok value) are own mine why = tt
own-memory (Err why) are own mine (inl is) = absurd (true≢false (sym own ∙ mine.0 (ap Err is)))
own-memory (Err why) are own mine (inr memory) = memory

-- ---- a close

module _ (snapshots : List SnapshotState) where
  pub keeps-closed : (olds news : List PartitionState) → Pairwise (ClosesHere snapshots) 1 olds news
      → Pairwise Keeps 1 olds news
  keeps-closed olds news closes =
      pairs-map (ClosesHere snapshots) Keeps (λ number old new here. from_some (slice_get snapshots (number - 1))
      (λ (it : SnapshotState) (close : Closes old new it.child). keeps-job old new close.job close.max_frames) here) 1
      olds news closes
