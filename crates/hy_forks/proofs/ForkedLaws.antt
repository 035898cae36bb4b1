-- Snapshots that were just forked of all partitions say that they are theirs, and those of any other partitions of the load.
use Rattle.std.proofs.Common.{◌≡◌, ◌∙◌, ◌+◌, ◌-◌, ℕ, suc, List, [], ◌∷◌, IfSome, IsSomeAnd, true, length, slice_get, ap, arith, refl, subst, sym}
use Rattle.std.proofs.lemmas.Bool.{and_parts, false≢true}
use Rattle.std.proofs.lemmas.Bool.Decides.{nat_tests}
use Rattle.hy_worlds.specs.Origins.{Origin}
use Rattle.hy_rows.specs.Tables.{Lists}
use Rattle.hy_crossing.specs.of_partition.Jobs.{Log}
use Rattle.hy_crossing.specs.of_partition.Partition.{PartitionState, Terms}
use Rattle.hy_crossing.specs.of_partition.Snapshots.{SnapshotState}
use Rattle.hy_crossing.specs.of_partition.Steps.{Forks, ForksFrom, KeepsJob, is_from}
use Rattle.hy_crossing.specs.Crossings.{ArePartitions, IsPartition}
use Rattle.hy_crossing.specs.Lists.{Pairwise}
use Rattle.hy_forks.specs.Forks.{ForksAll, ForksAllFrom, ForksFromHere, ForksHere, are_from}
use Rattle.hy_forks.proofs.PlaceLaws.{some-map, some-out}
use Rattle.hy_forks.proofs.RelationLaws.{pairs-map}

-- the snapshot at the place of a partition says that it is one of it
abbrev IsFromHere : Origin → List SnapshotState → ℕ → PartitionState → PartitionState → Type 0
IsFromHere kit all number old new =
    IsSomeAnd (slice_get all (number - 1)) (λ snapshot. is_from snapshot new.warehouse kit ≡ true)

module _ (kit : Origin) (all : List SnapshotState) where
  -- those from a place on, of the partitions from there on
  from-here : (place : ℕ) (snapshots : List SnapshotState) (olds news : List PartitionState)
      → ((further : ℕ) → slice_get all (place + further) ≡ slice_get snapshots further)
      → length snapshots ≡ length olds → Pairwise (IsFromHere kit all) (suc place) olds news
      → are_from kit snapshots news ≡ true
  from-here place [] [] [] are count here = refl
  from-here place [] [] (new ∷ news) are count here = absurd here
  from-here place [] (old ∷ olds) news are count here = absurd (omega (arith, count))
  from-here place (snapshot ∷ later) [] news are count here = absurd (omega (arith, count))
  from-here place (snapshot ∷ later) (old ∷ olds) [] are count here = absurd here
  from-here place (snapshot ∷ later) (old ∷ olds) (new ∷ news) are count here =
      let back : suc place - 1 ≡ place + 0 = omega arith in
      let this : is_from snapshot new.warehouse kit ≡ true =
      subst (λ found. IsSomeAnd found (λ it. is_from it new.warehouse kit ≡ true)) (ap (slice_get all) back ∙ are 0) here.0 in
      let rest = from-here (suc place) later olds news (λ further. ap (slice_get all) (omega arith) ∙ are (suc further))
      (omega (arith, count)) here.1 in
      rw (this, rest) refl

  from-all : (olds news : List PartitionState) → length all ≡ length olds
      → Pairwise (IsFromHere kit all) 1 olds news → are_from kit all news ≡ true
  from-all olds news count here = from-here 0 all olds news (λ further. ap (slice_get all) (omega arith)) count here

-- a snapshot of a partition that was forked says that it is one of it
is_from-taken : (kit : Origin) (snapshot : SnapshotState) (old new : PartitionState) → KeepsJob old new
    → snapshot.warehouse ≡ old.warehouse → snapshot.name ≡ kit.name → is_from snapshot new.warehouse kit ≡ true
is_from-taken kit snapshot old new job warehouse name =
    let here : snapshot.warehouse ≡ new.warehouse = warehouse ∙ ap (λ (terms : Terms). terms.warehouse) (sym job.terms) in
    rw (here, name) (grind (arith, nat_tests))

pub are_from-forks : (n : ℕ) (kit : Origin) (log known : Log) (all : List SnapshotState) (olds news : List PartitionState)
    → ForksAll n kit log known olds news all → are_from kit all news ≡ true
are_from-forks n kit log known all olds news forks =
    from-all kit all olds news forks.count (pairs-map (ForksHere n kit log known all) (IsFromHere kit all)
    (λ number old new here. some-map (Forks n kit log known old new)
    (λ snapshot. is_from snapshot new.warehouse kit ≡ true) (slice_get all (number - 1))
    (λ snapshot fork. is_from-taken kit snapshot old new fork.job fork.warehouse fork.name) here) 1 olds news forks.each)

pub are_from-again : (kit : Origin) (others all : List SnapshotState) (olds news : List PartitionState)
    → ForksAllFrom kit others olds news all → are_from kit all news ≡ true
are_from-again kit others all olds news forks =
    from-all kit all olds news forks.count (pairs-map (ForksFromHere kit others all) (IsFromHere kit all)
    (λ number old new here. some-map (λ snapshot. IsSomeAnd (slice_get others (number - 1)) (λ from.
    ForksFrom kit from old new snapshot)) (λ snapshot. is_from snapshot new.warehouse kit ≡ true)
    (slice_get all (number - 1)) (λ snapshot taken.
    let fork = (some-out (λ from. ForksFrom kit from old new snapshot) (slice_get others (number - 1)) taken).2 in
    is_from-taken kit snapshot old new fork.job fork.warehouse fork.name) here) 1 olds news forks.each)

module _ (kit : Origin) (lists : Lists) where
  -- those of some partitions are those of any others of the same warehouses
  others-from : (number : ℕ → ℕ) (snapshots : List SnapshotState) (parts others : List PartitionState)
      → length parts ≡ length others
      → ((place : ℕ) → IfSome (slice_get parts place) (IsPartition lists (number place)))
      → ((place : ℕ) → IfSome (slice_get others place) (IsPartition lists (number place)))
      → are_from kit snapshots parts ≡ true → are_from kit snapshots others ≡ true
  others-from number [] [] [] count these those from = refl
  others-from number [] [] (other ∷ others) count these those from = absurd (omega (arith, count))
  others-from number [] (p ∷ parts) others count these those from = absurd (false≢true from)
  others-from number (snapshot ∷ later) [] others count these those from = absurd (false≢true from)
  others-from number (snapshot ∷ later) (p ∷ parts) [] count these those from = absurd (omega (arith, count))
  others-from number (snapshot ∷ later) (p ∷ parts) (other ∷ others) count these those from =
      let both = and_parts (is_from snapshot p.warehouse kit) (are_from kit later parts) from in
      let here : p.warehouse ≡ other.warehouse = (these 0).1 ∙ sym (those 0).1 in
      let first : is_from snapshot other.warehouse kit ≡ true = ap (λ n. is_from snapshot n kit) (sym here) ∙ both.0 in
      let rest = others-from (λ place. number (suc place)) later parts others (omega (arith, count))
      (λ place. these (suc place)) (λ place. those (suc place)) both.1 in
      rw (first, rest) refl

  pub are_from-others : (snapshots : List SnapshotState) (parts others : List PartitionState)
      → ArePartitions lists parts → ArePartitions lists others
      → are_from kit snapshots parts ≡ true → are_from kit snapshots others ≡ true
  are_from-others snapshots parts others these those from =
      others-from suc snapshots parts others (these.count ∙ sym those.count) these.each those.each from
