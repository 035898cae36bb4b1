-- What stays of the partitions of a load, and what is known of them.
use Rattle.std.proofs.Common.{◌≡◌, ◌∙◌, ℕ, suc, List, None, Some, ap, arith, subst}
use Rattle.std.specs.Prelude.{IfSome, Option, slice_get}
use Rattle.hy_rows.specs.Tables.{Lists}
use Rattle.hy_crossing.specs.of_partition.Partition.{PartitionState, Terms, terms_of}
use Rattle.hy_crossing.specs.Crossings.{ArePartitions, HaveNoPart, IsPartition}
use Rattle.hy_crossing.specs.Lists.{Pairwise}
use Rattle.hy_crossing.proofs.PairLaws.{pairs-hold}
use Rattle.hy_forks.specs.Partitions.{AreWhole}
use Rattle.hy_forks.proofs.RelationLaws.{pairs-length}

-- the load, the number and the part of a partition
abbrev pub KeepsPlace : PartitionState → PartitionState → Type 0
KeepsPlace old new = (terms_of new ≡ terms_of old) × (new.part ≡ old.part)

-- what holds of each, by its number
pub numbered-hold : (relation : ℕ → PartitionState → PartitionState → Type 0) (olds news : List PartitionState)
    → Pairwise relation 1 olds news → (one other : ℕ → PartitionState → Type 0)
    → ((number : ℕ) (old new : PartitionState) → relation number old new → one number old → other number new)
    → ((place : ℕ) → IfSome (slice_get olds place) (one (suc place)))
    → (place : ℕ) → IfSome (slice_get news place) (other (suc place))
numbered-hold relation olds news pairs one other leads holds place =
    subst (λ n. IfSome (slice_get news place) (other n)) (omega arith)
    (pairs-hold relation one other leads 1 olds news pairs
    (λ place. subst (λ n. IfSome (slice_get olds place) (one n)) (omega arith) (holds place)) place)

module _ (relation : ℕ → PartitionState → PartitionState → Type 0)
    (keeps : (number : ℕ) (old new : PartitionState) → relation number old new → KeepsPlace old new)
    (olds news : List PartitionState) (pairs : Pairwise relation 1 olds news) where
  pub still-partitions : (lists : Lists) → ArePartitions lists olds → ArePartitions lists news
  still-partitions lists are = record {
    count = pairs-length relation 1 olds news pairs ∙ are.count;
    each =
        numbered-hold relation olds news pairs (IsPartition lists) (IsPartition lists) (λ number old new related is.
        let terms = (keeps number old new related).0 in (
          ap (λ (terms : Terms). terms.load) terms ∙ is.0,
          ap (λ (terms : Terms). terms.warehouse) terms ∙ is.1,
        )) are.each;
  }

  pub still-whole : HaveNoPart olds → HaveNoPart news
  still-whole none =
      numbered-hold relation olds news pairs (λ number p. p.part ≡ None) (λ number p. p.part ≡ None)
      (λ number old new related is. (keeps number old new related).1 ∙ is) none

-- the partition at a place
pub partition-at : (lists : Lists) (parts : List PartitionState) → ArePartitions lists parts → (place : ℕ)
    (p : PartitionState) → slice_get parts place ≡ Some p → IsPartition lists (suc place) p
partition-at lists parts are place p is =
    subst (λ (found : Option PartitionState). IfSome found (IsPartition lists (suc place))) is (are.each place)

-- all of what holds of the partitions of a load
pub as-whole : (lists : Lists) (olds news : List PartitionState) → AreWhole lists olds
    → (ArePartitions lists olds → ArePartitions lists news) → (HaveNoPart olds → HaveNoPart news) → AreWhole lists news
as-whole lists olds news are partitions whole =
    let now = partitions are.partitions in record {
      some = omega (arith, are.some, are.partitions.count, now.count);
      partitions = now;
      whole = whole are.whole;
    }
