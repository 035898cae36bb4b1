-- Partitions that were told the whole serial list.
use Rattle.std.proofs.Common.{◌≡◌, ◌∙◌, ℕ, suc, List, ap}
use Rattle.std.specs.Prelude.{IfSome, slice_get}
use Rattle.hy_rows.specs.Tables.{Lists}
use Rattle.hy_crossing.specs.of_partition.Jobs.{Log}
use Rattle.hy_crossing.specs.of_partition.Partition.{PartitionState, projection_of, terms_of}
use Rattle.hy_crossing.specs.Crossings.{ArePartitions, HaveNoPart, IsPartition}
use Rattle.hy_crossing.specs.Lists.{Pairwise}
use Rattle.hy_forks.specs.Drains.{TellsHere}
use Rattle.hy_forks.proofs.PartsLaws.{KeepsPlace, numbered-hold, still-partitions, still-whole}

module _ (lists : Lists) (log : Log) (olds news : List PartitionState) (are : ArePartitions lists olds) where
  pub told-kept : Pairwise (TellsHere log) 1 olds news
      → (place : ℕ) → IfSome (slice_get news place) (λ p. p.kept ≡ projection_of (suc place) log)
  told-kept pairs =
      numbered-hold (TellsHere log) olds news pairs (IsPartition lists) (λ number p. p.kept ≡ projection_of number log)
      (λ number old new tells is. ap (λ (p : PartitionState). p.kept) tells.0 ∙ tells.1
      ∙ ap (λ w. projection_of w log) is.1) are.each

  module _ (pairs : Pairwise (TellsHere log) 1 olds news) where
    keeps-told : (number : ℕ) (old new : PartitionState) → TellsHere log number old new → KeepsPlace old new
    keeps-told number old new tells = (ap terms_of tells.0, ap (λ (p : PartitionState). p.part) tells.0)

    pub told-partitions : ArePartitions lists news
    told-partitions = still-partitions (TellsHere log) keeps-told olds news pairs lists are

    pub told-whole : HaveNoPart olds → HaveNoPart news
    told-whole none = still-whole (TellsHere log) keeps-told olds news pairs none
