-- What was recovered says the same as the batches from which it was.
use Rattle.std.proofs.Common.{◌≡◌, ℕ, suc, ◌<◌, true, List, length, sym, ◌∙◌, arith}
use Rattle.hy_rows.specs.Tables.{Lists}
use Rattle.hy_batches.specs.Batches.{Batch}
use Rattle.hy_batches.specs.Grammar.{are_batches}
use Rattle.hy_forks.specs.of_partition.Jobs.{Log}
use Rattle.hy_forks.specs.of_partition.Partition.{PartitionState, projection_of}
use Rattle.hy_forks.specs.Histories.{IsOneHistory}
use Rattle.hy_forks.specs.Logged.{SaySame}
use Rattle.hy_recovery.specs.Recovering.{AreRecovered, GoesOn, IsRecovered, joined}
use Rattle.hy_recovery.proofs.PlaceLaws.{at-place, get-some}

module _ (lists : Lists) (frames most : ℕ) (batches : List Batch) (log : Log) (parts : List PartitionState)
    (recovered : AreRecovered lists frames most batches parts)
    (history : IsOneHistory (length lists.tables.warehouses) log parts) where
  -- what was recovered of a warehouse is what its history has
  joined-is : (place : ℕ) → place < length lists.tables.warehouses → joined batches place ≡ projection_of (suc place) log
  joined-is place within =
      let found = get-some parts place (omega (arith, within, recovered.count)) in
      let here = at-place (IsRecovered lists frames most (joined batches place) (suc place)) parts place found.0 found.1
      (recovered.each place) in
      let kept = at-place (λ (p : PartitionState). p.kept ≡ projection_of (suc place) log) parts place found.0 found.1
      (history.kept place) in
      sym here.kept ∙ kept

  pub recovered-same : are_batches batches ≡ true → GoesOn lists batches log → SaySame lists batches log
  recovered-same told numbers =
      record { serial = history.serial; told = told; numbers = numbers; joined_are = joined-is }
