-- Partitions that were recovered, and told of the serial list, are at rest.
use Rattle.std.proofs.Common.{◌<◌, ℕ, zero, suc, List, [], ◌∷◌, length, slice_get, Option, None, Some, ap, ◌∙◌, arith}
use Rattle.std.specs.Prelude.{IfSome, slice_index_or}
use Rattle.hy_rows.specs.Tables.{Lists}
use Rattle.hy_batches.specs.Batches.{Batch}
use Rattle.hy_commands.specs.declared.command.Commit.{Commit}
use Rattle.hy_forks.specs.Drains.{TellsHere}
use Rattle.hy_forks.specs.Lists.{Pairwise}
use Rattle.hy_forks.specs.of_partition.Jobs.{Log}
use Rattle.hy_forks.specs.of_partition.Partition.{PartitionState}
use Rattle.hy_recovery.specs.Recovering.{AreRecovered, IsRecovered, joined}
use Rattle.hy_script.specs.Databases.{IsAtRest}

-- nothing runs there, no answer waits, and this is its limit on frames
rests-when : (lists : Lists) (frames most : ℕ) (commits : List Commit) (number : ℕ) (found : Option PartitionState)
    → IfSome found (IsRecovered lists frames most commits number) → IfSome found (IsAtRest frames)
rests-when lists frames most commits number None is = tt
rests-when lists frames most commits number (Some p) is =
    record { running = is.running; finished = is.finished; max_frames = is.max_frames }

-- also once they were told
told-rests : (frames : ℕ) (log : Log) (number : ℕ) (olds news : List PartitionState)
    → Pairwise (TellsHere log) number olds news → ((place : ℕ) → IfSome (slice_get olds place) (IsAtRest frames))
    → (place : ℕ) (other : PartitionState) → place < length news → IsAtRest frames (slice_index_or news place other)
told-rests frames log number [] [] pairs each place other within = absurd (omega (arith, within))
told-rests frames log number [] (new ∷ news) pairs each place other within = absurd pairs
told-rests frames log number (old ∷ olds) [] pairs each place other within = absurd pairs
told-rests frames log number (old ∷ olds) (new ∷ news) pairs each zero other within =
    let is = pairs.0.0 in
    let was = each 0 in record {
      running = ap (λ (p : PartitionState). p.running) is ∙ was.running;
      finished = ap (λ (p : PartitionState). p.finished) is ∙ was.finished;
      max_frames = ap (λ (p : PartitionState). p.space.frames.max) is ∙ was.max_frames;
    }
told-rests frames log number (old ∷ olds) (new ∷ news) pairs each (suc place) other within =
    told-rests frames log (suc number) olds news pairs.1 (λ place. each (suc place)) place other (omega (arith, within))

pub recovered-rest : (lists : Lists) (frames most : ℕ) (batches : List Batch) (log : Log) (olds news : List PartitionState)
    → AreRecovered lists frames most batches olds → Pairwise (TellsHere log) 1 olds news → (place : ℕ)
    (other : PartitionState) → place < length news → IsAtRest frames (slice_index_or news place other)
recovered-rest lists frames most batches log olds news are told =
    told-rests frames log 1 olds news told
    (λ place. rests-when lists frames most (joined batches place) (suc place) (slice_get olds place) (are.each place))
