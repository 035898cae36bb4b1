-- What holds of the batches that were read from a log.
use Rattle.std.specs.Prelude.{◌≡◌, ℕ, true, List, length}
use Rattle.hy_batches.specs.Batches.{Batch}
use Rattle.hy_batches.specs.Encoding.{log_bytes}
use Rattle.hy_batches.specs.Grammar.{are_batches}

-- they are batches of a log, and have so many bytes
pub record AreBatches (batches : List Batch) (bytes : ℕ) : Type 0 where
  pub whole : are_batches batches ≡ true
  pub bytes_are : bytes ≡ length (log_bytes batches)
