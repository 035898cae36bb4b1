-- So many bytes have the batches before.
use Rattle.std.proofs.Common.{◌≡◌, ◌%◌, ◌^◌, ◌<◌, length, take}
use Rattle.hy_batches.specs.Encoding.{log_bytes}
use Rattle.hy_sound.proofs.lengths.place_of.Given as goal

abbrev pub invariant-loop-place : goal.invariant-loop-place
invariant-loop-place l =
    (l.count.bytes % 2 ^ 64 ≡ length (log_bytes (take l.place l.batches)) % 2 ^ 64) × (l.count.bytes < 2 ^ 64)
