use Rattle.std.proofs.Common.{◌≡◌, ◌<◌, ◌^◌, drop}
use Rattle.hy_index.specs.KeyBytes.{high_number_from, high_number_of}
use Rattle.hy_index.proofs.codec.number.Given as goal

-- the bytes that are left, behind the number so far
abbrev pub invariant-loop-byte : goal.invariant-loop-byte
invariant-loop-byte l = record {
  value : high_number_from l.number (drop l.byte-index l.bytes) ≡ high_number_of l.bytes;
  range : l.number < 256 ^ l.byte-index;
}
