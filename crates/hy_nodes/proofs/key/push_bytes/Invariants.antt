use Rattle.std.proofs.Common.{◌≡◌, ◌+◌, ◌++◌, take}
use Rattle.arrayvec.specs.ArrayVec.{array_vec_len}
use Rattle.hy_nodes.proofs.key.push_bytes.Given as goal

-- the bytes so far
abbrev pub invariant-loop-byte : goal.invariant-loop-byte
invariant-loop-byte l = record {
  items : l.key.items ≡ l.fn.key.items ++ take l.byte-index l.bytes;
  len : array_vec_len l.key ≡ array_vec_len l.fn.key + l.byte-index;
}
