use Rattle.std.proofs.Common.{◌≡◌, ◌+◌, ◌++◌, take}
use Rattle.arrayvec.specs.ArrayVec.{array_vec_len}
use Rattle.hy_nodes.proofs.pages.push_all.Given as goal

-- the bytes so far
abbrev pub invariant-loop-byte : goal.invariant-loop-byte
invariant-loop-byte l = record {
  items : l.item.items ≡ l.fn.item.items ++ take l.byte-index l.bytes;
  len : array_vec_len l.item ≡ array_vec_len l.fn.item + l.byte-index;
}
