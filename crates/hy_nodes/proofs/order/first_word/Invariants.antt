use Rattle.std.proofs.Common.{◌≡◌, ◌-◌, ◌<◌, ◌^◌, drop}
use Rattle.hy_nodes.specs.Words.{first_word, word_from}
use Rattle.hy_nodes.proofs.order.first_word.Given as goal

-- the bytes that are left, behind the number so far
abbrev pub invariant-loop-place : goal.invariant-loop-place
invariant-loop-place l = record {
  value : word_from (8 - l.place) l.number (drop l.place l.key) ≡ first_word l.key;
  range : l.number < 256 ^ l.place;
}
