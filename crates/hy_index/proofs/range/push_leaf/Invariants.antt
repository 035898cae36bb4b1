use Rattle.std.proofs.Common.{◌≡◌, ◌+◌, ◌-◌, ◌≤◌, ◌++◌, map}
use Rattle.hy_joins.specs.of_nodes.Nodes.{first_items, item_at}
use Rattle.hy_index.specs.Writes.{entry_of}
use Rattle.hy_index.proofs.range.push_leaf.Given as goal

-- the entries from the first place to this one were appended
abbrev pub invariant-loop-place : goal.invariant-loop-place
invariant-loop-place g l = record {
  items : l.entries.items ≡ l.fn.entries.items ++ map (entry_of g.K.Key.key_of_bytes) (first_items (λ i. item_at g.K.Key.BYTES l.items (l.start + i)) (l.place - l.start));
  done : l.place - l.start ≤ l.end - l.start;
}
