use Rattle.std.proofs.Common.{◌≡◌, ◌-◌, ◌≤◌, ◌++◌, flat_map, map, take, drop}
use Rattle.hy_trees.specs.Nodes.{Item, node_at}
use Rattle.hy_trees.specs.Trees.{entries_under}
use Rattle.hy_trees.specs.Searches.{between}
use Rattle.hy_joins.specs.of_nodes.Pages.{nodes_in}
use Rattle.hy_index.specs.Writes.{entry_of}
use Rattle.hy_index.proofs.range.+push_between.Given as goal

abbrev pub decreases-push_between : goal.decreases-push_between
decreases-push_between g l = l.depth

-- the entries of the children from the first place to this one were appended
abbrev pub invariant-loop-place : goal.invariant-loop-place
invariant-loop-place g l = record {
  items : l.entries.items ≡ l.fn.entries.items ++ map (entry_of g.K.Key.key_of_bytes)
      (flat_map (λ (i : Item). between l.low l.high (entries_under (nodes_in l.space l.tree) (l.depth - 1) i.number)) (take (l.place - l.start) (drop l.start (node_at (nodes_in l.space l.tree) l.page).items)));
  done : l.place - l.start ≤ l.end - l.start;
}
