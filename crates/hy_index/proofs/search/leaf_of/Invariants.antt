use Rattle.std.proofs.Common.{◌≡◌, ◌+◌, ◌^◌, ◌<◌, ◌≤◌}
use Rattle.hy_joins.specs.of_nodes.Pages.{nodes_in}
use Rattle.hy_trees.specs.Trees.{height_of}
use Rattle.hy_joins.specs.of_nodes.Ways.{LeadsTo}
use Rattle.hy_index.proofs.search.leaf_of.Given as goal

-- the key leads to this page, and so many pages were read
abbrev pub invariant-loop-depth : goal.invariant-loop-depth
invariant-loop-depth g l = record {
  leads : LeadsTo g.row.N l.space l.tree l.key l.depth l.page;
  count : l.reads + l.depth ≤ l.fn.reads + height_of (nodes_in l.space l.tree) + 1;
  counted : l.fn.reads + (height_of (nodes_in l.space l.tree) + 1) < 2 ^ 64 → l.reads + l.depth ≡ l.fn.reads + (height_of (nodes_in l.space l.tree) + 1);
}

abbrev pub decreases-loop-depth : goal.decreases-loop-depth
decreases-loop-depth g l = l.depth
