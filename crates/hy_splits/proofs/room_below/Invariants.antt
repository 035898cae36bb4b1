use Rattle.std.proofs.Common.{◌-◌, ◌<◌, ◌≤◌, length}
use Rattle.hy_trees.specs.Nodes.{capacity, node_at}
use Rattle.hy_trees.specs.Trees.{height_of}
use Rattle.hy_nodes.specs.Pages.{nodes_in}
use Rattle.hy_nodes.specs.Ways.{KeepsEntries, KeepsPages, LeadsTo}
use Rattle.hy_nodes.specs.Writes.{WritesSegment}
use Rattle.hy_splits.proofs.room_below.Given as goal

-- the key leads to this page, which has room, and so many pages were split at most
abbrev pub invariant-loop-depth : goal.invariant-loop-depth
invariant-loop-depth g l = record {
  writes : WritesSegment g.row.N l.tree.segment l.fn.space l.space l.fn.undo l.undo;
  kept : KeepsEntries g.row.N l.tree l.fn.space l.space (height_of (nodes_in l.fn.space l.tree) - l.depth);
  leads : LeadsTo g.row.N l.space l.tree l.key l.depth l.page;
  room : length (node_at (nodes_in l.space l.tree) l.page).items < capacity g.row.N l.tree.key_bytes;
  pages : KeepsPages g.row.N l.tree l.fn.space l.space;
  within : l.depth ≤ height_of (nodes_in l.fn.space l.tree);
}

abbrev pub decreases-loop-depth : goal.decreases-loop-depth
decreases-loop-depth g l = l.depth
