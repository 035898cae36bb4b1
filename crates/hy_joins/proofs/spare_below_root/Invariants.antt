use Rattle.std.proofs.Common.{◌≡◌}
use Rattle.hy_space.specs.Space.{page_count}
use Rattle.hy_trees.specs.Nodes.{capacity, least_items}
use Rattle.hy_nodes.specs.Pages.{nodes_in}
use Rattle.hy_nodes.specs.Ways.{KeepsEntries, LeadsTo}
use Rattle.hy_nodes.specs.Writes.{WritesSegment}
use Rattle.hy_joins.specs.Pairs.{HasSpare}
use Rattle.hy_joins.proofs.spare_below_root.Given as goal

-- the key leads to this page, which has an item to spare, and the tree has the entries that it had
abbrev pub invariant-loop-depth : goal.invariant-loop-depth
invariant-loop-depth g l = record {
  writes : WritesSegment g.row.N l.tree.segment l.fn.space l.space l.fn.undo l.undo;
  kept : KeepsEntries g.row.N l.tree l.fn.space l.space 0;
  leads : LeadsTo g.row.N l.space l.tree l.key l.depth l.page;
  spare : HasSpare (least_items g.row.N l.tree.key_bytes) (capacity g.row.N l.tree.key_bytes) (nodes_in l.space l.tree) l.depth l.page;
  pages : page_count l.space l.tree.segment ≡ page_count l.fn.space l.tree.segment;
}

abbrev pub decreases-loop-depth : goal.decreases-loop-depth
decreases-loop-depth g l = l.depth
