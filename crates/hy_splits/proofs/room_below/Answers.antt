use Rattle.std.proofs.Common.{refl, arith}
use Rattle.hy_nodes.proofs.ReachLaws.{LeadsTo-root}
use Rattle.hy_nodes.proofs.WriteLaws.{writes-none}
use Rattle.hy_splits.proofs.room_below.Goals as goal

pub loop-depth-init : goal.loop-depth-init
loop-depth-init g c = record {
  writes = writes-none g.row.N c.args.tree.segment c.args.space.now c.args.undo.now c.requires.undo_log;
  kept = record { is_tree = c.requires.tree; entries = refl; longer = omega arith; few = omega arith };
  leads = LeadsTo-root g.row.N c.args.space.now c.args.tree c.args.key.now c.height-depth.result c.requires.tree c.requires.key c.height-depth.ensures;
  room = c.requires.room;
  pages = λ count few fits. fits;
  within = omega (arith, c.height-depth.ensures);
}
