use Rattle.std.proofs.Common.{ℕ, refl, sym, subst, arith}
use Rattle.hy_trees.specs.Nodes.{capacity, least_items}
use Rattle.hy_nodes.specs.Pages.{nodes_in}
use Rattle.hy_nodes.proofs.ReachLaws.{LeadsTo-root}
use Rattle.hy_nodes.proofs.WriteLaws.{writes-none}
use Rattle.hy_joins.specs.Pairs.{HasSpare}
use Rattle.hy_joins.proofs.spare_below_root.Goals as goal

pub loop-depth-init : goal.loop-depth-init
loop-depth-init g c =
    let space = c.args.space.now in
    let tree = c.args.tree in
    record {
      writes = writes-none g.row.N tree.segment space c.args.undo.now c.requires.undo_log;
      kept = record { is_tree = c.requires.tree; entries = refl; longer = omega arith; few = omega arith };
      leads = LeadsTo-root g.row.N space tree c.args.key.now c.height-depth.result c.requires.tree c.requires.key c.height-depth.ensures;
      spare = subst (λ (d : ℕ). HasSpare (least_items g.row.N tree.key_bytes) (capacity g.row.N tree.key_bytes) (nodes_in space tree) d 0) (sym c.height-depth.ensures) c.requires.spare;
      pages = refl;
    }
