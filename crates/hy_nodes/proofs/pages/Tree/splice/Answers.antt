use Rattle.hy_nodes.proofs.WriteLaws.{out_of_frames-call}
use Rattle.hy_nodes.proofs.pages.Tree.splice.Goals as goal

pub returns-clause-no_frame : goal.returns-clause-no_frame
returns-clause-no_frame g c failed =
    out_of_frames-call g.row.N c.args.self.segment c.args.page c.args.space.now c.splice.new.space c.args.undo.now c.splice.new.self c.splice.result _ c.sound.ensures c.requires.page c.splice.ensures.full.0 c.splice.ensures.err failed
