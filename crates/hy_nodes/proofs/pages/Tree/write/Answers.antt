use Rattle.hy_nodes.proofs.WriteLaws.{out_of_frames-call}
use Rattle.hy_nodes.proofs.pages.Tree.write.Goals as goal

pub returns-clause-no_frame : goal.returns-clause-no_frame
returns-clause-no_frame g c failed =
    out_of_frames-call g.row.N c.args.self.segment c.args.page c.args.space.now c.write.new.space c.args.undo.now c.write.new.self c.write.result _ c.sound.ensures c.requires.page c.write.ensures.full.0 c.write.ensures.err failed
