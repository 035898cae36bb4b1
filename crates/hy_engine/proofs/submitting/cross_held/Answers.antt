use Rattle.hy_engine.proofs.AnswerLaws.{answered-in-all}
use Rattle.hy_engine.proofs.submitting.cross_held.Goals as goal

pub new-requires : goal.new-requires
new-requires g c =
    answered-in-all g.K.Loaded.load c.args.job c.cross.result c.requires.new c.args.journal.now.list.log
    c.cross.new.journal.list.log c.args.partitions.now c.cross.new.self c.sound.ensures c.cross.ensures.crosses
