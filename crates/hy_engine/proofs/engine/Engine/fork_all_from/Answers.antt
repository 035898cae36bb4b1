use Rattle.hy_engine.proofs.MineLaws.{mine-of, not-again}
use Rattle.hy_engine.proofs.engine.Engine.fork_all_from.Goals as goal

pub returns-clause-mine : goal.returns-clause-mine
returns-clause-mine g c =
    mine-of g.K.World.passes g.K.Loaded.load c.fork_all_from-forked.new.self c.fork_all_from-forked.result
    c.sound-2.ensures.partitions c.fork_all_from-forked.ensures.own

pub returns-clause-refused : goal.returns-clause-refused
returns-clause-refused g c =
    not-again g.K.World.passes g.K.Loaded.load c.args.self.now c.args.all.now c.in_ok-partitions.partitions
    c.fork_all_from-forked.result c.sound.ensures.partitions c.fork_all_from-forked.ensures.mine
    c.fork_all_from-forked.ensures.refused
