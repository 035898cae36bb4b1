use Rattle.hy_engine.proofs.MineLaws.{mine-of, unseen}
use Rattle.hy_engine.proofs.engine.Engine.fork_all.Goals as goal

pub returns-clause-mine : goal.returns-clause-mine
returns-clause-mine g c =
    mine-of g.K.World.passes g.K.Loaded.load c.fork_all-forked.new.self c.fork_all-forked.result
    c.sound-2.ensures.partitions c.fork_all-forked.ensures.mine

pub returns-clause-refused : goal.returns-clause-refused
returns-clause-refused g c =
    unseen g.K.Loaded.load c.args.self.now c.in_ok-partitions.partitions c.fork_all-forked.result
    c.sound.ensures.partitions c.fork_all-forked.ensures.refused
