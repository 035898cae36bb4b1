use Rattle.std.proofs.Common.{rules}
use Rattle.hy_session.specs.of_partition.Partition.{PartitionState}
use Rattle.hy_session.specs.of_crossing.Crossings.{EndsJob}
use Rattle.hy_script.specs.Steps.{IsBegun}
use Rattle.hy_script.proofs.ChangesLaws.{changes-then}
use Rattle.hy_script.proofs.terminal.Terminal.run.Goals as goal

pub returns : goal.returns
returns g c =
    let place = c.args.place in
    let olds = c.args.partitions.now in
    let enders = c.finish_running.new.self in
    let ended = changes-then _ _ (λ p ended. (middle : PartitionState) × IsBegun c.args.command p middle
    × EndsJob c.args.journal.now.list.log c.finish_running.new.journal.list.log middle ended) place olds
    c.begin.new.partitions enders c.requires.there (λ p middle ended begun ends. (middle, begun.0, ends))
    c.in_default.ensures.begun c.finish_running.ensures in
    record {
      runs = changes-then _ _ _ place olds enders c.take_reply.new.partitions c.requires.there
          (λ p ended q done taken. search rules) ended c.in-Some.ensures.taken;
    }
