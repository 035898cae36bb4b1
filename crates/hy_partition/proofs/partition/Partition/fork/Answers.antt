use Rattle.std.proofs.Common.{subst}
use mathlib.Core.List.{IsPrefix}
use Rattle.hy_partition.specs.Jobs.{Log}
use Rattle.hy_partition.proofs.ForkLaws.{forks-known}
use Rattle.hy_partition.proofs.partition.Partition.fork.Goals as goal

pub returns-in-Ok-clause-forks : goal.returns-in-Ok-clause-forks
returns-in-Ok-clause-forks g c =
    let known : Log = c.args.pass.now.seen in
    let begins = subst (λ (log : Log). IsPrefix known log) c.fork_untold.ensures.log c.tell_client.ensures.begins in
    forks-known g.row.N g.K.World.passes c.args.journal.now.list.log _ known c.args.self.now c.fork_untold.new.self
    c.in-Ok.snapshot begins c.in-Ok.ensures.forks
