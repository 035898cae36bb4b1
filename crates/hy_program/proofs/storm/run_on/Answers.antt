use Rattle.std.proofs.Common.{ap}
use Rattle.std.specs.Option.{option_copied}
use Rattle.hy_program.proofs.StormLaws.{kept-unlogged, unlogged}
use Rattle.hy_program.proofs.storm.run_on.Goals as goal

pub returns-in-None-clause-fault : goal.returns-in-None-clause-fault
returns-in-None-clause-fault g c =
    let unwritten = g.F.FileSystem.unwritten c.args.system.now in
    unlogged (option_copied c.args.log) (unwritten, unwritten) c.run_unlogged.result c.run_unlogged.ensures.fault
    (ap option_copied c.in-None.is)

pub returns-in-None-clause-kept : goal.returns-in-None-clause-kept
returns-in-None-clause-kept g c =
    kept-unlogged c.args.load.now (option_copied c.args.log) (g.F.FileSystem.files c.args.system.now)
    c.run_unlogged.result c.run_unlogged.ensures.kept (ap option_copied c.in-None.is)
