use Rattle.std.proofs.Common.{rules, ◌≡◌}
use Rattle.hy_program.proofs.CheckLaws.{check_fault}
use Rattle.hy_program.proofs.check.check_load.Goals as goal

pub returns-in-Err-clause-fault : goal.returns-in-Err-clause-fault
returns-in-Err-clause-fault g c =
    check_fault c.args.directory.now (g.F.FileSystem.files c.args.system.now) (c.args.out.now ≡ c.args.out.now) c.in-Err.found
    c.of_files.result c.of_files.ensures.about c.in-Err.ensures.load (search rules)
