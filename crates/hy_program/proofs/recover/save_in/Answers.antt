use Rattle.std.proofs.Common.{subst}
use Rattle.hy_rows.specs.Tables.{Lists}
use Rattle.hy_tables.specs.Files.{texts_of}
use Rattle.hy_files.specs.Faults.{IsUnwritten}
use Rattle.hy_program.specs.Recover.{with_rows}
use Rattle.hy_program.proofs.RecoverLaws.{unsaved_files}
use Rattle.hy_program.proofs.recover.save_in.Goals as goal

pub returns-clause-fault : goal.returns-clause-fault
returns-clause-fault g c =
    let old = g.F.FileSystem.files c.args.system.now in
    let new = g.F.FileSystem.files c.write_load.new.system in
    let ends = subst (λ (lists : Lists). IsUnwritten old new c.args.directory.now (texts_of lists) c.in-Err.found)
    c.in_ok-behind.ensures.0 c.in-Err.ensures.fault in
    unsaved_files c.args.directory.now (with_rows c.args.load.now c.args.tables) (old, new)
    (g.F.FileSystem.unwritten c.args.system.now, g.F.FileSystem.unwritten c.write_load.new.system) c.in-Err.found
    c.of_files.result c.of_files.ensures.about ends c.in-Err.ensures.unwritten
