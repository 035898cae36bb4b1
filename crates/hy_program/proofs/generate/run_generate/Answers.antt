use Rattle.std.proofs.Common.{rules, ◌≡◌, Result, Err, IfErr, sym, subst}
use Rattle.hy_rows.specs.Tables.{Lists}
use Rattle.hy_tables.specs.Files.{texts_of}
use Rattle.hy_files.specs.Directory.{AreFiles, tables}
use Rattle.hy_files.specs.Faults.{IsUnwritten}
use Rattle.hy_program.specs.declared.fault.RunFault.{RunFault}
use Rattle.hy_program.specs.declared.fault.RunFault.TheVariants as fault
use Rattle.hy_program.specs.Generate.{IsGenerateFault}
use Rattle.hy_program.proofs.GenerateLaws.{generate_fault, ok_is_no_err, true_unless_false}
use Rattle.hy_program.proofs.generate.run_generate.Goals as goal

pub returns-in-Err-clause-fault : goal.returns-in-Err-clause-fault
returns-in-Err-clause-fault g c =
    let old = g.F.FileSystem.files c.args.system.now in
    let new = g.F.FileSystem.files c.write_load.new.system in
    let unwritten =
    subst (λ (lists : Lists). IsUnwritten old new c.args.directory.now (texts_of lists) c.in-Err.found)
    c.in_ok-load.ensures.load c.in-Err.ensures.fault in
    generate_fault c.args.directory.now c.args.size old new
    (g.F.FileSystem.unwritten c.args.system.now, g.F.FileSystem.unwritten c.write_load.new.system) (c.args.out.now ≡ c.args.out.now)
    c.in-Err.found c.of_files.result c.of_files.ensures.about unwritten c.in-Err.ensures.unwritten
    (true_unless_false _ (λ out. ok_is_no_err _ _ (c.in_ok-load.ensures.out_of_range.1 out))) (search rules)

pub returns-in_err-writeln-clause-fault : goal.returns-in_err-writeln-clause-fault
returns-in_err-writeln-clause-fault g c =
    let old = g.F.FileSystem.files c.args.system.now in
    let new = g.F.FileSystem.files c.write_load.new.system in
    let is : c.from_residual-in_err-writeln.result ≡ Err (fault.Writer c.in_err-writeln.field-0.0) = search rules in
    let written =
    subst (λ (lists : Lists). AreFiles new c.args.directory.now tables (texts_of lists))
    c.in_ok-load.ensures.load c.in_default.ensures.files in
    subst (λ (r : Result (Unit {0}) RunFault). IfErr r (IsGenerateFault c.args.directory.now c.args.size (old, new)
    (g.F.FileSystem.unwritten c.args.system.now, g.F.FileSystem.unwritten c.write_load.new.system) (c.writeln.new.self ≡ c.args.out.now)))
    (sym is) (true_unless_false _ (λ out. ok_is_no_err _ _ (c.in_ok-load.ensures.out_of_range.1 out)), written)
