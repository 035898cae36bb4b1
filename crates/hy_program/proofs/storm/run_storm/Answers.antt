use Rattle.std.proofs.Common.{rules, ◌≡◌, Err, refl, subst}
use Rattle.std.specs.Option.{option_copied}
use Rattle.hy_files.specs.Files.{KnownPaths}
use Rattle.hy_program.specs.Storm.{IsNoStorm}
use Rattle.hy_program.proofs.StormLaws.{no_storm, refused_by, storm_fault}
use Rattle.hy_program.proofs.storm.run_storm.Goals as goal

pub returns-in-Err-clause-fault : goal.returns-in-Err-clause-fault
returns-in-Err-clause-fault g c =
    let bytes = g.O.Output.contents c.args.out.now in
    storm_fault c.args.directory.now (option_copied c.args.log) (g.F.FileSystem.files c.args.system.now)
    (g.F.FileSystem.unwritten c.args.system.now, g.F.FileSystem.unwritten c.read_load.new.system) bytes bytes
    (c.args.out.now ≡ c.args.out.now)
    c.in-Err.found c.of_files.result c.of_files.ensures.about c.in-Err.ensures.load (search rules)

-- there was no storm on the load
pub returns-in_err-figures-clause-fault : goal.returns-in_err-figures-clause-fault
returns-in_err-figures-clause-fault g c =
    let known = g.F.FileSystem.files c.args.system.now in
    let first = g.F.FileSystem.unwritten c.args.system.now in
    let last = g.F.FileSystem.unwritten c.run_on.new.system in
    let bytes = g.O.Output.contents c.args.out.now in
    let log = option_copied c.args.log in
    let why = c.in_err-figures.field-0.0 in
    let none = subst (λ (it : KnownPaths). IsNoStorm log (it, last) why) c.in-Ok.ensures.unwritten
    c.in_err-figures.ensures.fault in
    let is : c.from_residual.result ≡ Err why = search rules in
    refused_by c.args.directory.now log known (first, last) bytes bytes (c.args.out.now ≡ c.args.out.now)
    c.from_residual.result why
    (no_storm c.args.directory.now log known (first, last) bytes bytes (c.args.out.now ≡ c.args.out.now) c.in-Ok.load
    c.in-Ok.ensures.load why none refl) is
