use Rattle.std.proofs.Common.{rules, ◌≡◌, ◌∙◌, ℕ, List, Err, IfErr, refl, subst}
use Rattle.std.specs.Io.KnownBytes.{Appends}
use Rattle.std.specs.Option.{option_copied}
use Rattle.hy_files.specs.Files.{FilesByPath, KnownPaths}
use Rattle.std.specs.Prelude.{Option}
use Rattle.hy_program.specs.declared.fault.RunFault.TheVariants as fault
use Rattle.hy_program.specs.Recover.{IsFound, IsSaveFault, recover_limits, with_rows}
use Rattle.hy_program.specs.Replay.{IsBehind, IsWhyLost}
use Rattle.hy_program.proofs.RecoverLaws.{done_by, keeps_folder, lost_fault, save_fault_by, writer_fault}
use Rattle.hy_program.proofs.recover.run_recover.Goals as goal

pub returns-in_err-recovered-clause-files : goal.returns-in_err-recovered-clause-files
returns-in_err-recovered-clause-files g c =
    keeps_folder (option_copied c.args.into) (g.F.FileSystem.files c.args.system.now) (g.F.FileSystem.files c.read_all.new.system)
    c.in_ok-load.ensures.files

pub returns-in_err-recovered-clause-fault : goal.returns-in_err-recovered-clause-fault
returns-in_err-recovered-clause-fault g c =
    let refusal = c.in_err-recovered.field-0.0 in
    let lost = subst (λ (given : List ℕ). IsWhyLost recover_limits c.in_ok-load.load given refusal) c.deref.ensures.value
    c.in_err-recovered.ensures.refused in
    let is : c.from_residual-in_err-recovered.result ≡ Err (fault.Refused refusal) = search rules in
    let bytes = g.O.Output.contents c.args.out.now in
    lost_fault c.args.directory.now c.args.log.now
    (g.F.FileSystem.files c.args.system.now, g.F.FileSystem.files c.read_all.new.system)
    (g.F.FileSystem.unwritten c.args.system.now, g.F.FileSystem.unwritten c.read_all.new.system) (bytes, bytes)
    (c.args.out.now ≡ c.args.out.now) (option_copied c.args.into) c.in_ok-load.load c.in_ok-load.bytes.items
    c.in_ok-load.ensures.read refusal lost c.in_ok-load.ensures.files refl c.from_residual-in_err-recovered.result is

pub returns-in_err-text-clause-files : goal.returns-in_err-text-clause-files
returns-in_err-text-clause-files g c =
    keeps_folder (option_copied c.args.into) (g.F.FileSystem.files c.args.system.now) (g.F.FileSystem.files c.read_all.new.system)
    c.in_ok-load.ensures.files

pub returns-in_err-write_all-clause-files : goal.returns-in_err-write_all-clause-files
returns-in_err-write_all-clause-files g c =
    keeps_folder (option_copied c.args.into) (g.F.FileSystem.files c.args.system.now) (g.F.FileSystem.files c.read_all.new.system)
    c.in_ok-load.ensures.files

pub returns-in_err-write_all-clause-fault : goal.returns-in_err-write_all-clause-fault
returns-in_err-write_all-clause-fault g c =
    let error = c.in_err-write_all.field-0.0 in
    let is : c.from_residual-in_err-write_all.result ≡ Err (fault.Writer error) = search rules in
    writer_fault c.args.directory.now c.args.log.now
    (g.F.FileSystem.files c.args.system.now, g.F.FileSystem.files c.read_all.new.system)
    (g.F.FileSystem.unwritten c.args.system.now, g.F.FileSystem.unwritten c.read_all.new.system)
    (g.O.Output.contents c.args.out.now, g.O.Output.contents c.write_all.new.self)
    (c.write_all.new.self ≡ c.args.out.now) (option_copied c.args.into) c.in_ok-load.load c.in_ok-load.bytes.items
    c.in_ok-load.ensures.read c.in_ok-load.ensures.files error c.from_residual-in_err-write_all.result is

pub returns-clause-done : goal.returns-clause-done
returns-clause-done g c =
    let known = g.F.FileSystem.files c.args.system.now in
    let before = g.O.Output.contents c.args.out.now in
    let after = g.O.Output.contents c.write_all.new.self in
    let load = c.in_ok-load.load in
    let recovered = c.in_ok-recovered.recovered in
    let behind = subst (λ (given : List ℕ). IsBehind load given recovered.batches recovered.tables) c.deref.ensures.value
    c.in_ok-recovered.ensures.behind in
    let printed = subst (λ (text : List ℕ). Appends before after text) (c.as_bytes.ensures.value ∙ c.in_ok-text.ensures)
    c.in_ok-write_all.ensures.bytes in
    let found : IsFound c.args.directory.now c.args.log.now known before after load recovered.tables = record {
      bytes = c.in_ok-load.bytes.items;
      count = recovered.batches;
      read = c.in_ok-load.ensures.read;
      behind = behind;
      printed = printed;
    } in
    done_by c.args.directory.now c.args.log.now (option_copied c.args.into) known (g.F.FileSystem.files c.read_all.new.system)
    (g.F.FileSystem.files c.save.new.system) (before, after) load recovered.tables found c.in_ok-load.ensures.files c.save.result
    c.save.ensures.saved

pub returns-clause-fault : goal.returns-clause-fault
returns-clause-fault g c =
    let known = g.F.FileSystem.files c.args.system.now in
    let new = g.F.FileSystem.files c.save.new.system in
    let first = g.F.FileSystem.unwritten c.args.system.now in
    let last = g.F.FileSystem.unwritten c.save.new.system in
    let before = g.O.Output.contents c.args.out.now in
    let after = g.O.Output.contents c.write_all.new.self in
    let into = option_copied c.args.into in
    let load = c.in_ok-load.load in
    let recovered = c.in_ok-recovered.recovered in
    let behind = subst (λ (given : List ℕ). IsBehind load given recovered.batches recovered.tables) c.deref.ensures.value
    c.in_ok-recovered.ensures.behind in
    let printed = subst (λ (text : List ℕ). Appends before after text) (c.as_bytes.ensures.value ∙ c.in_ok-text.ensures)
    c.in_ok-write_all.ensures.bytes in
    let found : IsFound c.args.directory.now c.args.log.now known before after load recovered.tables = record {
      bytes = c.in_ok-load.bytes.items;
      count = recovered.batches;
      read = c.in_ok-load.ensures.read;
      behind = behind;
      printed = printed;
    } in
    let same = subst (λ (it : Option FilesByPath). IfErr c.save.result (IsSaveFault into (with_rows load recovered.tables) (it, new)
    (g.F.FileSystem.unwritten c.read_all.new.system, last))) c.in_ok-load.ensures.files c.save.ensures.fault in
    let is = subst (λ (it : KnownPaths). IfErr c.save.result (IsSaveFault into (with_rows load recovered.tables) (known, new)
    (it, last))) c.in_ok-load.ensures.unwritten same in
    save_fault_by c.args.directory.now c.args.log.now (known, new) (first, last) (before, after)
    (c.write_all.new.self ≡ c.args.out.now) into load recovered.tables found c.save.result is
