use Rattle.std.proofs.Common.{rules, ◌≡◌, ◌∙◌, ℕ, List, Err, subst}
use Rattle.std.specs.Io.KnownBytes.{Appends}
use Rattle.hy_program.specs.declared.fault.RunFault.TheVariants as fault
use Rattle.hy_program.specs.Check.{HaveRows}
use Rattle.hy_program.specs.Replay.{IsBehind, IsWhyLost, greatest_limits}
use Rattle.hy_program.proofs.CheckLaws.{have_rows, lost_fault, unprinted_fault}
use Rattle.hy_program.proofs.ScriptLaws.{if_err}
use Rattle.hy_program.proofs.check.check_behind.Goals as goal

pub returns-in_err-recovered-clause-fault : goal.returns-in_err-recovered-clause-fault
returns-in_err-recovered-clause-fault g c =
    let refusal = c.in_err-recovered.field-0.0 in
    let lost = subst (λ (given : List ℕ). IsWhyLost greatest_limits c.in_ok-load.load given refusal) c.deref.ensures.value
    c.in_err-recovered.ensures.refused in
    let is : c.from_residual-in_err-recovered.result ≡ Err (fault.Refused refusal) = search rules in
    lost_fault c.args.directory.now c.args.log.now (g.F.FileSystem.files c.args.system.now) (c.args.out.now ≡ c.args.out.now)
    c.in_ok-load.load c.in_ok-load.bytes.items c.in_ok-load.ensures.read refusal lost (search rules)
    c.from_residual-in_err-recovered.result is

pub returns-in_err-write_all-clause-fault : goal.returns-in_err-write_all-clause-fault
returns-in_err-write_all-clause-fault g c =
    let known = g.F.FileSystem.files c.args.system.now in
    let error = c.in_err-write_all.field-0.0 in
    let recovered = c.in_ok-recovered.recovered in
    let behind = subst (λ (given : List ℕ). IsBehind c.in_ok-load.load given recovered.batches recovered.tables) c.deref.ensures.value
    c.in_ok-recovered.ensures.behind in
    let have : HaveRows c.args.directory.now c.args.log.now known recovered.tables =
    have_rows c.args.directory.now c.args.log.now known c.in_ok-load.load c.in_ok-load.bytes.items recovered.batches
    recovered.tables c.in_ok-load.ensures.read behind in
    if_err c.from_residual-in_err-write_all.result
    (unprinted_fault c.args.directory.now c.args.log.now known (c.write_all.new.self ≡ c.args.out.now) recovered.tables have error)
    c.from_residual-in_err-write_all.ensures.1

pub returns-clause-done : goal.returns-clause-done
returns-clause-done g c =
    let known = g.F.FileSystem.files c.args.system.now in
    let before = g.O.Output.contents c.args.out.now in
    let after = g.O.Output.contents c.write_all.new.self in
    let recovered = c.in_ok-recovered.recovered in
    let behind = subst (λ (given : List ℕ). IsBehind c.in_ok-load.load given recovered.batches recovered.tables) c.deref.ensures.value
    c.in_ok-recovered.ensures.behind in
    let have : HaveRows c.args.directory.now c.args.log.now known recovered.tables =
    have_rows c.args.directory.now c.args.log.now known c.in_ok-load.load c.in_ok-load.bytes.items recovered.batches
    recovered.tables c.in_ok-load.ensures.read behind in
    let printed = subst (λ (text : List ℕ). Appends before after text) (c.as_bytes.ensures.value ∙ c.in_ok-lines.ensures)
    c.in_ok-write_all.ensures.bytes in
    (recovered.tables, have, printed)
