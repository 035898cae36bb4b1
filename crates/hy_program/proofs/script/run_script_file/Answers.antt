use Rattle.std.proofs.Common.{◌≡◌, IsTrue}
use Rattle.hy_program.proofs.ScriptLaws.{blamed_rightly, if_err, script_fault}
use Rattle.hy_program.proofs.script.run_script_file.Goals as goal

pub returns-in_err-run_script-clause-fault : goal.returns-in_err-run_script-clause-fault
returns-in_err-run_script-clause-fault g c =
    let why = rw c.as_slice.ensures.value at c.in_err-run_script.ensures.fault in
    if_err c.from_residual-in_err-run_script.result
    (script_fault c.args.directory.now c.args.file.now (g.F.FileSystem.files c.args.system.now) c.args.limits c.in_ok-load.load
    c.in_ok-load.script.items (g.O.Output.contents c.args.out.now) (g.O.Output.contents c.run_script.new.out)
    (c.run_script.new.out ≡ c.args.out.now) (IsTrue (g.O.Output.has_failed c.run_script.new.out)) c.in_ok-load.ensures.read c.in_err-run_script.field-0.0 why)
    c.from_residual-in_err-run_script.ensures.1

pub returns-in_err-run_script-clause-failed : goal.returns-in_err-run_script-clause-failed
returns-in_err-run_script-clause-failed g c =
    let why = rw c.as_slice.ensures.value at c.in_err-run_script.ensures.fault in
    let limits = c.args.limits in
    if_err c.from_residual-in_err-run_script.result
    (blamed_rightly 4_096 c.in_ok-load.load limits.frames limits.kept c.in_ok-load.script.items
    (g.O.Output.contents c.args.out.now) (g.O.Output.contents c.run_script.new.out)
    (c.run_script.new.out ≡ c.args.out.now) (g.O.Output.has_failed c.run_script.new.out) c.in_err-run_script.field-0.0 why)
    c.from_residual-in_err-run_script.ensures.1
