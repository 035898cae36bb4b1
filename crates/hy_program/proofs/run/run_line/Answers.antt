-- Why a service isn't served, by the limits and the style that the words give.
use Rattle.std.proofs.Common.{◌≡◌, IfErr, subst, sym}
use Rattle.hy_cli.specs.declared.words.Line.{Line}
use Rattle.hy_hyper_life.specs.declared.serving.Terms.{Terms}
use Rattle.hy_program.specs.Runs.{BothPaths, IsFaultOf, KnownBytes, KnownFiles}
use Rattle.hy_program.specs.Serve.{IsServeFaultOf}
use Rattle.hy_program.proofs.run.run_line.Goals as goal

pub returns-in-Serve-clause-fault : goal.returns-in-Serve-clause-fault
returns-in-Serve-clause-fault g c =
    let words = c.in-Serve in
    let files : KnownFiles = (g.F.FileSystem.files c.args.system.now, g.F.FileSystem.files c.run_serve.new.system) in
    let unwritten : BothPaths =
    (g.F.FileSystem.unwritten c.args.system.now, g.F.FileSystem.unwritten c.run_serve.new.system) in
    let bytes : KnownBytes = (g.O.Output.contents c.args.out.now, g.O.Output.contents c.run_serve.new.out) in
    let coming = g.I.Read.remaining c.args.input in
    let unprinted = c.run_serve.new.out ≡ c.args.out.now in
    let fault = subst (λ (terms : Terms). IfErr c.run_serve.result (IsServeFaultOf words.directory.now words.log.now terms
    files unwritten coming bytes unprinted)) c.terms_of-terms.ensures c.run_serve.ensures.fault in
    subst (λ (line : Line). IfErr c.run_serve.result (IsFaultOf line files unwritten coming bytes unprinted)) (sym words.is)
    fault
