-- What came of the life, and of the end of its log.
use Rattle.std.proofs.Common.{◌≡◌, IfErr, rules, subst, sym}
use Rattle.std.specs.Prelude.{MatchOption}
use Rattle.std.proofs.lemmas.Result.{IfErr-weaker}
use Rattle.hy_files.specs.Files.{HasFile}
use Rattle.hy_hyper_service.specs.Rounds.{ServiceState}
use Rattle.hy_hyper_life.specs.Faults.{IsEndFault}
use Rattle.hy_hyper_life.specs.Lives.{IsCutOff, IsLived}
use Rattle.hy_hyper_life.specs.Served.{EndsBadly, start_of}
use Rattle.hy_hyper_life.proofs.EndLaws.{ends-badly}
use Rattle.hy_hyper_life.proofs.serving.serve_log.Goals as goal

pub returns-clause-fault : goal.returns-clause-fault
returns-clause-fault g c =
    let lists = g.K.Loaded.load in
    let path = c.args.path.now in
    let files = g.F.FileSystem.files c.end_log.new.system in
    let before = g.F.FileSystem.unwritten c.args.system.now in
    let after = g.F.FileSystem.unwritten c.end_log.new.system in
    let input = c.args.input.now in
    let later = c.live-log.new.input in
    let life = c.live-log.result in
    let back = life.out in
    let first = start_of c.args.database (g.F.Log.LogOut.told c.args.log) c.args.style (g.O.Output.contents c.args.out.now) in
    let is : c.new-service.result ≡ first = search rules in
    let went = subst (λ (start : ServiceState). MatchOption life.why
    (IsLived 4_096 lists start input later life.log (g.O.Output.contents back))
    (IsCutOff 4_096 lists start input later life.log (g.O.Output.contents back) (g.O.Output.has_failed back))) is
    c.live-log.ensures in
    let fault = IsEndFault life.why (HasFile files path life.log.told.written) (before, after) path in
    let badly = EndsBadly lists first path files (before, after) (input, later) (g.O.Output.contents back)
    (g.O.Output.has_failed back) in
    let all = IfErr-weaker c.end_log.result fault badly (λ why is. ends-badly lists first path files (before, after) (input, later)
    (g.O.Output.contents back) (g.O.Output.has_failed back) life.log life.why why went is) c.end_log.ensures.fault in
    subst (λ (out : g.row.O.Denot). IfErr c.end_log.result (EndsBadly lists first path files (before, after) (input, later)
    (g.O.Output.contents out) (g.O.Output.has_failed out))) (sym c.replace-spare.ensures.after) all
