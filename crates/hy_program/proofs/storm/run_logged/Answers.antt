use Rattle.std.proofs.Common.{rules, ◌≡◌, IfOk, Ok, Option, Result, Some, subst}
use Rattle.hy_schema.specs.declared.refusal.Refusal.{Refusal}
use Rattle.hy_redo.specs.Calls.{LogState}
use Rattle.hy_storm.specs.declared.ending.Figures.{Figures}
use Rattle.hy_storm.specs.Storms.{AreLogged}
use Rattle.hy_program.proofs.StormLaws.{stored}
use Rattle.hy_program.proofs.storm.run_logged.Goals as goal

pub returns-clause-kept : goal.returns-clause-kept
returns-clause-kept g c =
    let figures : Figures = c.in_ok-figures.field-0 in
    let log : LogState = c.in_default-Some.log in
    let is : c.storm.result.0 ≡ Ok figures = search rules in
    let back : c.storm.result.1 ≡ Some log = search rules in
    let told : g.F.Log.LogOut.told c.into_out.result ≡ log.told = search rules in
    let first = subst (λ (r : Result Figures Refusal).
    IfOk r (λ figures. AreLogged c.args.load.now figures c.storm.result.1)) is c.storm.ensures.logged in
    let logged = subst (λ (l : Option LogState). AreLogged c.args.load.now figures l) back first in
    stored c.args.load.now figures log _ (g.F.FileSystem.files c.end_log.new.self) c.args.path.now logged
    told c.in_default-end_log.ensures.bytes
