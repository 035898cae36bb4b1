use Rattle.std.proofs.Common.{◌≡◌, ◌∙◌, false, ap, refl, subst, sym}
use Rattle.std.proofs.lemmas.Bool.{false≢true}
use Rattle.hy_commands.specs.Commands.{home_of}
use Rattle.hy_engine.specs.Engines.{IsHome, closed, names_several}
use Rattle.hy_engine.proofs.AnswerLaws.{back-homeless, back-untaken}
use Rattle.hy_engine.proofs.engine.Engine.submit.Goals as goal

pub returns-then-not-has_warehouse-clause-refused : goal.returns-then-not-has_warehouse-clause-refused
returns-then-not-has_warehouse-clause-refused g c =
    let home = c.home-home.ensures ∙ ap home_of c.command.ensures in
    let nowhere : IsHome c.args.self.now (home_of c.args.job.command) → ⊥ =
    λ there. false≢true
    (sym c.if-not-has_warehouse.true ∙ c.has_warehouse.ensures.1 (subst (IsHome c.args.self.now) (sym home) there)) in
    back-homeless g.K.Loaded.load c.args.self.now c.args.job.command c.why_homeless.result nowhere c.why_homeless.ensures

pub returns-then-not-is_crossing-clause-refused : goal.returns-then-not-is_crossing-clause-refused
returns-then-not-is_crossing-clause-refused g c =
    let home = c.home-home.ensures ∙ ap home_of c.command.ensures in
    let there = subst (IsHome c.args.self.now) home (c.has_warehouse.ensures.0 c.if-not-has_warehouse.false) in
    let local : names_several c.args.job.command ≡ false =
    sym (c.is_crossing.ensures ∙ ap names_several c.command-2.ensures) ∙ c.if-not-is_crossing.true in
    back-untaken g.K.Loaded.load c.args.self.now c.args.job.command c.wait_in.result there local c.wait_in.ensures.refused

pub returns-then-is_closed-clause-refused : goal.returns-then-is_closed-clause-refused
returns-then-is_closed-clause-refused g c =
    let found = c.is_closed.ensures c.if-is_closed.true in
    closed refl found.0 found.1
