-- What was run over several warehouses, or by the home, was run behind the look whether the home is there.
use Rattle.std.proofs.Common.{◌∙◌, ap, subst, sym}
use Rattle.std.specs.Prelude.{is_some}
use Rattle.hy_events.specs.Replies.{reply_text}
use Rattle.hy_script.specs.declared.answer.Request.TheVariants as requests
use Rattle.hy_script.specs.Answers.{Asks}
use Rattle.hy_script.specs.Databases.{part_at}
use Rattle.hy_script.proofs.HomeLaws.{run-across, run-at_home}
use Rattle.hy_script.proofs.ResultLaws.{on_ok}
use Rattle.hy_script.proofs.event.run.Goals as goal

pub returns-then-is_crossing-clause-answered : goal.returns-then-is_crossing-clause-answered
returns-then-is_crossing-clause-answered g c =
    let there = ap (λ home. is_some (part_at c.args.database.now home)) (sym c.home-home.ensures)
    ∙ sym c.has_warehouse.ensures ∙ c.if-not-has_warehouse.false in
    let whole = run-across c.args.command c.args.database.now c.cross-reply.new.self there
    (sym c.is_crossing.ensures ∙ c.if-is_crossing.true) c.cross-reply.result c.cross-reply.ensures in
    on_ok c.write_reply.result c.write_reply.ensures.written (λ written. (reply_text c.cross-reply.result, whole, written))

pub returns-clause-answered : goal.returns-clause-answered
returns-clause-answered g c =
    let there = ap (λ home. is_some (part_at c.args.database.now home)) (sym c.home-home.ensures)
    ∙ sym c.has_warehouse.ensures ∙ c.if-not-has_warehouse.false in
    let one = sym c.is_crossing.ensures ∙ c.if-is_crossing.false in
    on_ok c.ask.result c.ask.ensures.asked (λ asked. (
      asked.0,
      run-at_home c.args.command c.args.database.now c.ask.new.self there one asked.0
          (subst (λ home. Asks home (requests.Run c.args.command) c.args.database.now c.ask.new.self asked.0)
          c.home-home.ensures asked.1),
      asked.2,
    ))
