-- What the answer to the command tells.
use Rattle.std.proofs.Common.{sym, ◌∙◌}
use Rattle.hy_recovery.proofs.LocalLaws.{enters-one, has-ended, lacked}
use Rattle.hy_recovery.proofs.ResultLaws.{err-gives, ok-then}
use Rattle.hy_recovery.proofs.running.run_local.Goals as goal

pub returns-clause-log : goal.returns-clause-log
returns-clause-log g c =
    let p = c.args.part.now in
    let ended = c.finish_running.new.self in
    let before = c.args.journal.now.list.log in
    let after = c.finish_running.new.journal.list.log in
    let how = has-ended p c.begin.new.self ended c.of_edition.result _ before after c.in_default.ensures.begun
    c.of_edition.ensures c.finish_running.ensures in
    ok-then c.pass_of.result _ _ c.pass_of.ensures.accepted (λ pass is.
    enters-one c.args.edition c.args.command c.args.pass p ended c.take_done.new.self before after c.requires.can how
    c.in-Some.done (sym c.take_done.ensures.taken ∙ c.in-Some.is) is.1 c.take_done.ensures.after)

pub returns-clause-refused : goal.returns-clause-refused
returns-clause-refused g c =
    let p = c.args.part.now in
    let ended = c.finish_running.new.self in
    let before = c.args.journal.now.list.log in
    let after = c.finish_running.new.journal.list.log in
    let how = has-ended p c.begin.new.self ended c.of_edition.result _ before after c.in_default.ensures.begun
    c.of_edition.ensures c.finish_running.ensures in
    err-gives c.pass_of.result _ _ c.pass_of.ensures.refused (λ why is.
    lacked c.args.edition c.args.command c.args.pass p ended c.take_done.new.self before after c.requires.can how
    c.in-Some.done (sym c.take_done.ensures.taken ∙ c.in-Some.is) g.row.N c.headline.ensures why is)
