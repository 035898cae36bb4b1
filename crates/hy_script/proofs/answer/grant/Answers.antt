use Rattle.std.proofs.Common.{rules}
use Rattle.hy_session.proofs.of_crossing.PlaceLaws.{holds-at}
use Rattle.hy_script.specs.inside.Invariants.{IsServed}
use Rattle.hy_script.proofs.ChangesLaws.{changes-known, changes-map, changes-none}
use Rattle.hy_script.proofs.answer.grant.Goals as goal

pub returns-in-Begin-clause-granted : goal.returns-in-Begin-clause-granted
returns-in-Begin-clause-granted g c =
    changes-map _ _ c.args.place c.args.partitions.now c.begin.new.partitions (λ p q granted. search rules)
    (c.begin.ensures.granted c.args.journal.now.list.log)

pub returns-in-Step-clause-granted : goal.returns-in-Step-clause-granted
returns-in-Step-clause-granted g c =
    changes-known (λ p. IsServed p c.args.terminal.now) _ _ c.args.place c.args.partitions.now c.step.new.partitions
    c.requires.there c.requires.served (λ p q served stepped. search rules) c.step.ensures.granted

pub returns-in-Touched-clause-granted : goal.returns-in-Touched-clause-granted
returns-in-Touched-clause-granted g c =
    let parts = c.args.partitions.now in
    let p = c.part.result.now in
    let served = holds-at (λ p. IsServed p c.args.terminal.now) parts c.args.place p c.requires.there c.part.ensures
    c.requires.served in
    changes-none _ c.args.place parts p c.part.ensures (search rules)

pub returns-in-Free-clause-granted : goal.returns-in-Free-clause-granted
returns-in-Free-clause-granted g c =
    let parts = c.args.partitions.now in
    let p = c.part-in-Free.result.now in
    let served = holds-at (λ p. IsServed p c.args.terminal.now) parts c.args.place p c.requires.there c.part-in-Free.ensures
    c.requires.served in
    changes-none _ c.args.place parts p c.part-in-Free.ensures (search rules)

pub returns-in-Shared-clause-granted : goal.returns-in-Shared-clause-granted
returns-in-Shared-clause-granted g c =
    let parts = c.args.partitions.now in
    let p = c.part-in-Shared.result.now in
    let served = holds-at (λ p. IsServed p c.args.terminal.now) parts c.args.place p c.requires.there c.part-in-Shared.ensures
    c.requires.served in
    changes-none _ c.args.place parts p c.part-in-Shared.ensures (search rules)

pub returns-in-Limit-clause-granted : goal.returns-in-Limit-clause-granted
returns-in-Limit-clause-granted g c =
    changes-map _ _ c.args.place c.args.partitions.now c.limit.new.partitions (λ p q granted. search rules)
    (c.limit.ensures.granted c.args.journal.now.list.log)
