use Rattle.std.proofs.Common.{refl, sym, ap, ◌∙◌, arith}
use Rattle.hy_batches.specs.Batches.{may_follow}
use Rattle.hy_batches.proofs.LogLaws.{next_falls, next_found, next_missing}
use Rattle.hy_batches.proofs.log.next_batch.Goals as goal

pub returns-then-may_follow : goal.returns-then-may_follow
returns-then-may_follow c =
    let found = next_found c.args.rest.now c.in-Ok.batch c.in-Ok.after.now (λ i. omega (arith, c.type_inv.rest i)) c.in-Ok.ensures in
    (found.0, found.1, ap (may_follow c.args.edition) (sym c.edition.ensures) ∙ (sym c.may_follow.ensures ∙ c.if-may_follow.true))

pub returns-in-Ok : goal.returns-in-Ok
returns-in-Ok c =
    let falls = ap (may_follow c.args.edition) (sym c.edition.ensures) ∙ (sym c.may_follow.ensures ∙ c.if-may_follow.false) in
    (refl, next_falls c.args.edition c.args.rest.now c.in-Ok.batch c.in-Ok.after.now c.in-Ok.ensures falls)

pub returns-in-Err-Malformed : goal.returns-in-Err-Malformed
returns-in-Err-Malformed c =
    (refl, next_missing c.args.edition c.args.rest.now (rw c.in-Err-Malformed.field-0-is at c.in-Err-Malformed.ensures))
