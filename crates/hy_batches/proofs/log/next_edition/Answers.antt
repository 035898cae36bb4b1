use Rattle.std.proofs.Common.{sym, ap, ◌∙◌, arith}
use Rattle.hy_batches.specs.Batches.{may_follow}
use Rattle.hy_batches.specs.inside.Reading.{batch_at}
use Rattle.hy_batches.proofs.LogLaws.{next_falls, next_found, next_missing}
use Rattle.hy_batches.proofs.SkipLaws.{passed-found, passed-none}
use Rattle.hy_batches.proofs.log.next_edition.Goals as goal

pub returns-then-may_follow : goal.returns-then-may_follow
returns-then-may_follow c =
    let p = passed-found (batch_at c.args.rest.now) c.in-Ok.found c.in-Ok.after.now c.in-Ok.ensures in
    let found = next_found c.args.rest.now p.0 c.in-Ok.after.now (λ i. omega (arith, c.type_inv.rest i)) p.1 in (
      p.0,
      found.0,
      found.1,
      ap (may_follow c.args.edition) p.2 ∙ (sym c.may_follow.ensures ∙ c.if-may_follow.true),
      sym p.2,
    )

pub returns-else-may_follow : goal.returns-else-may_follow
returns-else-may_follow c =
    let p = passed-found (batch_at c.args.rest.now) c.in-Ok.found c.in-Ok.after.now c.in-Ok.ensures in
    next_falls c.args.edition c.args.rest.now p.0 c.in-Ok.after.now p.1
    (ap (may_follow c.args.edition) p.2 ∙ (sym c.may_follow.ensures ∙ c.if-may_follow.false))

pub returns-in-Err : goal.returns-in-Err
returns-in-Err c =
    next_missing c.args.edition c.args.rest.now (passed-none (batch_at c.args.rest.now) c.in-Err.ensures)
