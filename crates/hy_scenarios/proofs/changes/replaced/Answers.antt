use Rattle.std.proofs.Common.{◌∙◌, ap, arith, drop, length, sym, Some}
use Rattle.hy_scenarios.proofs.MarkLaws.{replaced-at, replaced-later, rest-is}
use Rattle.hy_scenarios.proofs.changes.replaced.Goals as goal

pub returns-then-starts_with : goal.returns-then-starts_with
returns-then-starts_with c =
    let rest = rest-is c.args.text.now c.loop-place.place (omega (arith, c.loop-place-test.true)) in
    let here = rw rest at (sym c.starts_with.ensures.value ∙ c.if-starts_with.true) in
    let fits = rw rest at c.starts_with.ensures.bound c.if-starts_with.true in
    let behind = rest-is (drop c.loop-place.place c.args.text.now) (length c.args.old.now) fits in
    let whole = replaced-at c.args.old.now c.args.new.now c.args.text.now c.loop-place.place c.loop-place-test.true
    here c.loop-place.invariant in
    let j = rw (rest, behind) at c.in_ok-joined.ensures in
    ap Some j ∙ whole

pub loop-place-preserved : goal.loop-place-preserved
loop-place-preserved c =
    let rest = rest-is c.args.text.now c.loop-place.place (omega (arith, c.loop-place-test.true)) in
    let not_here = rw rest at (sym c.starts_with.ensures.value ∙ c.if-starts_with.false) in
    replaced-later c.args.old.now c.args.new.now c.args.text.now c.loop-place.place c.loop-place-test.true
    not_here c.loop-place.invariant
