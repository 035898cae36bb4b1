use Rattle.std.proofs.Common.{◌∙◌, ◌<◌, length, arith}
use Rattle.hy_session.proofs.JoinedLaws.{joined-all, joined-more}
use Rattle.hy_session.proofs.rows.rows_of_all.Goals as goal

pub loop-place-preserved : goal.loop-place-preserved
loop-place-preserved g c =
    let place = c.loop-place.place in
    let all = c.args.all.now in
    let rows = c.loop-place.rows.items in
    let within : place < length all = omega (arith, c.loop-place-test.true, c.loop-place.invariant.1) in (
      c.in_ok-append.ensures.items
          ∙ joined-more g.R.Row.rows_in g.row.N all place c.part.result.now rows c.in_ok-more.more.items within
          c.part.ensures c.loop-place.invariant.0 c.in_ok-more.ensures,
      c.loop-place.invariant.1,
    )

pub returns : goal.returns
returns g c =
    joined-all g.R.Row.rows_in g.row.N c.args.all.now c.loop-place.place
    (omega (arith, c.loop-place-test.false, c.loop-place.invariant.1)) c.loop-place.rows.items c.loop-place.invariant.0
