use Rattle.std.proofs.Common.{◌≡◌, ◌∙◌, ◌-◌, ◌<◌, true, arith, length, sym}
use Rattle.std.proofs.lemmas.List.{length-set}
use Rattle.std.proofs.lemmas.Bool.{false≢true}
use Rattle.hy_rows.specs.Rows.{value_at}
use Rattle.hy_tallies.specs.inside.Repeats.{IsNoted}
use Rattle.hy_tallies.proofs.KeyLaws.{is_equal-same}
use Rattle.hy_tallies.proofs.RepeatLaws.{kept-more, left-more}
use Rattle.hy_tallies.proofs.repeats.keep_equal.Goals as goal
use Rattle.hy_tallies.proofs.repeats.keep_equal.Goals.{else-repeats-line, then-repeats-line}

pub loop-line-preserved : goal.loop-line-preserved
loop-line-preserved g c =
    let lines = c.loop-line.repeats in
    let line = c.loop-line.line in
    let b = c.if-repeats-line.repeats in
    let values = g.V.ByPlace.values c.args.values.now in
    let here : b ≡ true → IsNoted lines line × (value_at values line ≡ value_at values (line - 1)) =
    elim c.if-repeats-line.branch [
      | then-repeats-line w ↦ λ is. (
        w.if-repeats-line.true,
        sym w.value.ensures
            ∙ is_equal-same w.value.result w.value-then-repeats-line.result
            (sym w.is_equal.ensures ∙ sym w.repeats-is ∙ is)
            ∙ w.value-then-repeats-line.ensures,
      )
      | else-repeats-line w ↦ λ is. absurd (false≢true (sym w.if-repeats-line.false ∙ sym w.repeats-is ∙ is))
    ] in
    let among : line < length lines = omega (arith, c.loop-line-test.true, c.loop-line.auto.repeats, c.loop-line.invariant.long) in
    record {
      long = length-set lines line b ∙ c.loop-line.invariant.long;
      kept = kept-more values c.args.repeats.now lines line b among here c.loop-line.invariant.kept c.loop-line.invariant.left;
      left = left-more values c.args.repeats.now lines line b among here c.loop-line.invariant.kept c.loop-line.invariant.left;
    }
