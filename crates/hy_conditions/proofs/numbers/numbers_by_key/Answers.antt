use Rattle.std.proofs.Common.{ap, ◌∙◌, arith}
use Rattle.hy_conditions.specs.declared.numbers.Numbers.{Numbers}
use Rattle.hy_conditions.specs.Numbers.{with_number}
use Rattle.hy_conditions.proofs.NumberLaws.{HasNumbers-one_more}
use Rattle.hy_conditions.proofs.numbers.numbers_by_key.Goals as goal

-- there are fewer numbers than entries
pub with_number-numbers-requires : goal.with_number-numbers-requires
with_number-numbers-requires g c =
    let count = ap (λ (numbers : Numbers). numbers.count) c.numbers_at.ensures in
    omega (arith, c.loop-entry.invariant.few c.entry-item.result.0, count)

-- one more entry
pub loop-entry-preserved : goal.loop-entry-preserved
loop-entry-preserved g c =
    HasNumbers-one_more g.K.PartialEq.eq g.met.K.Eq.laws c.loop-entry.groups c.insert.new.self c.args.entries.now
    c.loop-entry.entry-index c.entry-item.result c.loop-entry-test.true c.entry-item.is
    _ (c.with_number-numbers.ensures ∙ ap
    (λ numbers. with_number numbers c.entry-item.result.1) c.numbers_at.ensures) c.in_ok-insert.ensures.updates.0
    c.loop-entry.invariant
