use Rattle.std.proofs.Common.{rules, arith, sym, subst, refl, FitsSigned}
use Rattle.std.proofs.lemmas.Int.{ints}
use Rattle.std.specs.Int.{w64}
use Rattle.hy_conditions.specs.Groups.{IsSmall}
use Rattle.hy_conditions.proofs.RunLaws.{HasRun-more}
use Rattle.hy_conditions.proofs.sums.sums_by_key.Goals as goal

-- what is put away is small
pub run_for-requires : goal.run_for-requires
run_for-requires g c =
    let few = c.loop-entry.invariant.few c.loop-entry.run.key in
    record { fits = record { above = omega (arith, ints, few.above); below = omega (arith, ints, few.below) } }

-- the sum fits
pub overflow_add-run : goal.overflow_add-run
overflow_add-run g c =
    let fits : FitsSigned w64 c.entry-item.result.1 = search rules in
    let short = c.in_ok-run.ensures.few c.loop-entry.entry-index c.loop-entry.invariant.short in
    omega (arith, ints, short.above, short.below)

-- one more entry
pub loop-entry-preserved : goal.loop-entry-preserved
loop-entry-preserved g c =
    let fits : FitsSigned w64 c.entry-item.result.1 = search rules in
    let short = c.in_ok-run.ensures.few c.loop-entry.entry-index c.loop-entry.invariant.short in
    HasRun-more g.K.PartialEq.eq g.met.K.Eq.laws c.loop-entry.sums c.run_for.new.sums c.loop-entry.run
    c.in_ok-run.run' _ c.args.entries.now c.loop-entry.entry-index c.entry-item.result
    c.loop-entry-test.true c.entry-item.is c.loop-entry.invariant c.in_ok-run.ensures.key c.in_ok-run.ensures.sums
    c.in_ok-run.ensures.few refl (omega (arith, ints, short.above, short.below)) (omega (arith, ints)) (omega (arith, ints))

-- what is put away is small
pub put_run-requires : goal.put_run-requires
put_run-requires g c =
    let few = c.loop-entry.invariant.few c.loop-entry.run.key in
    record { fits = record { above = omega (arith, ints, few.above); below = omega (arith, ints, few.below) } }

-- sums of all entries are small
pub returns-clause-small : goal.returns-clause-small
returns-clause-small g c key =
    let few = c.loop-entry.invariant.few key in
    subst IsSmall (sym (c.in_ok-put_run.ensures key))
    (record { above = omega (arith, ints, few.above); below = omega (arith, ints, few.below) })
