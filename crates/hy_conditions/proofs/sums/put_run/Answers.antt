use Rattle.std.proofs.Common.{arith, sym, subst, ◌∙◌, ◌+ℤ◌}
use Rattle.std.proofs.lemmas.Int.{ints}
use Rattle.hy_conditions.specs.Groups.{IsSmall}
use Rattle.hy_conditions.proofs.RunLaws.{sum-put, sum-there}
use Rattle.hy_conditions.proofs.sums.put_run.Goals as goal

-- the key was there
pub returns-in_ok-insert : goal.returns-in_ok-insert
returns-in_ok-insert g c =
    let same = g.K.PartialEq.eq in
    let had = sym c.in-Some.is ∙ c.in_ok-earlier.ensures.old in
    let small : IsSmall (c.in-Some.earlier +ℤ c.args.run.sum) = subst IsSmall
    (sum-there same g.met.K.Eq.laws c.args.sums.now c.args.run c.in-Some.earlier had) c.requires.fits in
    sum-put same g.met.K.Eq.laws c.args.sums.now c.insert.new.self c.insert-in-Some.new.self c.args.run
    c.in-Some.earlier _ _ had (omega (arith, ints, small.above, small.below))
    c.in_ok-earlier.ensures.updates.0 c.in_ok-insert.ensures.updates.0
