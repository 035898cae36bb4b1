use Rattle.std.proofs.Common.{ℕ, ◌+◌, ◌-◌, ◌/◌, arith, sym, ◌∙◌}
use Rattle.hy_nodes.proofs.PlaceLaws.{is_below-before, is_below-behind}
use Rattle.hy_nodes.proofs.node.lower_bound.Goals as goal

pub loop-low-preserved-then-is_below : goal.loop-low-preserved-then-is_below
loop-low-preserved-then-is_below c =
    let middle : ℕ = c.loop-low.low + (c.loop-low.high - c.loop-low.low) / 2 in
    record {
      ordered = omega (arith, c.loop-low-test.true);
      within = c.loop-low.invariant.within;
      before = λ k below. is_below-before c.args.key_bytes c.args.page.now c.args.sought.now c.args.count c.requires.rising k middle (omega (arith, below)) (omega (arith, c.loop-low.invariant.within, c.loop-low-test.true)) (sym c.is_below.ensures ∙ c.if-is_below.true);
      behind = c.loop-low.invariant.behind;
    }

pub loop-low-preserved : goal.loop-low-preserved
loop-low-preserved c =
    let middle : ℕ = c.loop-low.low + (c.loop-low.high - c.loop-low.low) / 2 in
    record {
      ordered = omega arith;
      within = omega (arith, c.loop-low.invariant.within, c.loop-low.invariant.ordered, c.loop-low-test.true);
      before = c.loop-low.invariant.before;
      behind = λ k from within. is_below-behind c.args.key_bytes c.args.page.now c.args.sought.now c.args.count c.requires.rising middle k from within (sym c.is_below.ensures ∙ c.if-is_below.false);
    }
