use Rattle.std.proofs.Common.{◌-◌, arith, sym, ◌∙◌}
use Rattle.hy_nodes.proofs.PlaceLaws.{is_below-before, is_below-behind}
use Rattle.hy_nodes.proofs.node.bound_by_steps.Goals as goal

pub loop-place-init : goal.loop-place-init
loop-place-init c = record {
  within = c.requires.start;
  before = λ k below. is_below-before c.args.key_bytes c.args.page.now c.args.sought.now c.args.count c.requires.rising k (c.args.start - 1) (omega (arith, below)) (omega (arith, below, c.requires.start)) (c.requires.before (omega (arith, below)));
}

pub returns-then-not-is_below : goal.returns-then-not-is_below
returns-then-not-is_below c = record {
  within = c.loop-place.invariant.within;
  before = c.loop-place.invariant.before;
  behind = λ k from within. is_below-behind c.args.key_bytes c.args.page.now c.args.sought.now c.args.count c.requires.rising c.loop-place.place k from within (sym c.is_below.ensures ∙ c.if-not-is_below.true);
}

pub loop-place-preserved : goal.loop-place-preserved
loop-place-preserved c = record {
  within = omega (arith, c.loop-place-test.true);
  before = λ k below. is_below-before c.args.key_bytes c.args.page.now c.args.sought.now c.args.count c.requires.rising k c.loop-place.place (omega (arith, below)) c.loop-place-test.true (sym c.is_below.ensures ∙ c.if-not-is_below.false);
}
