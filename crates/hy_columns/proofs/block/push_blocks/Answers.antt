use Rattle.std.proofs.Common.{◌≡◌, ℕ, subst, arith}
use Rattle.hy_columns.specs.inside.Cuts.{Adds}
use Rattle.hy_columns.proofs.CutLaws.{adds-more, adds-none}
use Rattle.hy_columns.proofs.block.push_blocks.Goals as goal

pub loop-first-init : goal.loop-first-init
loop-first-init c = record {
  within = omega arith;
  adds = λ slots there all. adds-none slots c.args.warehouse c.args.blocks.now.items;
}

pub loop-first-preserved : goal.loop-first-preserved
loop-first-preserved c = record {
  within = omega (arith, c.min-slots.ensures);
  adds = λ slots there all.
      adds-more slots c.args.warehouse c.args.blocks.now.items c.loop-first.blocks.items c.push.new.self.items c.loop-first.first
      c.min-slots.result
      c.in_ok-push.ensures.items there (omega (arith, all, c.min-slots.ensures)) (c.loop-first.invariant.adds slots there all);
}

pub returns : goal.returns
returns c = λ slots there all.
    let end : c.loop-first.first ≡ c.args.used = omega (arith, c.loop-first-test.false, c.loop-first.invariant.within) in
    subst (λ (count : ℕ). Adds slots c.args.warehouse count c.args.blocks.now.items c.loop-first.blocks.items) end
    (c.loop-first.invariant.adds slots there all)
