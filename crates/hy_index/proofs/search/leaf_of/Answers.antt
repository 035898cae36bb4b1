use Rattle.std.proofs.Common.{ℕ, ◌+◌, ◌-◌, sym, subst, arith}
use Rattle.hy_joins.specs.of_nodes.Nodes.{item_count, number_at}
use Rattle.hy_joins.specs.of_nodes.Places.{AreRising, HasItems, IsChildPlace}
use Rattle.hy_joins.specs.of_nodes.Ways.{LeadsTo}
use Rattle.hy_joins.proofs.of_nodes.PlaceLaws.{item_offset-before}
use Rattle.hy_joins.proofs.of_nodes.ReachLaws.{LeadsTo-down, LeadsTo-root, reached-fits, reached-page, reached-rising, reached-small, reached-some}
use Rattle.hy_index.proofs.search.leaf_of.Goals as goal

pub loop-depth-init : goal.loop-depth-init
loop-depth-init g c = record {
  leads = LeadsTo-root g.row.N c.args.space.now c.args.tree c.args.key.now c.height_counted-depth.result c.requires.tree c.requires.key c.height_counted-depth.ensures.height;
  count = omega (arith, c.height_counted-depth.ensures.one, c.height_counted-depth.ensures.height);
  counted = λ few. omega (arith, c.height_counted-depth.ensures.counted (omega (arith, few)), c.height_counted-depth.ensures.height);
}

pub page-items-requires : goal.page-items-requires
page-items-requires g c =
    (omega arith, reached-page g.row.N c.args.space.now c.args.tree c.args.key.now c.requires.there c.sound.ensures c.requires.tree c.loop-depth.depth c.loop-depth.page c.loop-depth.invariant.leads)

pub child_place-requires-clause-some : goal.child_place-requires-clause-some
child_place-requires-clause-some g c =
    reached-some g.row.N c.args.space.now c.args.tree c.args.key.now c.requires.there c.sound.ensures c.requires.tree c.loop-depth.depth c.loop-depth.page c.loop-depth.invariant.leads c.page-items.result.now c.page-items.ensures.bytes c.loop-depth-test.true

pub child_place-requires-clause-within : goal.child_place-requires-clause-within
child_place-requires-clause-within g c =
    subst (λ (width : ℕ). HasItems width c.page-items.result.now) (sym c.requires.key)
    (reached-fits g.row.N c.args.space.now c.args.tree c.args.key.now c.requires.there c.sound.ensures c.requires.tree c.loop-depth.depth c.loop-depth.page c.loop-depth.invariant.leads c.page-items.result.now c.page-items.ensures.bytes c.page-items.ensures.size)

pub child_place-requires-clause-rising : goal.child_place-requires-clause-rising
child_place-requires-clause-rising g c =
    subst (λ (width : ℕ). AreRising width c.page-items.result.now (item_count c.page-items.result.now)) (sym c.requires.key)
    (reached-rising g.row.N c.args.space.now c.args.tree c.args.key.now c.requires.there c.sound.ensures c.requires.tree c.loop-depth.depth c.loop-depth.page c.loop-depth.invariant.leads c.page-items.result.now c.page-items.ensures.bytes)

pub child-page-requires-clause-within : goal.child-page-requires-clause-within
child-page-requires-clause-within g c =
    let fits = reached-fits g.row.N c.args.space.now c.args.tree c.args.key.now c.requires.there c.sound.ensures c.requires.tree c.loop-depth.depth c.loop-depth.page c.loop-depth.invariant.leads c.page-items.result.now c.page-items.ensures.bytes c.page-items.ensures.size in
    let before = item_offset-before c.args.tree.key_bytes (c.child_place.result + 1) (item_count c.page-items.result.now) (omega (arith, c.child_place.ensures.within)) in
    omega (arith, before, fits)

pub child-page-requires-clause-small : goal.child-page-requires-clause-small
child-page-requires-clause-small g c =
    reached-small g.row.N c.args.space.now c.args.tree c.args.key.now c.requires.there c.sound.ensures c.requires.tree (c.loop-depth.depth - 1) (number_at c.args.tree.key_bytes c.page-items.result.now c.child_place.result)
    (LeadsTo-down g.row.N c.args.space.now c.args.tree c.args.key.now c.requires.there c.sound.ensures c.requires.tree c.loop-depth.depth c.loop-depth.page c.loop-depth-test.true c.loop-depth.invariant.leads c.page-items.result.now c.page-items.ensures.bytes c.child_place.result
    (subst (λ (width : ℕ). IsChildPlace width c.page-items.result.now c.args.key.now c.child_place.result) c.requires.key c.child_place.ensures))

pub loop-depth-preserved : goal.loop-depth-preserved
loop-depth-preserved g c = record {
  leads = subst (λ (page : ℕ). LeadsTo g.row.N c.args.space.now c.args.tree c.args.key.now (c.loop-depth.depth - 1) page) (sym c.child-page.ensures)
      (LeadsTo-down g.row.N c.args.space.now c.args.tree c.args.key.now c.requires.there c.sound.ensures c.requires.tree c.loop-depth.depth c.loop-depth.page c.loop-depth-test.true c.loop-depth.invariant.leads c.page-items.result.now c.page-items.ensures.bytes c.child_place.result
      (subst (λ (width : ℕ). IsChildPlace width c.page-items.result.now c.args.key.now c.child_place.result) c.requires.key c.child_place.ensures));
  count = omega (arith, c.page-items.ensures.one, c.loop-depth.invariant.count, c.loop-depth-test.true);
  counted = λ few.
      let so_far = c.loop-depth.invariant.counted few in
      omega (arith, so_far, c.page-items.ensures.counted (omega (arith, so_far, few, c.loop-depth-test.true)), c.loop-depth-test.true);
}
