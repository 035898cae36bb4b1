use Rattle.std.proofs.Common.{◌≡◌, ℕ, ◌+◌, ◌-◌, ◌<◌, ◌++◌, List, map, flat_map, take, drop, ap, sym, subst, ◌∙◌, arith, rules}
use Rattle.hy_trees.specs.Nodes.{Item, node_at}
use Rattle.hy_trees.specs.Trees.{entries_under}
use Rattle.hy_trees.specs.Searches.{between}
use Rattle.hy_joins.specs.of_nodes.Nodes.{item_count, number_at}
use Rattle.hy_joins.specs.of_nodes.Pages.{nodes_in}
use Rattle.hy_joins.specs.of_nodes.Places.{AreRising, HasItems, IsBound, IsChildPlace, is_below_at}
use Rattle.hy_joins.proofs.of_nodes.PlaceLaws.{item_offset-before}
use Rattle.hy_index.specs.Parts.{IsPartAt}
use Rattle.hy_index.specs.Writes.{entry_of}
use Rattle.hy_index.proofs.PartLaws.{part-count, part-down, part-fits, part-item, part-page, part-rising, part-small, part-some}
use Rattle.hy_index.proofs.FirstLaws.{under-between}
use Rattle.hy_index.proofs.RunLaws.{more}
use Rattle.hy_index.proofs.range.+push_between.Goals as goal

pub page-items-requires : goal.page-items-requires
page-items-requires g t c =
    (omega arith, part-page g.row.N c.args.space.now c.args.tree c.requires.there c.sound.ensures c.args.depth c.args.page c.requires.part)

pub push_leaf-requires-clause-within : goal.push_leaf-requires-clause-within
push_leaf-requires-clause-within g t c =
    subst (λ (width : ℕ). HasItems width c.page-items.result.now) c.requires.width (part-fits g.row.N c.args.space.now c.args.tree c.requires.there c.sound.ensures c.args.depth c.args.page c.requires.part c.page-items.result.now c.page-items.ensures.bytes c.page-items.ensures.size)

pub push_leaf-requires-clause-rising : goal.push_leaf-requires-clause-rising
push_leaf-requires-clause-rising g t c =
    subst (λ (width : ℕ). AreRising width c.page-items.result.now (item_count c.page-items.result.now)) c.requires.width (part-rising g.row.N c.args.space.now c.args.tree c.requires.there c.sound.ensures c.args.depth c.args.page c.requires.part c.page-items.result.now c.page-items.ensures.bytes)

pub child_place-start-requires-clause-some : goal.child_place-start-requires-clause-some
child_place-start-requires-clause-some g t c =
    part-some g.row.N c.args.space.now c.args.tree c.requires.there c.sound.ensures c.args.depth c.args.page c.requires.part c.page-items.result.now c.page-items.ensures.bytes (omega (arith, c.if-depth-eq0.false))

pub child_place-start-requires-clause-within : goal.child_place-start-requires-clause-within
child_place-start-requires-clause-within g t c =
    subst (λ (width : ℕ). HasItems width c.page-items.result.now) (sym c.requires.low) (part-fits g.row.N c.args.space.now c.args.tree c.requires.there c.sound.ensures c.args.depth c.args.page c.requires.part c.page-items.result.now c.page-items.ensures.bytes c.page-items.ensures.size)

pub child_place-start-requires-clause-rising : goal.child_place-start-requires-clause-rising
child_place-start-requires-clause-rising g t c =
    subst (λ (width : ℕ). AreRising width c.page-items.result.now (item_count c.page-items.result.now)) (sym c.requires.low) (part-rising g.row.N c.args.space.now c.args.tree c.requires.there c.sound.ensures c.args.depth c.args.page c.requires.part c.page-items.result.now c.page-items.ensures.bytes)

pub bound_from-end-requires-clause-within : goal.bound_from-end-requires-clause-within
bound_from-end-requires-clause-within g t c =
    subst (λ (width : ℕ). HasItems width c.page-items.result.now) (sym c.requires.high) (part-fits g.row.N c.args.space.now c.args.tree c.requires.there c.sound.ensures c.args.depth c.args.page c.requires.part c.page-items.result.now c.page-items.ensures.bytes c.page-items.ensures.size)

pub bound_from-end-requires-clause-rising : goal.bound_from-end-requires-clause-rising
bound_from-end-requires-clause-rising g t c =
    subst (λ (width : ℕ). AreRising width c.page-items.result.now (item_count c.page-items.result.now)) (sym c.requires.high) (part-rising g.row.N c.args.space.now c.args.tree c.requires.there c.sound.ensures c.args.depth c.args.page c.requires.part c.page-items.result.now c.page-items.ensures.bytes)

pub child-child-requires-clause-within : goal.child-child-requires-clause-within
child-child-requires-clause-within g t c =
    let fits = part-fits g.row.N c.args.space.now c.args.tree c.requires.there c.sound.ensures c.args.depth c.args.page c.requires.part c.page-items.result.now c.page-items.ensures.bytes c.page-items.ensures.size in
    let before = item_offset-before c.args.tree.key_bytes (c.loop-place.place + 1) (item_count c.page-items.result.now) (omega (arith, c.loop-place-test.true, c.bound_from-end.ensures.within)) in
    omega (arith, before, fits)

pub child-child-requires-clause-small : goal.child-child-requires-clause-small
child-child-requires-clause-small g t c =
    part-small g.row.N c.args.space.now c.args.tree c.requires.there c.sound.ensures (c.args.depth - 1) (number_at c.args.tree.key_bytes c.page-items.result.now (c.loop-place.place)) (part-down g.row.N c.args.space.now c.args.tree c.requires.there c.sound.ensures c.args.depth c.args.page (omega (arith, c.if-depth-eq0.false)) c.requires.part c.page-items.result.now c.page-items.ensures.bytes (c.loop-place.place) (omega (arith, c.loop-place-test.true, c.bound_from-end.ensures.within)))

pub push_between-requires : goal.push_between-requires
push_between-requires g t c κs within =
    (omega (arith, c.decreases, c.if-depth-eq0.false), (within, (search rules, (omega arith, (c.requires.there, (c.requires.width, (c.requires.low, (c.requires.high, subst (λ (child : ℕ). IsPartAt g.row.N c.args.space.now c.args.tree (c.args.depth - 1) child) (sym c.child-child.ensures) (part-down g.row.N c.args.space.now c.args.tree c.requires.there c.sound.ensures c.args.depth c.args.page (omega (arith, c.if-depth-eq0.false)) c.requires.part c.page-items.result.now c.page-items.ensures.bytes (c.loop-place.place) (omega (arith, c.loop-place-test.true, c.bound_from-end.ensures.within)))))))))))

pub loop-place-preserved : goal.loop-place-preserved
loop-place-preserved g t c =
    let child = c.child-child.ensures in
    let count = part-count g.row.N c.args.space.now c.args.tree c.requires.there c.sound.ensures c.args.depth c.args.page c.requires.part c.page-items.result.now c.page-items.ensures.bytes in
    let below : c.loop-place.place < item_count c.page-items.result.now = omega (arith, c.loop-place-test.true, c.bound_from-end.ensures.within) in
    record {
      items =
          c.in_ok-push_between.ensures
          ∙ more (entry_of g.K.Key.key_of_bytes) c.args.entries.now.items c.loop-place.entries.items (λ (i : Item). between c.args.low.now c.args.high.now (entries_under (nodes_in c.args.space.now c.args.tree) (c.args.depth - 1) i.number)) (node_at (nodes_in c.args.space.now c.args.tree) c.args.page).items c.child_place-start.result c.loop-place.place c.loop-place.auto.place (omega (arith, below, count)) c.loop-place.invariant.items
          _ (ap (λ (number : ℕ). between c.args.low.now c.args.high.now (entries_under (nodes_in c.args.space.now c.args.tree) (c.args.depth - 1) number)) (child ∙ ap (λ (i : Item). i.number) (sym (part-item g.row.N c.args.space.now c.args.tree c.requires.there c.sound.ensures c.args.depth c.args.page c.requires.part c.page-items.result.now c.page-items.ensures.bytes c.loop-place.place below))));
      done = omega (arith, c.loop-place.invariant.done, c.loop-place-test.true, c.loop-place.auto.place);
    }

pub returns : goal.returns
returns g t c =
    let all : c.loop-place.place - c.child_place-start.result ≡ c.bound_from-end.result - c.child_place-start.result = omega (arith, c.loop-place.invariant.done, c.loop-place-test.false) in
    let low = subst (λ (width : ℕ). IsChildPlace width c.page-items.result.now c.args.low.now c.child_place-start.result) c.requires.low c.child_place-start.ensures in
    let high = subst (λ (width : ℕ). IsBound (is_below_at width c.page-items.result.now c.args.high.now) (item_count c.page-items.result.now) c.bound_from-end.result) c.requires.high c.bound_from-end.ensures in
    c.loop-place.invariant.items
    ∙ ap (λ (count : ℕ). c.args.entries.now.items ++ map (entry_of g.K.Key.key_of_bytes) (flat_map (λ (i : Item). between c.args.low.now c.args.high.now (entries_under (nodes_in c.args.space.now c.args.tree) (c.args.depth - 1) i.number)) (take count (drop c.child_place-start.result (node_at (nodes_in c.args.space.now c.args.tree) c.args.page).items)))) all
    ∙ ap (λ (all : List Item). c.args.entries.now.items ++ map (entry_of g.K.Key.key_of_bytes) all)
    (sym (under-between g.row.N c.args.space.now c.args.tree c.requires.there c.sound.ensures c.args.page c.page-items.result.now c.page-items.ensures.bytes c.args.low.now c.args.high.now c.child_place-start.result c.bound_from-end.result low high c.args.depth (omega (arith, c.if-depth-eq0.false)) c.requires.part))
