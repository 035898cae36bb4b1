use Rattle.std.proofs.Common.{◌≡◌, ℕ, ◌+◌, ◌-◌, ◌++◌, map, ap, sym, subst, ◌∙◌, arith}
use Rattle.hy_joins.specs.of_nodes.Nodes.{first_items, item_at, item_count}
use Rattle.hy_joins.specs.of_nodes.Places.{IsBound, IsSought, is_below_at}
use Rattle.hy_index.specs.Writes.{entry_of}
use Rattle.hy_index.proofs.RunLaws.{between-in, pushed}
use Rattle.hy_index.proofs.range.push_leaf.Goals as goal

pub loop-place-preserved : goal.loop-place-preserved
loop-place-preserved g c = record {
  items =
      c.in_ok-push.ensures.items
      ∙ pushed (entry_of g.K.Key.key_of_bytes) c.args.entries.now.items c.loop-place.entries.items (item_at g.K.Key.BYTES c.args.items.now) c.seek-start.result.place c.loop-place.place c.entry.result
      c.loop-place.auto.place c.loop-place.invariant.items c.entry.ensures;
  done = omega (arith, c.loop-place.invariant.done, c.loop-place-test.true, c.loop-place.auto.place);
}

pub returns : goal.returns
returns g c =
    let low = subst (λ (width : ℕ). IsSought width c.args.items.now c.args.low.now c.seek-start.result.place c.seek-start.result.is_there) c.requires.low c.seek-start.ensures in
    let high = subst (λ (width : ℕ). IsBound (is_below_at width c.args.items.now c.args.high.now) (item_count c.args.items.now) c.bound_from-end.result) c.requires.high c.bound_from-end.ensures in
    let all : c.loop-place.place - c.seek-start.result.place ≡ c.bound_from-end.result - c.seek-start.result.place = omega (arith, c.loop-place.invariant.done, c.loop-place-test.false) in
    c.loop-place.invariant.items
    ∙ ap (λ (count : ℕ). c.args.entries.now.items ++ map (entry_of g.K.Key.key_of_bytes) (first_items (λ i. item_at g.K.Key.BYTES c.args.items.now (c.seek-start.result.place + i)) count)) all
    ∙ ap (λ all. c.args.entries.now.items ++ map (entry_of g.K.Key.key_of_bytes) all) (sym (between-in g.K.Key.BYTES c.args.items.now c.args.low.now c.args.high.now c.seek-start.result.place c.bound_from-end.result c.seek-start.result.is_there low high))
