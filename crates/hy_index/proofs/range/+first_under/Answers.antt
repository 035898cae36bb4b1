use Rattle.std.proofs.Common.{◌≡◌, ℕ, ◌+◌, ◌-◌, ap, sym, subst, ◌∙◌, arith, rules}
use Rattle.std.specs.Option.{is_some, option_map}
use Rattle.hy_trees.specs.Trees.{entries_under}
use Rattle.hy_trees.specs.Searches.{first_from}
use Rattle.hy_joins.specs.of_nodes.Nodes.{item_count, number_at}
use Rattle.hy_joins.specs.of_nodes.Pages.{nodes_in}
use Rattle.hy_joins.specs.of_nodes.Places.{AreRising, HasItems, IsChildPlace}
use Rattle.hy_joins.proofs.of_nodes.PlaceLaws.{item_offset-before}
use Rattle.hy_index.specs.Parts.{IsPartAt}
use Rattle.hy_index.specs.Writes.{entry_of}
use Rattle.hy_index.proofs.PartLaws.{part-down, part-fits, part-page, part-rising, part-small, part-some}
use Rattle.hy_index.proofs.FirstLaws.{none-of, some-of, under-here, under-last, under-next}
use Rattle.hy_index.proofs.range.+first_under.Goals as goal

pub page-items-requires : goal.page-items-requires
page-items-requires g t c =
    (omega arith, part-page g.row.N c.args.space.now c.args.tree c.requires.there c.sound.ensures c.args.depth c.args.page c.requires.part)

pub first_in-requires-clause-within : goal.first_in-requires-clause-within
first_in-requires-clause-within g t c =
    subst (λ (width : ℕ). HasItems width c.page-items.result.now) c.requires.width (part-fits g.row.N c.args.space.now c.args.tree c.requires.there c.sound.ensures c.args.depth c.args.page c.requires.part c.page-items.result.now c.page-items.ensures.bytes c.page-items.ensures.size)

pub first_in-requires-clause-rising : goal.first_in-requires-clause-rising
first_in-requires-clause-rising g t c =
    subst (λ (width : ℕ). AreRising width c.page-items.result.now (item_count c.page-items.result.now)) c.requires.width (part-rising g.row.N c.args.space.now c.args.tree c.requires.there c.sound.ensures c.args.depth c.args.page c.requires.part c.page-items.result.now c.page-items.ensures.bytes)

pub child_place-place-requires-clause-some : goal.child_place-place-requires-clause-some
child_place-place-requires-clause-some g t c =
    part-some g.row.N c.args.space.now c.args.tree c.requires.there c.sound.ensures c.args.depth c.args.page c.requires.part c.page-items.result.now c.page-items.ensures.bytes (omega (arith, c.if-depth-eq0.false))

pub child_place-place-requires-clause-within : goal.child_place-place-requires-clause-within
child_place-place-requires-clause-within g t c =
    subst (λ (width : ℕ). HasItems width c.page-items.result.now) (sym c.requires.key) (part-fits g.row.N c.args.space.now c.args.tree c.requires.there c.sound.ensures c.args.depth c.args.page c.requires.part c.page-items.result.now c.page-items.ensures.bytes c.page-items.ensures.size)

pub child_place-place-requires-clause-rising : goal.child_place-place-requires-clause-rising
child_place-place-requires-clause-rising g t c =
    subst (λ (width : ℕ). AreRising width c.page-items.result.now (item_count c.page-items.result.now)) (sym c.requires.key) (part-rising g.row.N c.args.space.now c.args.tree c.requires.there c.sound.ensures c.args.depth c.args.page c.requires.part c.page-items.result.now c.page-items.ensures.bytes)

pub child-child-requires-clause-within : goal.child-child-requires-clause-within
child-child-requires-clause-within g t c =
    let fits = part-fits g.row.N c.args.space.now c.args.tree c.requires.there c.sound.ensures c.args.depth c.args.page c.requires.part c.page-items.result.now c.page-items.ensures.bytes c.page-items.ensures.size in
    let before = item_offset-before c.args.tree.key_bytes (c.child_place-place.result + 1) (item_count c.page-items.result.now) (omega (arith, c.child_place-place.ensures.within)) in
    omega (arith, before, fits)

pub child-child-requires-clause-small : goal.child-child-requires-clause-small
child-child-requires-clause-small g t c =
    part-small g.row.N c.args.space.now c.args.tree c.requires.there c.sound.ensures (c.args.depth - 1) (number_at c.args.tree.key_bytes c.page-items.result.now (c.child_place-place.result)) (part-down g.row.N c.args.space.now c.args.tree c.requires.there c.sound.ensures c.args.depth c.args.page (omega (arith, c.if-depth-eq0.false)) c.requires.part c.page-items.result.now c.page-items.ensures.bytes (c.child_place-place.result) (omega (arith, c.child_place-place.ensures.within)))

pub first_under-first-requires : goal.first_under-first-requires
first_under-first-requires g t c κs within =
    (omega (arith, c.decreases, c.if-depth-eq0.false), (within, (search rules, (omega arith, (c.requires.there, (c.requires.width, (c.requires.key, subst (λ (child : ℕ). IsPartAt g.row.N c.args.space.now c.args.tree (c.args.depth - 1) child) (sym c.child-child.ensures) (part-down g.row.N c.args.space.now c.args.tree c.requires.there c.sound.ensures c.args.depth c.args.page (omega (arith, c.if-depth-eq0.false)) c.requires.part c.page-items.result.now c.page-items.ensures.bytes (c.child_place-place.result) (omega (arith, c.child_place-place.ensures.within))))))))))

pub returns-then-is_some : goal.returns-then-is_some
returns-then-is_some g t c =
    let first : c.first_under-first.result ≡ option_map (entry_of g.K.Key.key_of_bytes) (first_from c.args.key.now (entries_under (nodes_in c.args.space.now c.args.tree) (c.args.depth - 1) (number_at c.args.tree.key_bytes c.page-items.result.now c.child_place-place.result))) = c.first_under-first.ensures ∙ ap (λ (child : ℕ). option_map (entry_of g.K.Key.key_of_bytes) (first_from c.args.key.now (entries_under (nodes_in c.args.space.now c.args.tree) (c.args.depth - 1) child))) c.child-child.ensures in
    first ∙ ap (option_map (entry_of g.K.Key.key_of_bytes)) (sym (under-here g.row.N c.args.space.now c.args.tree c.requires.there c.sound.ensures c.args.page c.page-items.result.now c.page-items.ensures.bytes c.args.key.now c.child_place-place.result (subst (λ (width : ℕ). IsChildPlace width c.page-items.result.now c.args.key.now c.child_place-place.result) c.requires.key c.child_place-place.ensures) c.args.depth (omega (arith, c.if-depth-eq0.false)) c.requires.part
    (some-of (entry_of g.K.Key.key_of_bytes) _ c.is_some.result (c.is_some.ensures ∙ ap is_some first) c.if-is_some.true)))

pub overflow_add-place : goal.overflow_add-place
overflow_add-place g t c =
    let fits = part-fits g.row.N c.args.space.now c.args.tree c.requires.there c.sound.ensures c.args.depth c.args.page c.requires.part c.page-items.result.now c.page-items.ensures.bytes c.page-items.ensures.size in
    let before = item_offset-before c.args.tree.key_bytes (c.child_place-place.result + 1) (item_count c.page-items.result.now) (omega (arith, c.child_place-place.ensures.within)) in
    omega (arith, before, fits, c.page-items.ensures.size, c.sound.ensures.size.largest)

pub returns-then-place-count : goal.returns-then-place-count
returns-then-place-count g t c =
    let first : c.first_under-first.result ≡ option_map (entry_of g.K.Key.key_of_bytes) (first_from c.args.key.now (entries_under (nodes_in c.args.space.now c.args.tree) (c.args.depth - 1) (number_at c.args.tree.key_bytes c.page-items.result.now c.child_place-place.result))) = c.first_under-first.ensures ∙ ap (λ (child : ℕ). option_map (entry_of g.K.Key.key_of_bytes) (first_from c.args.key.now (entries_under (nodes_in c.args.space.now c.args.tree) (c.args.depth - 1) child))) c.child-child.ensures in
    ap (option_map (entry_of g.K.Key.key_of_bytes)) (sym (under-last g.row.N c.args.space.now c.args.tree c.requires.there c.sound.ensures c.args.page c.page-items.result.now c.page-items.ensures.bytes c.args.key.now c.child_place-place.result (subst (λ (width : ℕ). IsChildPlace width c.page-items.result.now c.args.key.now c.child_place-place.result) c.requires.key c.child_place-place.ensures) c.args.depth (omega (arith, c.if-depth-eq0.false)) c.requires.part (omega (arith, c.if-place-count.true, c.count.ensures.value))
    (none-of (entry_of g.K.Key.key_of_bytes) _ c.is_some.result (c.is_some.ensures ∙ ap is_some first) c.if-is_some.false)))

pub child-next-requires-clause-within : goal.child-next-requires-clause-within
child-next-requires-clause-within g t c =
    let fits = part-fits g.row.N c.args.space.now c.args.tree c.requires.there c.sound.ensures c.args.depth c.args.page c.requires.part c.page-items.result.now c.page-items.ensures.bytes c.page-items.ensures.size in
    let before = item_offset-before c.args.tree.key_bytes (c.child_place-place.result + 1 + 1) (item_count c.page-items.result.now) (omega (arith, c.child_place-place.ensures.within, c.if-place-count.false, c.count.ensures.value)) in
    omega (arith, before, fits)

pub child-next-requires-clause-small : goal.child-next-requires-clause-small
child-next-requires-clause-small g t c =
    part-small g.row.N c.args.space.now c.args.tree c.requires.there c.sound.ensures (c.args.depth - 1) (number_at c.args.tree.key_bytes c.page-items.result.now (c.child_place-place.result + 1)) (part-down g.row.N c.args.space.now c.args.tree c.requires.there c.sound.ensures c.args.depth c.args.page (omega (arith, c.if-depth-eq0.false)) c.requires.part c.page-items.result.now c.page-items.ensures.bytes (c.child_place-place.result + 1) (omega (arith, c.child_place-place.ensures.within, c.if-place-count.false, c.count.ensures.value)))

pub first_under-requires : goal.first_under-requires
first_under-requires g t c κs within =
    (omega (arith, c.decreases, c.if-depth-eq0.false), (within, (search rules, (omega arith, (c.requires.there, (c.requires.width, (c.requires.key, subst (λ (child : ℕ). IsPartAt g.row.N c.args.space.now c.args.tree (c.args.depth - 1) child) (sym c.child-next.ensures) (part-down g.row.N c.args.space.now c.args.tree c.requires.there c.sound.ensures c.args.depth c.args.page (omega (arith, c.if-depth-eq0.false)) c.requires.part c.page-items.result.now c.page-items.ensures.bytes (c.child_place-place.result + 1) (omega (arith, c.child_place-place.ensures.within, c.if-place-count.false, c.count.ensures.value))))))))))

pub returns : goal.returns
returns g t c =
    let first : c.first_under-first.result ≡ option_map (entry_of g.K.Key.key_of_bytes) (first_from c.args.key.now (entries_under (nodes_in c.args.space.now c.args.tree) (c.args.depth - 1) (number_at c.args.tree.key_bytes c.page-items.result.now c.child_place-place.result))) = c.first_under-first.ensures ∙ ap (λ (child : ℕ). option_map (entry_of g.K.Key.key_of_bytes) (first_from c.args.key.now (entries_under (nodes_in c.args.space.now c.args.tree) (c.args.depth - 1) child))) c.child-child.ensures in
    c.first_under.ensures ∙ ap (λ (child : ℕ). option_map (entry_of g.K.Key.key_of_bytes) (first_from c.args.key.now (entries_under (nodes_in c.args.space.now c.args.tree) (c.args.depth - 1) child))) c.child-next.ensures
    ∙ ap (option_map (entry_of g.K.Key.key_of_bytes)) (sym (under-next g.row.N c.args.space.now c.args.tree c.requires.there c.sound.ensures c.args.page c.page-items.result.now c.page-items.ensures.bytes c.args.key.now c.child_place-place.result (subst (λ (width : ℕ). IsChildPlace width c.page-items.result.now c.args.key.now c.child_place-place.result) c.requires.key c.child_place-place.ensures) c.args.depth (omega (arith, c.if-depth-eq0.false)) c.requires.part (omega (arith, c.child_place-place.ensures.within, c.if-place-count.false, c.count.ensures.value))
    (none-of (entry_of g.K.Key.key_of_bytes) _ c.is_some.result (c.is_some.ensures ∙ ap is_some first) c.if-is_some.false)))
