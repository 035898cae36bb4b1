use Rattle.std.proofs.Common.{rules, ◌≡◌, ◌+◌, ◌-◌, List, [], ◌∷◌, ◌++◌, length, ap, sym, ◌∙◌, arith, append_assoc, length-append}
use Rattle.std.specs.Prelude.{slice_index_or}
use Rattle.atomic_table.specs.Seated.{TableId}
use Rattle.hy_worlds.specs.Origins.{no_table}
use Rattle.hy_passes.specs.Law.{after_dealing, dealer}
use Rattle.hy_passes.specs.Worlds.{new_partition}
use Rattle.hy_passes.proofs.Lists.{index-behind}
use Rattle.hy_passes.proofs.SerialLaws.{numbered-behind, plus-one}
use Rattle.hy_passes.proofs.kit.deal_seats.Goals as goal

pub loop-before-preserved : goal.loop-before-preserved
loop-before-preserved g c =
    let k = c.loop-before.before in
    let here : k + 1 ≡ 1 + k = omega arith in (
      search rules,
      search rules,
      c.deal-list.ensures.journal ∙ ap after_dealing c.loop-before.invariant.2 ∙ ap dealer (sym (plus-one k)),
      c.push_reserved.ensures.items
          ∙ ap (λ xs. xs ++ c.deal-list.result ∷ []) c.loop-before.invariant.3
          ∙ numbered-behind new_partition 1 k c.deal-list.result (c.deal-list.ensures.seat ∙ ap new_partition here),
      search rules,
      search rules,
      omega (arith, ap length c.take_last.ensures.items, length-append c.take_last.new.self.items (c.take_last.result ∷ []), c.loop-before.invariant.6),
      omega (arith, c.take_last.ensures.len, c.loop-before.invariant.7),
      search rules,
      behind g c,
    )
  where
    behind : (g : _) (c : goal.After-push_reserved g)
        → (given : List TableId) × (c.take_last.new.self.items ++ given ≡ g.K.World.passes.desks)
    behind g c =
        let given = c.loop-before.invariant.9 in (
          c.take_last.result ∷ given.0,
          sym (append_assoc c.take_last.new.self.items (c.take_last.result ∷ []) given.0)
              ∙ ap (λ front. front ++ given.0) (sym c.take_last.ensures.items)
              ∙ given.1,
        )

pub take_last-requires : goal.take_last-requires
take_last-requires g c = omega (arith, c.loop-before.invariant.7, c.loop-before-test.true)

pub open-desk-requires-clause-desk : goal.open-desk-requires-clause-desk
open-desk-requires-clause-desk g c =
    let given = c.loop-before.invariant.9 in
    let new : List TableId = c.take_last.new.self.items in
    let all : new ++ c.take_last.result ∷ given.0 ≡ g.K.World.passes.desks =
    sym (append_assoc new (c.take_last.result ∷ []) given.0) ∙ ap (λ front. front ++ given.0) (sym c.take_last.ensures.items)
    ∙ given.1 in
    let place : length new ≡ g.K.World.passes.partitions - (c.loop-before.before + 1) =
    omega (arith, ap length c.take_last.ensures.items, length-append new (c.take_last.result ∷ []), c.loop-before.invariant.6, c.requires.partitions) in
    sym (index-behind new c.take_last.result given.0 no_table)
    ∙ ap (λ items. slice_index_or items (length new) no_table) all
    ∙ ap (λ at. slice_index_or g.K.World.passes.desks at no_table) place

pub deal-requires-clause-next : goal.deal-requires-clause-next
deal-requires-clause-next g c = omega (arith, c.loop-before.invariant.8)
