use Rattle.std.proofs.Common.{ℕ, sym, subst, arith}
use Rattle.hy_nodes.specs.Nodes.{item_count}
use Rattle.hy_nodes.specs.Places.{AreRising, HasItems, IsChildPlace}
use Rattle.hy_nodes.proofs.ReachLaws.{reached-fits, reached-page, reached-rising, reached-some}
use Rattle.hy_joins.proofs.PairLaws.{way-at}
use Rattle.hy_joins.proofs.place_in.Goals as goal

pub page-requires : goal.page-requires
page-requires g c =
    (omega arith, reached-page g.row.N c.args.space.now c.args.tree c.args.key.now c.requires.there c.sound.ensures c.requires.tree c.args.depth c.args.page c.requires.leads)

pub child_place-requires-clause-some : goal.child_place-requires-clause-some
child_place-requires-clause-some g c =
    reached-some g.row.N c.args.space.now c.args.tree c.args.key.now c.requires.there c.sound.ensures c.requires.tree c.args.depth c.args.page c.requires.leads c.page.result.now c.page.ensures.bytes c.requires.inner

pub child_place-requires-clause-within : goal.child_place-requires-clause-within
child_place-requires-clause-within g c =
    subst (λ (width : ℕ). HasItems width c.page.result.now) (sym c.requires.key)
    (reached-fits g.row.N c.args.space.now c.args.tree c.args.key.now c.requires.there c.sound.ensures c.requires.tree c.args.depth c.args.page c.requires.leads c.page.result.now c.page.ensures.bytes c.page.ensures.size)

pub child_place-requires-clause-rising : goal.child_place-requires-clause-rising
child_place-requires-clause-rising g c =
    subst (λ (width : ℕ). AreRising width c.page.result.now (item_count c.page.result.now)) (sym c.requires.key)
    (reached-rising g.row.N c.args.space.now c.args.tree c.args.key.now c.requires.there c.sound.ensures c.requires.tree c.args.depth c.args.page c.requires.leads c.page.result.now c.page.ensures.bytes)

pub returns : goal.returns
returns g c =
    way-at g.row.N c.args.space.now c.args.tree c.args.key.now c.requires.there c.sound.ensures c.requires.tree c.args.depth c.args.page c.requires.leads c.page.result.now c.page.ensures.bytes c.child_place.result
    (subst (λ (width : ℕ). IsChildPlace width c.page.result.now c.args.key.now c.child_place.result) c.requires.key c.child_place.ensures)
