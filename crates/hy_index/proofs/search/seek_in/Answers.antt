use Rattle.std.proofs.Common.{ℕ, sym, subst, arith}
use Rattle.hy_joins.specs.of_nodes.Nodes.{item_count}
use Rattle.hy_joins.specs.of_nodes.Places.{AreRising, HasItems}
use Rattle.hy_joins.proofs.of_nodes.ReachLaws.{reached-fits, reached-page, reached-rising}
use Rattle.hy_index.proofs.search.seek_in.Goals as goal

pub page-requires : goal.page-requires
page-requires g c = (omega arith, reached-page g.row.N c.args.space.now c.args.tree c.args.key.now c.requires.there c.sound.ensures c.requires.tree 0 c.args.leaf c.requires.leads)

pub seek-requires-clause-within : goal.seek-requires-clause-within
seek-requires-clause-within g c =
    subst (λ (width : ℕ). HasItems width c.page.result.now) (sym c.requires.key)
    (reached-fits g.row.N c.args.space.now c.args.tree c.args.key.now c.requires.there c.sound.ensures c.requires.tree 0 c.args.leaf c.requires.leads c.page.result.now c.page.ensures.bytes c.page.ensures.size)

pub seek-requires-clause-rising : goal.seek-requires-clause-rising
seek-requires-clause-rising g c =
    subst (λ (width : ℕ). AreRising width c.page.result.now (item_count c.page.result.now)) (sym c.requires.key)
    (reached-rising g.row.N c.args.space.now c.args.tree c.args.key.now c.requires.there c.sound.ensures c.requires.tree 0 c.args.leaf c.requires.leads c.page.result.now c.page.ensures.bytes)
