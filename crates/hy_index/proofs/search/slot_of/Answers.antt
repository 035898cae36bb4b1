use Rattle.std.proofs.Common.{ℕ, ◌+◌, Bool, true, false, Some, length, sym, ap, subst, ◌∙◌, arith, replicate}
use Rattle.hy_trees.specs.Nodes.{capacity, least_items}
use Rattle.hy_joins.specs.of_nodes.Nodes.{item_count}
use Rattle.hy_joins.specs.of_nodes.Pages.{nodes_in}
use Rattle.hy_trees.specs.Trees.{height_of, root_least}
use Rattle.hy_joins.specs.of_nodes.Places.{AreRising, HasItems, IsSought}
use Rattle.hy_joins.proofs.of_nodes.PlaceLaws.{item_offset-before}
use Rattle.hy_joins.proofs.of_nodes.ReachLaws.{reached-fits, reached-items, reached-page, reached-rising}
use Rattle.hy_index.proofs.FoundLaws.{behind-absent, found-absent, found-there}
use Rattle.hy_index.proofs.search.slot_of.Goals as goal

pub page-items-requires : goal.page-items-requires
page-items-requires g c = (omega arith, reached-page g.row.N c.args.space.now c.args.tree c.args.key.now c.requires.there c.sound.ensures c.requires.tree 0 c.leaf_of-leaf.result c.leaf_of-leaf.ensures.leads)

pub seek-sought-requires-clause-within : goal.seek-sought-requires-clause-within
seek-sought-requires-clause-within g c =
    subst (λ (width : ℕ). HasItems width c.page-items.result.now) (sym c.requires.key)
    (reached-fits g.row.N c.args.space.now c.args.tree c.args.key.now c.requires.there c.sound.ensures c.requires.tree 0 c.leaf_of-leaf.result c.leaf_of-leaf.ensures.leads c.page-items.result.now c.page-items.ensures.bytes c.page-items.ensures.size)

pub seek-sought-requires-clause-rising : goal.seek-sought-requires-clause-rising
seek-sought-requires-clause-rising g c =
    subst (λ (width : ℕ). AreRising width c.page-items.result.now (item_count c.page-items.result.now)) (sym c.requires.key)
    (reached-rising g.row.N c.args.space.now c.args.tree c.args.key.now c.requires.there c.sound.ensures c.requires.tree 0 c.leaf_of-leaf.result c.leaf_of-leaf.ensures.leads c.page-items.result.now c.page-items.ensures.bytes)

pub number-requires-clause-within : goal.number-requires-clause-within
number-requires-clause-within g c =
    let fits = reached-fits g.row.N c.args.space.now c.args.tree c.args.key.now c.requires.there c.sound.ensures c.requires.tree 0 c.leaf_of-leaf.result c.leaf_of-leaf.ensures.leads c.page-items.result.now c.page-items.ensures.bytes c.page-items.ensures.size in
    let there = (c.seek-sought.ensures.there c.if-sought.true).0 in
    let before = item_offset-before c.args.tree.key_bytes (c.seek-sought.result.place + 1) (item_count c.page-items.result.now) (omega (arith, there)) in
    omega (arith, before, fits)

pub returns-then-sought-clause-value : goal.returns-then-sought-clause-value
returns-then-sought-clause-value g c =
    let kw : ℕ = c.args.tree.key_bytes in
    let nodes = nodes_in c.args.space.now c.args.tree in
    let items = reached-items g.row.N c.args.space.now c.args.tree c.args.key.now c.requires.there c.sound.ensures c.requires.tree 0 c.leaf_of-leaf.result c.leaf_of-leaf.ensures.leads c.page-items.result.now c.page-items.ensures.bytes in
    ap (λ (n : ℕ). Some n) c.number.ensures
    ∙ found-there nodes (least_items g.row.N kw) (capacity g.row.N kw) (height_of nodes) (root_least (height_of nodes)) (replicate kw 0) c.args.key.now c.leaf_of-leaf.result c.leaf_of-leaf.ensures.leads kw c.page-items.result.now c.seek-sought.result.place items
    (subst (λ (width : ℕ). IsSought width c.page-items.result.now c.args.key.now c.seek-sought.result.place true) c.requires.key
    (subst (λ (b : Bool). IsSought (length c.args.key.now) c.page-items.result.now c.args.key.now c.seek-sought.result.place b) c.if-sought.true c.seek-sought.ensures))

pub returns-clause-value : goal.returns-clause-value
returns-clause-value g c =
    let kw : ℕ = c.args.tree.key_bytes in
    let nodes = nodes_in c.args.space.now c.args.tree in
    let items = reached-items g.row.N c.args.space.now c.args.tree c.args.key.now c.requires.there c.sound.ensures c.requires.tree 0 c.leaf_of-leaf.result c.leaf_of-leaf.ensures.leads c.page-items.result.now c.page-items.ensures.bytes in
    let rising = reached-rising g.row.N c.args.space.now c.args.tree c.args.key.now c.requires.there c.sound.ensures c.requires.tree 0 c.leaf_of-leaf.result c.leaf_of-leaf.ensures.leads c.page-items.result.now c.page-items.ensures.bytes in
    let sought : IsSought kw c.page-items.result.now c.args.key.now c.seek-sought.result.place false =
    subst (λ (width : ℕ). IsSought width c.page-items.result.now c.args.key.now c.seek-sought.result.place false) c.requires.key
    (subst (λ (b : Bool). IsSought (length c.args.key.now) c.page-items.result.now c.args.key.now c.seek-sought.result.place b) c.if-sought.false c.seek-sought.ensures) in
    found-absent nodes (least_items g.row.N kw) (capacity g.row.N kw) (height_of nodes) (root_least (height_of nodes)) (replicate kw 0) c.args.key.now c.leaf_of-leaf.result c.leaf_of-leaf.ensures.leads kw c.page-items.result.now c.seek-sought.result.place items
    (behind-absent kw c.page-items.result.now c.args.key.now c.seek-sought.result.place rising sought) sought
