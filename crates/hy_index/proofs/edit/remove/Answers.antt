use Rattle.std.proofs.Common.{Bool, subst, arith}
use Rattle.hy_joins.specs.of_nodes.Pages.{page_in}
use Rattle.hy_joins.specs.of_nodes.Places.{IsSought}
use Rattle.hy_index.proofs.LeafLaws.{found-sought, is_some, none-some, without-absent}
use Rattle.hy_index.proofs.edit.remove.Goals as goal

pub remove_there-requires : goal.remove_there-requires
remove_there-requires g c =
    let sought = subst (λ (b : Bool). IsSought c.args.tree.key_bytes (page_in c.args.space.now c.args.tree c.position_of-at.result.leaf) c.args.key.now c.position_of-at.result.place b) c.if-at.true c.position_of-at.ensures.sought in
    let found = found-sought g.row.N c.args.space.now c.args.tree c.args.key.now c.requires.there c.sound.ensures c.requires.tree c.position_of-at.result.leaf c.position_of-at.ensures.leads c.position_of-at.result.place sought in
    (omega arith, (omega arith, (c.requires.there, (c.requires.width, (c.requires.key, (c.requires.tree, (c.position_of-at.ensures.leads, (sought, (is_some _ _ found, c.requires.undo_log)))))))))

pub returns-then-at-clause-absent : goal.returns-then-at-clause-absent
returns-then-at-clause-absent g c = λ none.
    let sought = subst (λ (b : Bool). IsSought c.args.tree.key_bytes (page_in c.args.space.now c.args.tree c.position_of-at.result.leaf) c.args.key.now c.position_of-at.result.place b) c.if-at.true c.position_of-at.ensures.sought in
    let found = found-sought g.row.N c.args.space.now c.args.tree c.args.key.now c.requires.there c.sound.ensures c.requires.tree c.position_of-at.result.leaf c.position_of-at.ensures.leads c.position_of-at.result.place sought in
    absurd (none-some _ none (is_some _ _ found))

pub returns-clause-entries : goal.returns-clause-entries
returns-clause-entries g c =
    without-absent g.row.N c.args.space.now c.args.tree c.args.key.now c.requires.there c.sound.ensures c.requires.tree c.position_of-at.result.leaf c.position_of-at.ensures.leads c.position_of-at.result.place
    (subst (λ (b : Bool). IsSought c.args.tree.key_bytes (page_in c.args.space.now c.args.tree c.position_of-at.result.leaf) c.args.key.now c.position_of-at.result.place b) c.if-at.false c.position_of-at.ensures.sought)
