use Rattle.std.proofs.Common.{Bool, refl, subst, arith, inl, inr}
use Rattle.std.specs.Prelude.{find}
use Rattle.std.proofs.lemmas.Result.{on_ok_weaker}
use Rattle.hy_trees.specs.Searches.{is_at}
use Rattle.hy_joins.specs.of_nodes.Pages.{page_in}
use Rattle.hy_joins.specs.of_nodes.Places.{IsSought}
use Rattle.hy_joins.specs.of_nodes.Ways.{entries_in}
use Rattle.hy_joins.proofs.of_nodes.ReachLaws.{reached-fits, reached-page}
use Rattle.hy_joins.proofs.of_nodes.SpaceLaws.{page_full}
use Rattle.hy_index.proofs.LeafLaws.{absent-sought, leaf-entries, none-some, numbered}
use Rattle.hy_index.proofs.edit.insert.Goals as goal

pub write_number-requires : goal.write_number-requires
write_number-requires g c =
    let leads = c.position_of-at.ensures.leads in
    let page = reached-page g.row.N c.args.space.now c.args.tree c.args.key.now c.requires.there c.sound.ensures c.requires.tree 0 c.position_of-at.result.leaf leads in
    let full = page_full g.row.N c.args.space.now c.args.tree.segment c.position_of-at.result.leaf c.sound.ensures page in
    let fits = reached-fits g.row.N c.args.space.now c.args.tree c.args.key.now c.requires.there c.sound.ensures c.requires.tree 0 c.position_of-at.result.leaf leads (page_in c.args.space.now c.args.tree c.position_of-at.result.leaf) refl full in
    (omega arith, (omega arith, (c.requires.width, (page, ((c.position_of-at.ensures.sought.there c.if-at.true).0, (omega (arith, fits, full), c.requires.undo_log))))))

pub returns-then-at-clause-tree : goal.returns-then-at-clause-tree
returns-then-at-clause-tree g c = on_ok_weaker c.write_number.result (λ written.
    (numbered g.row.N c.args.space.now c.args.tree c.args.key.now c.requires.there c.sound.ensures c.requires.tree c.position_of-at.result.leaf c.position_of-at.ensures.leads c.position_of-at.result.place
    (subst (λ (b : Bool). IsSought c.args.tree.key_bytes (page_in c.args.space.now c.args.tree c.position_of-at.result.leaf) c.args.key.now c.position_of-at.result.place b) c.if-at.true c.position_of-at.ensures.sought)
    c.args.slot c.write_number.new.space written).0) c.write_number.ensures.nodes

pub returns-then-at-clause-entries : goal.returns-then-at-clause-entries
returns-then-at-clause-entries g c = on_ok_weaker c.write_number.result (λ written.
    (numbered g.row.N c.args.space.now c.args.tree c.args.key.now c.requires.there c.sound.ensures c.requires.tree c.position_of-at.result.leaf c.position_of-at.ensures.leads c.position_of-at.result.place
    (subst (λ (b : Bool). IsSought c.args.tree.key_bytes (page_in c.args.space.now c.args.tree c.position_of-at.result.leaf) c.args.key.now c.position_of-at.result.place b) c.if-at.true c.position_of-at.ensures.sought)
    c.args.slot c.write_number.new.space written).1) c.write_number.ensures.nodes

pub insert_by_splits-requires : goal.insert_by_splits-requires
insert_by_splits-requires g c =
    let none = absent-sought g.row.N c.args.space.now c.args.tree c.args.key.now c.requires.there c.sound.ensures c.requires.tree c.position_of-at.result.leaf c.position_of-at.ensures.leads c.position_of-at.result.place
    (subst (λ (b : Bool). IsSought c.args.tree.key_bytes (page_in c.args.space.now c.args.tree c.position_of-at.result.leaf) c.args.key.now c.position_of-at.result.place b) c.if-at.false c.position_of-at.ensures.sought) in
    (omega arith, (omega arith, (c.requires.there, (c.requires.width, (c.requires.key, (c.requires.tree, (none, c.requires.undo_log)))))))

pub returns-then-count-capacity-clause-replaces : goal.returns-then-count-capacity-clause-replaces
returns-then-count-capacity-clause-replaces g c = λ some.
    let none = absent-sought g.row.N c.args.space.now c.args.tree c.args.key.now c.requires.there c.sound.ensures c.requires.tree c.position_of-at.result.leaf c.position_of-at.ensures.leads c.position_of-at.result.place
    (subst (λ (b : Bool). IsSought c.args.tree.key_bytes (page_in c.args.space.now c.args.tree c.position_of-at.result.leaf) c.args.key.now c.position_of-at.result.place b) c.if-at.false c.position_of-at.ensures.sought) in
    absurd (none-some (find (is_at c.args.key.now) (entries_in c.args.space.now c.args.tree)) none some)

pub returns-then-count-capacity-clause-wanted : goal.returns-then-count-capacity-clause-wanted
returns-then-count-capacity-clause-wanted g c = λ lacks.
    let many = leaf-entries g.row.N c.args.space.now c.args.tree c.args.key.now c.requires.there c.sound.ensures c.requires.tree c.position_of-at.result.leaf c.position_of-at.ensures.leads c.position_of-at.result.place in
    let none = absent-sought g.row.N c.args.space.now c.args.tree c.args.key.now c.requires.there c.sound.ensures c.requires.tree c.position_of-at.result.leaf c.position_of-at.ensures.leads c.position_of-at.result.place
    (subst (λ (b : Bool). IsSought c.args.tree.key_bytes (page_in c.args.space.now c.args.tree c.position_of-at.result.leaf) c.args.key.now c.position_of-at.result.place b) c.if-at.false c.position_of-at.ensures.sought) in
    elim (c.insert_by_splits.ensures.wanted lacks) [
      | inl child ↦ inl child
      | inr few ↦ inr (none, omega (arith, many, c.count.ensures.items, c.capacity.ensures, c.if-count-capacity.true), few)
    ]
