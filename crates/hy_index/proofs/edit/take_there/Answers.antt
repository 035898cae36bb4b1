use Rattle.std.proofs.Common.{◌+◌, refl, arith}
use Rattle.std.proofs.lemmas.Result.{on_ok_weaker}
use Rattle.hy_joins.specs.of_nodes.Nodes.{item_count}
use Rattle.hy_joins.specs.of_nodes.Pages.{page_in}
use Rattle.hy_joins.proofs.of_nodes.ReachLaws.{reached-fits, reached-page}
use Rattle.hy_joins.proofs.of_nodes.PlaceLaws.{item_offset-before}
use Rattle.hy_joins.proofs.of_nodes.SpaceLaws.{page_full}
use Rattle.hy_index.proofs.LeafLaws.{taken}
use Rattle.hy_index.proofs.edit.take_there.Goals as goal

pub overflow_add-place : goal.overflow_add-place
overflow_add-place g c =
    let page = reached-page g.row.N c.args.space.now c.args.tree c.args.key.now c.requires.there c.sound.ensures c.requires.tree 0 c.args.leaf c.requires.leads in
    let full = page_full g.row.N c.args.space.now c.args.tree.segment c.args.leaf c.sound.ensures page in
    let fits = reached-fits g.row.N c.args.space.now c.args.tree c.args.key.now c.requires.there c.sound.ensures c.requires.tree 0 c.args.leaf c.requires.leads (page_in c.args.space.now c.args.tree c.args.leaf) refl full in
    let within = (c.requires.sought.there refl).0 in
    let before = item_offset-before c.args.tree.key_bytes (c.args.place + 1) (item_count (page_in c.args.space.now c.args.tree c.args.leaf)) (omega (arith, within)) in
    omega (arith, before, fits, full, c.sound.ensures.size.largest)

pub take_items-requires : goal.take_items-requires
take_items-requires g c =
    let page = reached-page g.row.N c.args.space.now c.args.tree c.args.key.now c.requires.there c.sound.ensures c.requires.tree 0 c.args.leaf c.requires.leads in
    let full = page_full g.row.N c.args.space.now c.args.tree.segment c.args.leaf c.sound.ensures page in
    let fits = reached-fits g.row.N c.args.space.now c.args.tree c.args.key.now c.requires.there c.sound.ensures c.requires.tree 0 c.args.leaf c.requires.leads (page_in c.args.space.now c.args.tree c.args.leaf) refl full in
    let within = (c.requires.sought.there refl).0 in
    (omega arith, (omega arith, (c.requires.width, (page, ((omega arith, omega (arith, within)), (omega (arith, fits, full), c.requires.undo_log))))))

pub returns-clause-tree : goal.returns-clause-tree
returns-clause-tree g c = on_ok_weaker c.take_items.result (λ written.
    (taken g.row.N c.args.space.now c.args.tree c.args.key.now c.requires.there c.sound.ensures c.requires.tree c.args.leaf c.requires.leads c.args.place c.requires.sought c.requires.spare c.take_items.new.space written).0) c.take_items.ensures.nodes

pub returns-clause-entries : goal.returns-clause-entries
returns-clause-entries g c = on_ok_weaker c.take_items.result (λ written.
    (taken g.row.N c.args.space.now c.args.tree c.args.key.now c.requires.there c.sound.ensures c.requires.tree c.args.leaf c.requires.leads c.args.place c.requires.sought c.requires.spare c.take_items.new.space written).1) c.take_items.ensures.nodes
