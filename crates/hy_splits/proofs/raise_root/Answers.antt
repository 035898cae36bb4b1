use Rattle.std.proofs.Common.{length, replicate, ap, arith}
use Rattle.std.proofs.lemmas.List.{take-replicate}
use Rattle.std.proofs.lemmas.Result.{on_ok_weaker}
use Rattle.hy_nodes.specs.Pages.{nodes_in}
use Rattle.hy_nodes.proofs.KeepLaws.{capacity-four}
use Rattle.hy_splits.proofs.MoveLaws.{moved-longer, moved-page, free-within}
use Rattle.hy_splits.proofs.PageLaws.{page_of-node}
use Rattle.hy_splits.proofs.RootLaws.{RaisesRoot-written, zeros-long}
use Rattle.hy_splits.proofs.raise_root.Goals as goal

pub put_child-requires : goal.put_child-requires
put_child-requires g c =
    let old = nodes_in c.args.space.now c.args.tree in
    let moved = nodes_in c.move_out.new.space c.args.tree in
    let longer = moved-longer old moved 0 0 c.in_ok-child.child c.requires.free c.in_ok-child.ensures.moved in
    let none = ap length (moved-page old moved 0 0 c.in_ok-child.child c.requires.free c.in_ok-child.ensures.moved) in
    let four = capacity-four g.row.N c.args.tree.key_bytes c.sound.ensures.size.smallest c.requires.width in
    let key = zeros-long c.args.tree.key_bytes c.requires.width in
    let there = free-within old 0 c.requires.free in
    let root = page_of-node c.move_out.new.space c.args.tree 0 (omega (arith, c.requires.there, c.move_out.ensures.writes.segments)) (omega (arith, there, longer)) in
    (omega arith, (omega arith, (c.requires.width, (key, (root, (omega arith, (omega (arith, none, four), c.move_out.ensures.writes.undoes.undo_log)))))))

pub returns-clause-raised : goal.returns-clause-raised
returns-clause-raised g c = on_ok_weaker c.write_height.result (λ written.
    RaisesRoot-written (nodes_in c.args.space.now c.args.tree) (nodes_in c.move_out.new.space c.args.tree) (nodes_in c.put_child.new.space c.args.tree) (nodes_in c.write_height.new.space c.args.tree) c.in_ok-child.child c.height-height.result (replicate c.args.tree.key_bytes 0) _ c.requires.free c.in_ok-child.ensures.moved
    (take-replicate c.args.tree.key_bytes 48 0 c.requires.width) c.in_ok-put_child.ensures.put c.height-height.ensures written) c.write_height.ensures.nodes
