use Rattle.std.proofs.Common.{ℕ, List, length, ap, ◌∙◌, subst, sym, arith}
use Rattle.std.specs.Ordering.{is_lt}
use Rattle.hy_space.specs.Space.{HasPage}
use Rattle.hy_trees.specs.Nodes.{Item, capacity, least_items, node_at}
use Rattle.hy_trees.specs.Trees.{is_less_bytes}
use Rattle.hy_trees.proofs.FillLaws.{least_items-some, least_items-two}
use Rattle.hy_nodes.specs.Nodes.{item_count, item_offset, key_at}
use Rattle.hy_nodes.specs.Pages.{nodes_in, page_in}
use Rattle.hy_nodes.specs.Places.{AreRising, HasItems}
use Rattle.hy_nodes.proofs.KeepLaws.{capacity-four}
use Rattle.hy_nodes.proofs.WriteLaws.{writes-then}
use Rattle.hy_splits.specs.Splits.{HasFree, MovesOut, SplitsChild, child_at}
use Rattle.hy_splits.proofs.FullLaws.{SplitsChild-left, SplitsChild-right, full-child, full-parent, parent-moved, place-fills, right-moved}
use Rattle.hy_splits.proofs.MoveLaws.{free-within, moved-longer}
use Rattle.hy_splits.proofs.PageLaws.{child-small, fits-node, item-node, item_count-node, page_of-node, rising-node}
use Rattle.hy_splits.proofs.split_child.Goals as goal

pub child-child-requires : goal.child-child-requires
child-child-requires g c =
    let old = nodes_in c.args.space.now c.args.tree in
    let most = capacity g.row.N c.args.tree.key_bytes in
    let full = c.requires.full in
    let there = page_of-node c.args.space.now c.args.tree c.args.page c.requires.there (free-within old c.args.page (full-parent most old c.args.page c.args.place full)) in
    let count = item_count-node c.args.space.now c.args.tree c.args.page there in
    let fits = fits-node c.args.space.now c.args.tree g.row.N c.args.page c.sound.ensures.size.smallest there (omega (arith, full.room)) in
    let child = free-within old (child_at old c.args.page c.args.place).number (full-child most old c.args.page c.args.place full) in
    let small = child-small c.args.space.now c.args.tree g.row.N c.args.page c.args.place c.sound.ensures there full.within child in
    (omega arith, (c.requires.width, (there, (omega (arith, full.within, count), (fits, small)))))

pub seek-requires-clause-within : goal.seek-requires-clause-within
seek-requires-clause-within g c =
    let old = nodes_in c.args.space.now c.args.tree in
    let most = capacity g.row.N c.args.tree.key_bytes in
    let full = c.requires.full in
    let there = page_of-node c.args.space.now c.args.tree (child_at old c.args.page c.args.place).number c.requires.there (free-within old (child_at old c.args.page c.args.place).number (full-child most old c.args.page c.args.place full)) in
    let fits = fits-node c.args.space.now c.args.tree g.row.N (child_at old c.args.page c.args.place).number c.sound.ensures.size.smallest there (omega (arith, full.full)) in
    let bytes = c.page.ensures.bytes ∙ ap (λ (n : ℕ). page_in c.args.space.now c.args.tree n) c.child-child.ensures in
    subst (λ (width : ℕ). HasItems width c.page.result.now) (sym c.requires.key)
    (omega (arith, fits, c.page.ensures.size, ap (λ (b : List ℕ). item_offset c.args.tree.key_bytes (item_count b)) bytes))

pub seek-requires-clause-rising : goal.seek-requires-clause-rising
seek-requires-clause-rising g c =
    let old = nodes_in c.args.space.now c.args.tree in
    let most = capacity g.row.N c.args.tree.key_bytes in
    let full = c.requires.full in
    let there = page_of-node c.args.space.now c.args.tree (child_at old c.args.page c.args.place).number c.requires.there (free-within old (child_at old c.args.page c.args.place).number (full-child most old c.args.page c.args.place full)) in
    subst (λ (width : ℕ). AreRising width c.page.result.now (item_count c.page.result.now)) (sym c.requires.key)
    (rising-node c.args.space.now c.args.tree (child_at old c.args.page c.args.place).number c.page.result.now there
    (c.page.ensures.bytes ∙ ap (λ (n : ℕ). page_in c.args.space.now c.args.tree n) c.child-child.ensures) full.rising)

pub move_out-requires : goal.move_out-requires
move_out-requires g c =
    let old = nodes_in c.args.space.now c.args.tree in
    let most = capacity g.row.N c.args.tree.key_bytes in
    let full = c.requires.full in
    let four = capacity-four g.row.N c.args.tree.key_bytes c.sound.ensures.size.smallest c.requires.width in
    let fills = place-fills most (least_items g.row.N c.args.tree.key_bytes) c.seek.result.place c.split_place-at.result (least_items-two g.row.N c.args.tree.key_bytes four) c.split_place-at.ensures in
    let size = ap (λ (n : ℕ). length (node_at old n).items) c.child-child.ensures in
    let free = subst (HasFree old) (sym c.child-child.ensures) (full-child most old c.args.page c.args.place full) in
    (omega arith, (omega arith, (c.requires.there, (c.requires.width, (free, (omega (arith, size, full.full, fills.1), (omega (arith, size, full.full), c.requires.undo_log)))))))

pub put_child-requires : goal.put_child-requires
put_child-requires g c =
    let old = nodes_in c.args.space.now c.args.tree in
    let moved = nodes_in c.move_out.new.space c.args.tree in
    let most = capacity g.row.N c.args.tree.key_bytes in
    let full = c.requires.full in
    let moves = subst (λ (n : ℕ). MovesOut old moved n c.split_place-at.result c.in_ok-right.right) c.child-child.ensures c.in_ok-right.ensures.moved in
    let child = full-child most old c.args.page c.args.place full in
    let longer = moved-longer old moved (child_at old c.args.page c.args.place).number c.split_place-at.result c.in_ok-right.right child moves in
    let there = free-within old c.args.page (full-parent most old c.args.page c.args.place full) in
    let same = ap length (parent-moved most old c.args.page c.args.place full moved c.split_place-at.result c.in_ok-right.right moves) in
    let size = ap length c.as_slice.ensures.value ∙ ap length c.copied-least.ensures ∙ c.key.ensures.size in
    let parent = page_of-node c.move_out.new.space c.args.tree c.args.page (omega (arith, c.requires.there, c.move_out.ensures.writes.segments)) (omega (arith, there, longer)) in
    (omega arith, (omega arith, (c.requires.width, (size, (parent, (omega (arith, same, full.within), (omega (arith, same, full.room), c.move_out.ensures.writes.undoes.undo_log)))))))

pub returns-in_err-put_child-clause-writes : goal.returns-in_err-put_child-clause-writes
returns-in_err-put_child-clause-writes g c = writes-then g.row.N c.args.tree.segment c.args.space.now c.move_out.new.space c.put_child.new.space c.args.undo.now c.move_out.new.undo c.put_child.new.undo c.move_out.ensures.writes c.put_child.ensures.writes

pub returns-then-is_lt-clause-writes : goal.returns-then-is_lt-clause-writes
returns-then-is_lt-clause-writes g c = writes-then g.row.N c.args.tree.segment c.args.space.now c.move_out.new.space c.put_child.new.space c.args.undo.now c.move_out.new.undo c.put_child.new.undo c.move_out.ensures.writes c.put_child.ensures.writes

pub returns-clause-writes : goal.returns-clause-writes
returns-clause-writes g c = writes-then g.row.N c.args.tree.segment c.args.space.now c.move_out.new.space c.put_child.new.space c.args.undo.now c.move_out.new.undo c.put_child.new.undo c.move_out.ensures.writes c.put_child.ensures.writes

pub returns-then-is_lt-clause-split : goal.returns-then-is_lt-clause-split
returns-then-is_lt-clause-split g c =
    let old = nodes_in c.args.space.now c.args.tree in
    let moved = nodes_in c.move_out.new.space c.args.tree in
    let kb = c.args.tree.key_bytes in
    let most = capacity g.row.N kb in
    let full = c.requires.full in
    let at = c.split_place-at.result in
    let right = c.in_ok-right.right in
    let moves = subst (λ (n : ℕ). MovesOut old moved n at right) c.child-child.ensures c.in_ok-right.ensures.moved in
    let four = capacity-four g.row.N kb c.sound.ensures.size.smallest c.requires.width in
    let two = least_items-two g.row.N kb four in
    let some = least_items-some g.row.N kb in
    let fills = place-fills most (least_items g.row.N kb) c.seek.result.place at two c.split_place-at.ensures in
    let size = right-moved most old c.args.page c.args.place full moved at right moves in
    let there : HasPage c.move_out.new.space c.args.tree.segment right = (omega (arith, c.requires.there, c.move_out.ensures.writes.segments), c.in_ok-right.ensures.there) in
    let is_key = c.as_slice.ensures.value ∙ c.copied-least.ensures ∙ c.key.ensures.bytes ∙ ap (λ (b : List ℕ). key_at kb b 0) c.page-2.ensures.bytes
    ∙ sym (ap (λ (item : Item). item.key) (item-node c.move_out.new.space c.args.tree right 0 there (omega (arith, size, fills.1, some)))) in
    let less = ap (is_less_bytes c.args.key.now) (c.as_slice.ensures.value ∙ sym c.as_slice-2.ensures.value) ∙ sym (c.is_lt.ensures ∙ ap is_lt c.cmp.ensures) ∙ c.if-is_lt.true in
    subst (λ (half : ℕ). SplitsChild (least_items g.row.N kb) most old (nodes_in c.put_child.new.space c.args.tree) c.args.key.now c.args.page c.args.place half) (sym c.child-child.ensures)
    (SplitsChild-left most old c.args.page c.args.place full moved at right moves (least_items g.row.N kb) c.seek.result.place two (omega (arith, some)) c.split_place-at.ensures
    (nodes_in c.put_child.new.space c.args.tree) c.as_slice.result.now is_key c.in_ok-put_child.ensures.put c.args.key.now less)

pub returns-clause-split : goal.returns-clause-split
returns-clause-split g c =
    let old = nodes_in c.args.space.now c.args.tree in
    let moved = nodes_in c.move_out.new.space c.args.tree in
    let kb = c.args.tree.key_bytes in
    let most = capacity g.row.N kb in
    let full = c.requires.full in
    let at = c.split_place-at.result in
    let right = c.in_ok-right.right in
    let moves = subst (λ (n : ℕ). MovesOut old moved n at right) c.child-child.ensures c.in_ok-right.ensures.moved in
    let four = capacity-four g.row.N kb c.sound.ensures.size.smallest c.requires.width in
    let two = least_items-two g.row.N kb four in
    let some = least_items-some g.row.N kb in
    let fills = place-fills most (least_items g.row.N kb) c.seek.result.place at two c.split_place-at.ensures in
    let size = right-moved most old c.args.page c.args.place full moved at right moves in
    let there : HasPage c.move_out.new.space c.args.tree.segment right = (omega (arith, c.requires.there, c.move_out.ensures.writes.segments), c.in_ok-right.ensures.there) in
    let is_key = c.as_slice.ensures.value ∙ c.copied-least.ensures ∙ c.key.ensures.bytes ∙ ap (λ (b : List ℕ). key_at kb b 0) c.page-2.ensures.bytes
    ∙ sym (ap (λ (item : Item). item.key) (item-node c.move_out.new.space c.args.tree right 0 there (omega (arith, size, fills.1, some)))) in
    let less = ap (is_less_bytes c.args.key.now) (c.as_slice.ensures.value ∙ sym c.as_slice-2.ensures.value) ∙ sym (c.is_lt.ensures ∙ ap is_lt c.cmp.ensures) ∙ c.if-is_lt.false in
    SplitsChild-right most old c.args.page c.args.place full moved at right moves (least_items g.row.N kb) c.seek.result.place two (omega (arith, some)) c.split_place-at.ensures
    (nodes_in c.put_child.new.space c.args.tree) c.as_slice.result.now is_key c.in_ok-put_child.ensures.put c.args.key.now less
