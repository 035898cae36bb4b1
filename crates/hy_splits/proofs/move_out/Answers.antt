use Rattle.std.proofs.Common.{◌<◌, length, ap, arith}
use Rattle.hy_nodes.specs.Pages.{nodes_in}
use Rattle.hy_splits.proofs.MoveLaws.{free-first, free-taken, free-within, taken-differs, taken-items, taken-page}
use Rattle.hy_splits.proofs.PageLaws.{length-nodes, page_of-node}
use Rattle.hy_splits.proofs.move_out.Goals as goal

pub take_page-requires : goal.take_page-requires
take_page-requires g c =
    let long = length-nodes c.args.space.now c.args.tree c.requires.there in
    let within = free-within (nodes_in c.args.space.now c.args.tree) c.args.page c.requires.free in
    let first = free-first (nodes_in c.args.space.now c.args.tree) c.args.page c.requires.free in
    (omega arith, (omega arith, ((c.requires.there, omega (arith, long, within)), (omega (arith, long, first), c.requires.undo_log))))

pub move_behind-requires : goal.move_behind-requires
move_behind-requires g c =
    let old = nodes_in c.args.space.now c.args.tree in
    let taken = nodes_in c.take_page.new.space c.args.tree in
    let right = c.in_ok-right.right in
    let free = c.requires.free in
    let takes = c.in_ok-right.ensures.taken in
    let segment : c.args.tree.segment < length c.take_page.new.space.owner = omega (arith, c.requires.there, c.take_page.ensures.writes.segments) in
    let page = page_of-node c.take_page.new.space c.args.tree c.args.page segment (taken-page old taken c.args.page right free takes) in
    let differs = taken-differs old taken c.args.page right free takes in
    let same = taken-items old taken c.args.page right free takes in
    let none = ap length (free-taken old taken c.args.page right free takes).empty in
    let undo_log = c.take_page.ensures.writes.undoes.undo_log in
    (omega arith, (omega arith, (c.requires.width, (page, ((segment, c.in_ok-right.ensures.there), (differs, (omega (arith, same, c.requires.place), (omega (arith, same, c.requires.fits), (none, undo_log)))))))))
