use Rattle.std.proofs.Common.{ℕ, ◌≡◌, ◌≢◌, ◌+◌, ◌-◌, ◌/◌, take, drop, sym, subst, ◌∙◌, arith, Err, ap}
use Rattle.std.proofs.lemmas.Result.{on_ok_weaker}
use Rattle.hy_trees.specs.Nodes.{Node, node_at, with_more, without_items}
use Rattle.hy_trees.proofs.FillLaws.{least_items-some}
use Rattle.hy_nodes.specs.Pages.{nodes_in}
use Rattle.hy_nodes.proofs.ReachLaws.{capacity_fits}
use Rattle.hy_nodes.proofs.WriteLaws.{writes-then}
use Rattle.hy_joins.specs.Pairs.{AtEach, SharesLeft}
use Rattle.hy_joins.proofs.PageLaws.{count-items, IsPage-other, IsPage-written, count-other, count-written, node_there, offset-page, writes-three}
use Rattle.hy_joins.proofs.WrittenLaws.{SharesLeft-written, half-up, size-without}
use Rattle.hy_joins.proofs.share_left.Goals as goal

pub put_items-requires : goal.put_items-requires
put_items-requires g c =
    let space = c.args.space.now in
    let tree = c.args.tree in
    let pair = c.requires.pair in
    let moved = c.div_ceil-moved.result in
    let half : moved ≡ (c.args.pair.more - c.args.pair.count + 1) / 2 = c.div_ceil-moved.ensures ∙ half-up (c.args.pair.more - c.args.pair.count) in
    let count = count-items space tree c.args.pair.first pair.one.there in
    let more = count-items space tree c.args.pair.second pair.two.there in (
      omega arith,
      (
        omega arith,
        (
          c.requires.width,
          (
            pair.two.there,
            (
              pair.one.there,
              (
                (omega arith, omega (arith, half, c.requires.less, pair.is_more, more)),
                (
                  offset-page space tree c.args.pair.second g.row.N (omega (arith, c.sound.ensures.size.smallest)) pair.two,
                  (
                    omega (arith, pair.is_count, count),
                    (
                      capacity_fits g.row.N tree.key_bytes _ (omega (arith, c.sound.ensures.size.smallest)) (omega (arith, half, c.requires.less, pair.is_count, count, pair.is_more, pair.two.fits)),
                      c.requires.undo_log,
                    ),
                  ),
                ),
              ),
            ),
          ),
        ),
      ),
    )

pub take_items-requires : goal.take_items-requires
take_items-requires g c =
    let old = c.args.space.now in
    let new = c.put_items.new.space in
    let tree = c.args.tree in
    let pair = c.requires.pair in
    let put = c.in_ok-put_items.ensures in
    let moved = c.div_ceil-moved.result in
    let half : moved ≡ (c.args.pair.more - c.args.pair.count + 1) / 2 = c.div_ceil-moved.ensures ∙ half-up (c.args.pair.more - c.args.pair.count) in
    let grown : Node = with_more (node_at (nodes_in old tree) c.args.pair.first) c.args.pair.count (take (moved - 0) (drop 0 (node_at (nodes_in old tree) c.args.pair.second).items)) in
    let two = IsPage-other g.row.N tree old new c.args.undo.now c.put_items.new.undo c.args.pair.first grown put.writes put.pages put.nodes c.args.pair.second pair.two_one pair.two in
    let count = count-other g.row.N tree old new c.args.undo.now c.put_items.new.undo c.args.pair.first grown put.writes put.pages put.nodes c.args.pair.second pair.two_one in (
      omega arith,
      (
        omega arith,
        (
          c.requires.width,
          (
            two.there,
            (
              (omega arith, omega (arith, half, c.requires.less, pair.is_more, count, count-items new tree c.args.pair.second two.there)),
              (offset-page new tree c.args.pair.second g.row.N (omega (arith, c.sound.ensures.size.smallest)) two, put.writes.undoes.undo_log),
            ),
          ),
        ),
      ),
    )

pub write_bound-requires : goal.write_bound-requires
write_bound-requires g c =
    let old = c.args.space.now in
    let mid = c.put_items.new.space in
    let new = c.take_items.new.space in
    let tree = c.args.tree in
    let pair = c.requires.pair in
    let put = c.in_ok-put_items.ensures in
    let taken = c.in_ok-take_items.ensures in
    let moved = c.div_ceil-moved.result in
    let half : moved ≡ (c.args.pair.more - c.args.pair.count + 1) / 2 = c.div_ceil-moved.ensures ∙ half-up (c.args.pair.more - c.args.pair.count) in
    let some = least_items-some g.row.N tree.key_bytes in
    let above_first : c.args.pair.page ≢ c.args.pair.first = λ same. pair.one_above (sym same) in
    let above_second : c.args.pair.page ≢ c.args.pair.second = λ same. pair.two_above (sym same) in
    let grown : Node = with_more (node_at (nodes_in old tree) c.args.pair.first) c.args.pair.count (take (moved - 0) (drop 0 (node_at (nodes_in old tree) c.args.pair.second).items)) in
    let less : Node = without_items (node_at (nodes_in mid tree) c.args.pair.second) 0 moved in
    let above_mid = IsPage-other g.row.N tree old mid c.args.undo.now c.put_items.new.undo c.args.pair.first grown put.writes put.pages put.nodes c.args.pair.page above_first pair.above in
    let above = IsPage-other g.row.N tree mid new c.put_items.new.undo c.take_items.new.undo c.args.pair.second less taken.writes taken.pages taken.nodes c.args.pair.page above_second above_mid in
    let two_mid = IsPage-other g.row.N tree old mid c.args.undo.now c.put_items.new.undo c.args.pair.first grown put.writes put.pages put.nodes c.args.pair.second pair.two_one pair.two in
    let count_above_mid = count-other g.row.N tree old mid c.args.undo.now c.put_items.new.undo c.args.pair.first grown put.writes put.pages put.nodes c.args.pair.page above_first in
    let count_above = count-other g.row.N tree mid new c.put_items.new.undo c.take_items.new.undo c.args.pair.second less taken.writes taken.pages taken.nodes c.args.pair.page above_second in
    let count_two_mid = count-other g.row.N tree old mid c.args.undo.now c.put_items.new.undo c.args.pair.first grown put.writes put.pages put.nodes c.args.pair.second pair.two_one in
    let count_two = count-written g.row.N tree mid new c.put_items.new.undo c.take_items.new.undo c.args.pair.second less taken.writes taken.pages taken.nodes two_mid.there in
    let size = size-without (node_at (nodes_in mid tree) c.args.pair.second) 0 moved (omega arith) (omega (arith, half, c.requires.less, pair.is_more, count_two_mid)) in
    let two = IsPage-written g.row.N tree mid new c.put_items.new.undo c.take_items.new.undo c.args.pair.second less taken.writes taken.pages taken.nodes two_mid (omega (arith, size, two_mid.fits)) in (
      omega arith,
      (
        omega arith,
        (
          c.requires.width,
          (
            above,
            (
              two,
              (
                omega (arith, pair.within, count_above_mid, count_above),
                (
                  omega (arith, count_two, size, count_two_mid, half, c.requires.less, pair.is_more, pair.enough_one, some),
                  taken.writes.undoes.undo_log,
                ),
              ),
            ),
          ),
        ),
      ),
    )

pub returns-in_err-take_items-clause-writes : goal.returns-in_err-take_items-clause-writes
returns-in_err-take_items-clause-writes g c =
    writes-then g.row.N c.args.tree.segment c.args.space.now c.put_items.new.space c.take_items.new.space
    c.args.undo.now c.put_items.new.undo c.take_items.new.undo c.in_ok-put_items.ensures.writes c.take_items.ensures.writes

pub returns-in_err-take_items-clause-no_frame : goal.returns-in_err-take_items-clause-no_frame
returns-in_err-take_items-clause-no_frame g c =
    λ is. let same = rw is at c.from_residual-in_err-take_items.ensures.1 in c.in_err-take_items.ensures.no_frame (ap Err (sym same))

pub returns-clause-writes : goal.returns-clause-writes
returns-clause-writes g c =
    writes-three g.row.N c.args.tree.segment c.args.space.now c.put_items.new.space c.take_items.new.space c.write_bound.new.space
    c.args.undo.now c.put_items.new.undo c.take_items.new.undo c.write_bound.new.undo
    c.in_ok-put_items.ensures.writes c.in_ok-take_items.ensures.writes c.write_bound.ensures.writes

pub returns-clause-shares : goal.returns-clause-shares
returns-clause-shares g c = on_ok_weaker c.write_bound.result (λ written.
    let space = c.args.space.now in
    let tree = c.args.tree in
    let pair = c.requires.pair in
    let half : c.div_ceil-moved.result ≡ (c.args.pair.more - c.args.pair.count + 1) / 2 = c.div_ceil-moved.ensures ∙ half-up (c.args.pair.more - c.args.pair.count) in
    subst (λ (moved : ℕ). AtEach (nodes_in space tree) c.args.pair.page (λ free. SharesLeft (nodes_in space tree) (nodes_in c.write_bound.new.space tree) free c.args.pair.page c.args.pair.left moved)) half
    (SharesLeft-written (nodes_in space tree) c.args.pair.page c.args.pair.left c.args.pair.first c.args.pair.second c.args.pair.count c.args.pair.more
    pair.within pair.is_first pair.is_second (node_there space tree c.args.pair.page pair.above.there)
    (node_there space tree c.args.pair.first pair.one.there) (node_there space tree c.args.pair.second pair.two.there)
    pair.is_count pair.is_more
    (nodes_in c.put_items.new.space tree) (nodes_in c.take_items.new.space tree) (nodes_in c.write_bound.new.space tree) c.div_ceil-moved.result
    c.in_ok-put_items.ensures.nodes c.in_ok-take_items.ensures.nodes written)) c.write_bound.ensures.nodes
