use Rattle.std.proofs.Common.{ℕ, ◌≡◌, ◌≢◌, ◌+◌, ◌-◌, ◌/◌, take, drop, sym, subst, ◌∙◌, arith, Err, ap}
use Rattle.std.proofs.lemmas.Result.{on_ok_weaker}
use Rattle.hy_trees.specs.Nodes.{Node, node_at, with_more, without_items}
use Rattle.hy_nodes.specs.Pages.{nodes_in}
use Rattle.hy_nodes.proofs.ReachLaws.{capacity_fits}
use Rattle.hy_nodes.proofs.WriteLaws.{writes-then}
use Rattle.hy_joins.specs.Pairs.{AtEach, SharesRight}
use Rattle.hy_joins.proofs.PageLaws.{count-items, IsPage-other, IsPage-written, count-other, count-written, node_there, offset-page, writes-three}
use Rattle.hy_joins.proofs.WrittenLaws.{SharesRight-written, half-up, size-more}
use Rattle.hy_joins.proofs.share_right.Goals as goal

pub put_items-requires : goal.put_items-requires
put_items-requires g c =
    let space = c.args.space.now in
    let tree = c.args.tree in
    let pair = c.requires.pair in
    let half : c.div_ceil.result ≡ (c.args.pair.count - c.args.pair.more + 1) / 2 = c.div_ceil.ensures ∙ half-up (c.args.pair.count - c.args.pair.more) in
    let count = count-items space tree c.args.pair.first pair.one.there in
    let more = count-items space tree c.args.pair.second pair.two.there in (
      omega arith,
      (
        omega arith,
        (
          c.requires.width,
          (
            pair.one.there,
            (
              pair.two.there,
              (
                (omega arith, omega (arith, pair.is_count, count)),
                (
                  offset-page space tree c.args.pair.first g.row.N (omega (arith, c.sound.ensures.size.smallest)) pair.one,
                  (
                    omega arith,
                    (
                      capacity_fits g.row.N tree.key_bytes _ (omega (arith, c.sound.ensures.size.smallest)) (omega (arith, half, c.requires.less, pair.is_count, pair.is_more, more, pair.one.fits)),
                      c.requires.undo_log,
                    ),
                  ),
                ),
              ),
            ),
          ),
        ),
      ),
    )

pub take_items-requires : goal.take_items-requires
take_items-requires g c =
    let old = c.args.space.now in
    let new = c.put_items.new.space in
    let tree = c.args.tree in
    let pair = c.requires.pair in
    let put = c.in_ok-put_items.ensures in
    let start = c.args.pair.count - c.div_ceil.result in
    let grown : Node = with_more (node_at (nodes_in old tree) c.args.pair.second) 0 (take (c.args.pair.count - start) (drop start (node_at (nodes_in old tree) c.args.pair.first).items)) in
    let apart : c.args.pair.first ≢ c.args.pair.second = λ same. pair.two_one (sym same) in
    let one = IsPage-other g.row.N tree old new c.args.undo.now c.put_items.new.undo c.args.pair.second grown put.writes put.pages put.nodes c.args.pair.first apart pair.one in
    let count = count-other g.row.N tree old new c.args.undo.now c.put_items.new.undo c.args.pair.second grown put.writes put.pages put.nodes c.args.pair.first apart in (
      omega arith,
      (
        omega arith,
        (
          c.requires.width,
          (
            one.there,
            (
              (omega arith, omega (arith, pair.is_count, count, count-items new tree c.args.pair.first one.there)),
              (offset-page new tree c.args.pair.first g.row.N (omega (arith, c.sound.ensures.size.smallest)) one, put.writes.undoes.undo_log),
            ),
          ),
        ),
      ),
    )

pub write_bound-requires : goal.write_bound-requires
write_bound-requires g c =
    let old = c.args.space.now in
    let mid = c.put_items.new.space in
    let new = c.take_items.new.space in
    let tree = c.args.tree in
    let pair = c.requires.pair in
    let put = c.in_ok-put_items.ensures in
    let taken = c.in_ok-take_items.ensures in
    let start = c.args.pair.count - c.div_ceil.result in
    let half : c.div_ceil.result ≡ (c.args.pair.count - c.args.pair.more + 1) / 2 = c.div_ceil.ensures ∙ half-up (c.args.pair.count - c.args.pair.more) in
    let above_first : c.args.pair.page ≢ c.args.pair.first = λ same. pair.one_above (sym same) in
    let above_second : c.args.pair.page ≢ c.args.pair.second = λ same. pair.two_above (sym same) in
    let grown : Node = with_more (node_at (nodes_in old tree) c.args.pair.second) 0 (take (c.args.pair.count - start) (drop start (node_at (nodes_in old tree) c.args.pair.first).items)) in
    let less : Node = without_items (node_at (nodes_in mid tree) c.args.pair.first) start c.args.pair.count in
    let above_mid = IsPage-other g.row.N tree old mid c.args.undo.now c.put_items.new.undo c.args.pair.second grown put.writes put.pages put.nodes c.args.pair.page above_second pair.above in
    let above = IsPage-other g.row.N tree mid new c.put_items.new.undo c.take_items.new.undo c.args.pair.first less taken.writes taken.pages taken.nodes c.args.pair.page above_first above_mid in
    let count_above_mid = count-other g.row.N tree old mid c.args.undo.now c.put_items.new.undo c.args.pair.second grown put.writes put.pages put.nodes c.args.pair.page above_second in
    let count_above = count-other g.row.N tree mid new c.put_items.new.undo c.take_items.new.undo c.args.pair.first less taken.writes taken.pages taken.nodes c.args.pair.page above_first in
    let size = size-more (node_at (nodes_in old tree) c.args.pair.second) (node_at (nodes_in old tree) c.args.pair.first) start c.args.pair.count (omega arith) (omega (arith, pair.is_count)) in
    let two_mid = IsPage-written g.row.N tree old mid c.args.undo.now c.put_items.new.undo c.args.pair.second grown put.writes put.pages put.nodes pair.two (omega (arith, size, half, c.requires.less, pair.is_count, pair.is_more, pair.one.fits)) in
    let count_two_mid = count-written g.row.N tree old mid c.args.undo.now c.put_items.new.undo c.args.pair.second grown put.writes put.pages put.nodes pair.two.there in
    let two = IsPage-other g.row.N tree mid new c.put_items.new.undo c.take_items.new.undo c.args.pair.first less taken.writes taken.pages taken.nodes c.args.pair.second pair.two_one two_mid in
    let count_two = count-other g.row.N tree mid new c.put_items.new.undo c.take_items.new.undo c.args.pair.first less taken.writes taken.pages taken.nodes c.args.pair.second pair.two_one in (
      omega arith,
      (
        omega arith,
        (
          c.requires.width,
          (
            above,
            (
              two,
              (
                omega (arith, pair.within, count_above_mid, count_above),
                (
                  omega (arith, count_two, size, count_two_mid, half, c.requires.less),
                  taken.writes.undoes.undo_log,
                ),
              ),
            ),
          ),
        ),
      ),
    )

pub returns-in_err-take_items-clause-writes : goal.returns-in_err-take_items-clause-writes
returns-in_err-take_items-clause-writes g c =
    writes-then g.row.N c.args.tree.segment c.args.space.now c.put_items.new.space c.take_items.new.space
    c.args.undo.now c.put_items.new.undo c.take_items.new.undo c.in_ok-put_items.ensures.writes c.take_items.ensures.writes

pub returns-in_err-take_items-clause-no_frame : goal.returns-in_err-take_items-clause-no_frame
returns-in_err-take_items-clause-no_frame g c =
    λ is. let same = rw is at c.from_residual-in_err-take_items.ensures.1 in c.in_err-take_items.ensures.no_frame (ap Err (sym same))

pub returns-clause-writes : goal.returns-clause-writes
returns-clause-writes g c =
    writes-three g.row.N c.args.tree.segment c.args.space.now c.put_items.new.space c.take_items.new.space c.write_bound.new.space
    c.args.undo.now c.put_items.new.undo c.take_items.new.undo c.write_bound.new.undo
    c.in_ok-put_items.ensures.writes c.in_ok-take_items.ensures.writes c.write_bound.ensures.writes

pub returns-clause-shares : goal.returns-clause-shares
returns-clause-shares g c = on_ok_weaker c.write_bound.result (λ written.
    let space = c.args.space.now in
    let tree = c.args.tree in
    let pair = c.requires.pair in
    let start : ℕ = c.args.pair.count - c.div_ceil.result in
    let half : c.div_ceil.result ≡ (c.args.pair.count - c.args.pair.more + 1) / 2 = c.div_ceil.ensures ∙ half-up (c.args.pair.count - c.args.pair.more) in
    subst (λ (moved : ℕ). AtEach (nodes_in space tree) c.args.pair.page (λ free. SharesRight (nodes_in space tree) (nodes_in c.write_bound.new.space tree) free c.args.pair.page c.args.pair.left (c.args.pair.count - moved))) half
    (SharesRight-written (nodes_in space tree) c.args.pair.page c.args.pair.left c.args.pair.first c.args.pair.second c.args.pair.count c.args.pair.more
    pair.within pair.is_first pair.is_second (node_there space tree c.args.pair.page pair.above.there)
    (node_there space tree c.args.pair.first pair.one.there) (node_there space tree c.args.pair.second pair.two.there)
    pair.is_count pair.is_more
    (nodes_in c.put_items.new.space tree) (nodes_in c.take_items.new.space tree) (nodes_in c.write_bound.new.space tree) start
    c.in_ok-put_items.ensures.nodes c.in_ok-take_items.ensures.nodes written (omega (arith, half, c.requires.less)))) c.write_bound.ensures.nodes
