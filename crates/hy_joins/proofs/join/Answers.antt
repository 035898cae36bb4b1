use Rattle.std.proofs.Common.{◌≢◌, ◌+◌, ◌-◌, take, drop, sym, arith}
use Rattle.std.proofs.lemmas.Result.{on_ok_weaker}
use Rattle.hy_trees.specs.Nodes.{Node, node_at, with_more, without_items}
use Rattle.hy_nodes.specs.Pages.{nodes_in}
use Rattle.hy_nodes.proofs.ReachLaws.{capacity_fits}
use Rattle.hy_nodes.proofs.WriteLaws.{writes-then}
use Rattle.hy_joins.proofs.PageLaws.{count-items, IsPage-other, count-other, node_there, offset-page, there-after, writes-three}
use Rattle.hy_joins.proofs.WrittenLaws.{JoinsAt-written}
use Rattle.hy_joins.proofs.join.Goals as goal

pub put_items-requires : goal.put_items-requires
put_items-requires g c =
    let space = c.args.space.now in
    let tree = c.args.tree in
    let pair = c.requires.pair in
    let count = count-items space tree c.args.pair.first pair.one.there in
    let more = count-items space tree c.args.pair.second pair.two.there in (
      omega arith,
      (
        omega arith,
        (
          c.requires.width,
          (
            pair.two.there,
            (
              pair.one.there,
              (
                (omega arith, omega (arith, pair.is_more, more)),
                (
                  offset-page space tree c.args.pair.second g.row.N (omega (arith, c.sound.ensures.size.smallest)) pair.two,
                  (
                    omega (arith, pair.is_count, count),
                    (
                      capacity_fits g.row.N tree.key_bytes _ (omega (arith, c.sound.ensures.size.smallest)) (omega (arith, c.requires.fits, pair.is_count, count)),
                      c.requires.undo_log,
                    ),
                  ),
                ),
              ),
            ),
          ),
        ),
      ),
    )

pub take_items-requires : goal.take_items-requires
take_items-requires g c =
    let old = c.args.space.now in
    let new = c.put_items.new.space in
    let tree = c.args.tree in
    let pair = c.requires.pair in
    let put = c.in_ok-put_items.ensures in
    let grown : Node = with_more (node_at (nodes_in old tree) c.args.pair.first) c.args.pair.count (take (c.args.pair.more - 0) (drop 0 (node_at (nodes_in old tree) c.args.pair.second).items)) in
    let apart : c.args.pair.page ≢ c.args.pair.first = λ same. pair.one_above (sym same) in
    let above = IsPage-other g.row.N tree old new c.args.undo.now c.put_items.new.undo c.args.pair.first grown put.writes put.pages put.nodes c.args.pair.page apart pair.above in
    let count = count-other g.row.N tree old new c.args.undo.now c.put_items.new.undo c.args.pair.first grown put.writes put.pages put.nodes c.args.pair.page apart in (
      omega arith,
      (
        omega arith,
        (
          c.requires.width,
          (
            above.there,
            (
              (omega arith, omega (arith, pair.within, count, count-items new tree c.args.pair.page above.there)),
              (offset-page new tree c.args.pair.page g.row.N (omega (arith, c.sound.ensures.size.smallest)) above, put.writes.undoes.undo_log),
            ),
          ),
        ),
      ),
    )

pub give_page-requires : goal.give_page-requires
give_page-requires g c =
    let old = c.args.space.now in
    let mid = c.put_items.new.space in
    let new = c.take_items.new.space in
    let tree = c.args.tree in
    let pair = c.requires.pair in
    let put = c.in_ok-put_items.ensures in
    let taken = c.in_ok-take_items.ensures in
    let grown : Node = with_more (node_at (nodes_in old tree) c.args.pair.first) c.args.pair.count (take (c.args.pair.more - 0) (drop 0 (node_at (nodes_in old tree) c.args.pair.second).items)) in
    let less : Node = without_items (node_at (nodes_in mid tree) c.args.pair.page) (c.args.pair.left + 1) (c.args.pair.left + 2) in
    let between = IsPage-other g.row.N tree old mid c.args.undo.now c.put_items.new.undo c.args.pair.first grown put.writes put.pages put.nodes c.args.pair.second pair.two_one pair.two in
    let two = IsPage-other g.row.N tree mid new c.put_items.new.undo c.take_items.new.undo c.args.pair.page less taken.writes taken.pages taken.nodes c.args.pair.second pair.two_above between in
    let root = there-after g.row.N tree.segment 0 mid new c.put_items.new.undo c.take_items.new.undo taken.writes taken.pages
    (there-after g.row.N tree.segment 0 old mid c.args.undo.now c.put_items.new.undo put.writes put.pages pair.root) in (
      omega arith,
      (
        omega arith,
        (
          c.requires.width,
          (
            root,
            (
              two.there,
              (
                pair.not_root,
                (offset-page new tree c.args.pair.second g.row.N (omega (arith, c.sound.ensures.size.smallest)) two, taken.writes.undoes.undo_log),
              ),
            ),
          ),
        ),
      ),
    )

pub returns-in_err-take_items-clause-writes : goal.returns-in_err-take_items-clause-writes
returns-in_err-take_items-clause-writes g c =
    writes-then g.row.N c.args.tree.segment c.args.space.now c.put_items.new.space c.take_items.new.space
    c.args.undo.now c.put_items.new.undo c.take_items.new.undo c.in_ok-put_items.ensures.writes c.take_items.ensures.writes

pub returns-clause-writes : goal.returns-clause-writes
returns-clause-writes g c =
    writes-three g.row.N c.args.tree.segment c.args.space.now c.put_items.new.space c.take_items.new.space c.give_page.new.space
    c.args.undo.now c.put_items.new.undo c.take_items.new.undo c.give_page.new.undo
    c.in_ok-put_items.ensures.writes c.in_ok-take_items.ensures.writes c.give_page.ensures.writes

pub returns-clause-joins : goal.returns-clause-joins
returns-clause-joins g c = on_ok_weaker c.give_page.result (λ written.
    let space = c.args.space.now in
    let tree = c.args.tree in
    let pair = c.requires.pair in
    JoinsAt-written (nodes_in space tree) c.args.pair.page c.args.pair.left c.args.pair.first c.args.pair.second c.args.pair.count c.args.pair.more
    pair.within pair.is_first pair.is_second (node_there space tree c.args.pair.page pair.above.there)
    (node_there space tree c.args.pair.first pair.one.there) (node_there space tree c.args.pair.second pair.two.there)
    pair.is_count pair.is_more
    (nodes_in c.put_items.new.space tree) (nodes_in c.take_items.new.space tree) (nodes_in c.give_page.new.space tree) pair.not_root
    c.in_ok-put_items.ensures.nodes c.in_ok-take_items.ensures.nodes written) c.give_page.ensures.nodes
