use Rattle.std.proofs.Common.{◌≡◌, ◌-◌, ◌<◌, ◌≤◌, List, length, take, drop, ap, sym, ◌∙◌, arith}
use Rattle.std.proofs.lemmas.Result.{on_ok_weaker}
use Rattle.hy_trees.specs.Nodes.{Item, Node, node_at, with_height, with_more, without_items}
use Rattle.hy_trees.specs.Trees.{height_of}
use Rattle.hy_nodes.specs.Nodes.{height_field}
use Rattle.hy_nodes.specs.Pages.{nodes_in}
use Rattle.hy_nodes.proofs.KeepLaws.{capacity-four}
use Rattle.hy_nodes.proofs.ReachLaws.{capacity_fits}
use Rattle.hy_nodes.proofs.WriteLaws.{writes-then}
use Rattle.hy_joins.specs.Pairs.{IsPage, items_at}
use Rattle.hy_joins.proofs.FilledLaws.{moved-height, root-child, root-items, root-keeps, root-more}
use Rattle.hy_joins.proofs.PageLaws.{IsPage-other, IsPage-written, count-items, count-written, height-root, node_there, offset-page, there-after, writes-three}
use Rattle.hy_joins.proofs.WrittenLaws.{size-without}
use Rattle.hy_joins.proofs.lower_root.Goals as goal

pub take_items-requires : goal.take_items-requires
take_items-requires g c =
    let old = c.args.space.now in
    let tree = c.args.tree in
    let root = c.requires.root in
    let pair = root.is_pair in
    let first = c.args.pair.first in
    let large : 256 ≤ g.row.N = omega (arith, c.sound.ensures.size.smallest) in
    let four = capacity-four g.row.N tree.key_bytes large c.requires.width in
    let s1 = c.join.new.space in
    let join = c.in_ok-join.ensures in
    let items = root-items g.row.N old tree c.args.pair c.requires.tree root (nodes_in s1 tree) join.joins in
    let child = root-child g.row.N old tree c.args.pair c.requires.tree root (nodes_in s1 tree) join.joins in
    let size1 : length (items_at (nodes_in s1 tree) 0) ≡ 1 = ap (λ (all : List Item). length all) items in
    let zero1 : IsPage g.row.N s1 tree 0 = record { there = there-after g.row.N tree.segment 0 old s1 c.args.undo.now c.join.new.undo join.writes join.pages pair.root; fits = omega (arith, size1, four) } in (
      omega arith,
      (
        omega arith,
        (
          c.requires.width,
          (
            zero1.there,
            (
              (omega arith, omega (arith, size1, count-items s1 tree 0 zero1.there)),
              (offset-page s1 tree 0 g.row.N (omega (arith, large)) zero1, join.writes.undoes.undo_log),
            ),
          ),
        ),
      ),
    )

pub put_items-requires : goal.put_items-requires
put_items-requires g c =
    let old = c.args.space.now in
    let tree = c.args.tree in
    let root = c.requires.root in
    let pair = root.is_pair in
    let first = c.args.pair.first in
    let large : 256 ≤ g.row.N = omega (arith, c.sound.ensures.size.smallest) in
    let four = capacity-four g.row.N tree.key_bytes large c.requires.width in
    let s1 = c.join.new.space in
    let join = c.in_ok-join.ensures in
    let items = root-items g.row.N old tree c.args.pair c.requires.tree root (nodes_in s1 tree) join.joins in
    let child = root-child g.row.N old tree c.args.pair c.requires.tree root (nodes_in s1 tree) join.joins in
    let size1 : length (items_at (nodes_in s1 tree) 0) ≡ 1 = ap (λ (all : List Item). length all) items in
    let zero1 : IsPage g.row.N s1 tree 0 = record { there = there-after g.row.N tree.segment 0 old s1 c.args.undo.now c.join.new.undo join.writes join.pages pair.root; fits = omega (arith, size1, four) } in
    let first1 : IsPage g.row.N s1 tree first = record { there = there-after g.row.N tree.segment first old s1 c.args.undo.now c.join.new.undo join.writes join.pages pair.one.there; fits = omega (arith, child, root.fits) } in
    let s2 = c.take_items.new.space in
    let taken = c.in_ok-take_items.ensures in
    let less : Node = without_items (node_at (nodes_in s1 tree) 0) 0 1 in
    let first2 = IsPage-other g.row.N tree s1 s2 c.join.new.undo c.take_items.new.undo 0 less taken.writes taken.pages taken.nodes first pair.first_not_root first1 in
    let size2 = size-without (node_at (nodes_in s1 tree) 0) 0 1 (omega arith) (omega (arith, size1)) in
    let zero2 = IsPage-written g.row.N tree s1 s2 c.join.new.undo c.take_items.new.undo 0 less taken.writes taken.pages taken.nodes zero1 (omega (arith, size1, size2, four)) in
    let none = count-written g.row.N tree s1 s2 c.join.new.undo c.take_items.new.undo 0 less taken.writes taken.pages taken.nodes zero1.there in (
      omega arith,
      (
        omega arith,
        (
          c.requires.width,
          (
            first2.there,
            (
              zero2.there,
              (
                (omega arith, omega (arith, c.count-count.ensures.value)),
                (
                  offset-page s2 tree first g.row.N (omega (arith, large)) first2,
                  (
                    omega arith,
                    (
                      capacity_fits g.row.N tree.key_bytes _ (omega (arith, large)) (omega (arith, none, size1, size2, count-items s2 tree 0 zero2.there, c.count-count.ensures.items, first2.fits)),
                      taken.writes.undoes.undo_log,
                    ),
                  ),
                ),
              ),
            ),
          ),
        ),
      ),
    )

pub overflow_sub-height : goal.overflow_sub-height
overflow_sub-height g c =
    let old = c.args.space.now in
    let tree = c.args.tree in
    let root = c.requires.root in
    let pair = root.is_pair in
    let first = c.args.pair.first in
    let large : 256 ≤ g.row.N = omega (arith, c.sound.ensures.size.smallest) in
    let four = capacity-four g.row.N tree.key_bytes large c.requires.width in
    let s1 = c.join.new.space in
    let join = c.in_ok-join.ensures in
    let items = root-items g.row.N old tree c.args.pair c.requires.tree root (nodes_in s1 tree) join.joins in
    let child = root-child g.row.N old tree c.args.pair c.requires.tree root (nodes_in s1 tree) join.joins in
    let size1 : length (items_at (nodes_in s1 tree) 0) ≡ 1 = ap (λ (all : List Item). length all) items in
    let zero1 : IsPage g.row.N s1 tree 0 = record { there = there-after g.row.N tree.segment 0 old s1 c.args.undo.now c.join.new.undo join.writes join.pages pair.root; fits = omega (arith, size1, four) } in
    let first1 : IsPage g.row.N s1 tree first = record { there = there-after g.row.N tree.segment first old s1 c.args.undo.now c.join.new.undo join.writes join.pages pair.one.there; fits = omega (arith, child, root.fits) } in
    let s2 = c.take_items.new.space in
    let taken = c.in_ok-take_items.ensures in
    let less : Node = without_items (node_at (nodes_in s1 tree) 0) 0 1 in
    let first2 = IsPage-other g.row.N tree s1 s2 c.join.new.undo c.take_items.new.undo 0 less taken.writes taken.pages taken.nodes first pair.first_not_root first1 in
    let size2 = size-without (node_at (nodes_in s1 tree) 0) 0 1 (omega arith) (omega (arith, size1)) in
    let zero2 = IsPage-written g.row.N tree s1 s2 c.join.new.undo c.take_items.new.undo 0 less taken.writes taken.pages taken.nodes zero1 (omega (arith, size1, size2, four)) in
    let s3 = c.put_items.new.space in
    let put = c.in_ok-put_items.ensures in
    let more : Node = with_more (node_at (nodes_in s2 tree) 0) 0 (take (c.count-count.result - 0) (drop 0 (node_at (nodes_in s2 tree) first).items)) in
    let first3 = IsPage-other g.row.N tree s2 s3 c.take_items.new.undo c.put_items.new.undo 0 more put.writes put.pages put.nodes first pair.first_not_root first2 in
    let there3 = there-after g.row.N tree.segment 0 s2 s3 c.take_items.new.undo c.put_items.new.undo put.writes put.pages zero2.there in
    let some : 0 < length (nodes_in s1 tree) = node_there s1 tree 0 zero1.there in
    let is_height : c.height-height.result ≡ height_of (nodes_in s3 tree) = c.height-height.ensures.value ∙ ap height_field c.page.ensures.bytes ∙ sym (height-root s3 tree there3) in
    let same = moved-height g.row.N old tree c.args.pair c.requires.tree root (nodes_in s1 tree) join.joins (nodes_in s2 tree) (nodes_in s3 tree) c.count-count.result some taken.nodes put.nodes in
    omega (arith, is_height, same, root.high)

pub returns-in_err-write_height-clause-writes : goal.returns-in_err-write_height-clause-writes
returns-in_err-write_height-clause-writes g c =
    writes-then g.row.N c.args.tree.segment c.args.space.now c.put_items.new.space c.write_height.new.space c.args.undo.now c.put_items.new.undo c.write_height.new.undo
    (writes-three g.row.N c.args.tree.segment c.args.space.now c.join.new.space c.take_items.new.space c.put_items.new.space
    c.args.undo.now c.join.new.undo c.take_items.new.undo c.put_items.new.undo
    c.in_ok-join.ensures.writes c.in_ok-take_items.ensures.writes c.in_ok-put_items.ensures.writes)
    c.write_height.ensures.writes

pub give_page-requires : goal.give_page-requires
give_page-requires g c =
    let old = c.args.space.now in
    let tree = c.args.tree in
    let root = c.requires.root in
    let pair = root.is_pair in
    let first = c.args.pair.first in
    let large : 256 ≤ g.row.N = omega (arith, c.sound.ensures.size.smallest) in
    let four = capacity-four g.row.N tree.key_bytes large c.requires.width in
    let s1 = c.join.new.space in
    let join = c.in_ok-join.ensures in
    let items = root-items g.row.N old tree c.args.pair c.requires.tree root (nodes_in s1 tree) join.joins in
    let child = root-child g.row.N old tree c.args.pair c.requires.tree root (nodes_in s1 tree) join.joins in
    let size1 : length (items_at (nodes_in s1 tree) 0) ≡ 1 = ap (λ (all : List Item). length all) items in
    let zero1 : IsPage g.row.N s1 tree 0 = record { there = there-after g.row.N tree.segment 0 old s1 c.args.undo.now c.join.new.undo join.writes join.pages pair.root; fits = omega (arith, size1, four) } in
    let first1 : IsPage g.row.N s1 tree first = record { there = there-after g.row.N tree.segment first old s1 c.args.undo.now c.join.new.undo join.writes join.pages pair.one.there; fits = omega (arith, child, root.fits) } in
    let s2 = c.take_items.new.space in
    let taken = c.in_ok-take_items.ensures in
    let less : Node = without_items (node_at (nodes_in s1 tree) 0) 0 1 in
    let first2 = IsPage-other g.row.N tree s1 s2 c.join.new.undo c.take_items.new.undo 0 less taken.writes taken.pages taken.nodes first pair.first_not_root first1 in
    let size2 = size-without (node_at (nodes_in s1 tree) 0) 0 1 (omega arith) (omega (arith, size1)) in
    let zero2 = IsPage-written g.row.N tree s1 s2 c.join.new.undo c.take_items.new.undo 0 less taken.writes taken.pages taken.nodes zero1 (omega (arith, size1, size2, four)) in
    let s3 = c.put_items.new.space in
    let put = c.in_ok-put_items.ensures in
    let more : Node = with_more (node_at (nodes_in s2 tree) 0) 0 (take (c.count-count.result - 0) (drop 0 (node_at (nodes_in s2 tree) first).items)) in
    let first3 = IsPage-other g.row.N tree s2 s3 c.take_items.new.undo c.put_items.new.undo 0 more put.writes put.pages put.nodes first pair.first_not_root first2 in
    let there3 = there-after g.row.N tree.segment 0 s2 s3 c.take_items.new.undo c.put_items.new.undo put.writes put.pages zero2.there in
    let s4 = c.write_height.new.space in
    let lowered = c.in_ok-write_height.ensures in
    let high : Node = with_height (node_at (nodes_in s3 tree) 0) (c.height-height.result - 1) in
    let first4 = IsPage-other g.row.N tree s3 s4 c.put_items.new.undo c.write_height.new.undo 0 high lowered.writes lowered.pages lowered.nodes first pair.first_not_root first3 in
    let there4 = there-after g.row.N tree.segment 0 s3 s4 c.put_items.new.undo c.write_height.new.undo lowered.writes lowered.pages there3 in (
      omega arith,
      (
        omega arith,
        (
          c.requires.width,
          (
            there4,
            (
              first4.there,
              (
                pair.first_not_root,
                (offset-page s4 tree first g.row.N (omega (arith, large)) first4, lowered.writes.undoes.undo_log),
              ),
            ),
          ),
        ),
      ),
    )

pub returns-clause-writes : goal.returns-clause-writes
returns-clause-writes g c =
    writes-three g.row.N c.args.tree.segment c.args.space.now c.put_items.new.space c.write_height.new.space c.give_page.new.space
    c.args.undo.now c.put_items.new.undo c.write_height.new.undo c.give_page.new.undo
    (writes-three g.row.N c.args.tree.segment c.args.space.now c.join.new.space c.take_items.new.space c.put_items.new.space
    c.args.undo.now c.join.new.undo c.take_items.new.undo c.put_items.new.undo
    c.in_ok-join.ensures.writes c.in_ok-take_items.ensures.writes c.in_ok-put_items.ensures.writes)
    c.in_ok-write_height.ensures.writes c.give_page.ensures.writes

pub returns-clause-kept : goal.returns-clause-kept
returns-clause-kept g c = on_ok_weaker c.give_page.result (λ written.
    let old = c.args.space.now in
    let tree = c.args.tree in
    let root = c.requires.root in
    let pair = root.is_pair in
    let first = c.args.pair.first in
    let large : 256 ≤ g.row.N = omega (arith, c.sound.ensures.size.smallest) in
    let four = capacity-four g.row.N tree.key_bytes large c.requires.width in
    let s1 = c.join.new.space in
    let join = c.in_ok-join.ensures in
    let items = root-items g.row.N old tree c.args.pair c.requires.tree root (nodes_in s1 tree) join.joins in
    let child = root-child g.row.N old tree c.args.pair c.requires.tree root (nodes_in s1 tree) join.joins in
    let size1 : length (items_at (nodes_in s1 tree) 0) ≡ 1 = ap (λ (all : List Item). length all) items in
    let zero1 : IsPage g.row.N s1 tree 0 = record { there = there-after g.row.N tree.segment 0 old s1 c.args.undo.now c.join.new.undo join.writes join.pages pair.root; fits = omega (arith, size1, four) } in
    let first1 : IsPage g.row.N s1 tree first = record { there = there-after g.row.N tree.segment first old s1 c.args.undo.now c.join.new.undo join.writes join.pages pair.one.there; fits = omega (arith, child, root.fits) } in
    let s2 = c.take_items.new.space in
    let taken = c.in_ok-take_items.ensures in
    let less : Node = without_items (node_at (nodes_in s1 tree) 0) 0 1 in
    let first2 = IsPage-other g.row.N tree s1 s2 c.join.new.undo c.take_items.new.undo 0 less taken.writes taken.pages taken.nodes first pair.first_not_root first1 in
    let size2 = size-without (node_at (nodes_in s1 tree) 0) 0 1 (omega arith) (omega (arith, size1)) in
    let zero2 = IsPage-written g.row.N tree s1 s2 c.join.new.undo c.take_items.new.undo 0 less taken.writes taken.pages taken.nodes zero1 (omega (arith, size1, size2, four)) in
    let s3 = c.put_items.new.space in
    let put = c.in_ok-put_items.ensures in
    let more : Node = with_more (node_at (nodes_in s2 tree) 0) 0 (take (c.count-count.result - 0) (drop 0 (node_at (nodes_in s2 tree) first).items)) in
    let first3 = IsPage-other g.row.N tree s2 s3 c.take_items.new.undo c.put_items.new.undo 0 more put.writes put.pages put.nodes first pair.first_not_root first2 in
    let there3 = there-after g.row.N tree.segment 0 s2 s3 c.take_items.new.undo c.put_items.new.undo put.writes put.pages zero2.there in
    let some : 0 < length (nodes_in s1 tree) = node_there s1 tree 0 zero1.there in
    let is_height : c.height-height.result ≡ height_of (nodes_in s3 tree) = c.height-height.ensures.value ∙ ap height_field c.page.ensures.bytes ∙ sym (height-root s3 tree there3) in
    root-keeps g.row.N old tree c.args.pair c.requires.tree root (nodes_in s1 tree) join.joins c.give_page.new.space (nodes_in s2 tree) (nodes_in s3 tree)
    (nodes_in c.write_height.new.space tree) c.count-count.result c.height-height.result some is_height taken.nodes c.count-count.ensures.items put.nodes
    c.in_ok-write_height.ensures.nodes written) c.give_page.ensures.nodes

pub returns-clause-spare : goal.returns-clause-spare
returns-clause-spare g c = on_ok_weaker c.give_page.result (λ written.
    let old = c.args.space.now in
    let tree = c.args.tree in
    let root = c.requires.root in
    let pair = root.is_pair in
    let first = c.args.pair.first in
    let large : 256 ≤ g.row.N = omega (arith, c.sound.ensures.size.smallest) in
    let four = capacity-four g.row.N tree.key_bytes large c.requires.width in
    let s1 = c.join.new.space in
    let join = c.in_ok-join.ensures in
    let items = root-items g.row.N old tree c.args.pair c.requires.tree root (nodes_in s1 tree) join.joins in
    let child = root-child g.row.N old tree c.args.pair c.requires.tree root (nodes_in s1 tree) join.joins in
    let size1 : length (items_at (nodes_in s1 tree) 0) ≡ 1 = ap (λ (all : List Item). length all) items in
    let zero1 : IsPage g.row.N s1 tree 0 = record { there = there-after g.row.N tree.segment 0 old s1 c.args.undo.now c.join.new.undo join.writes join.pages pair.root; fits = omega (arith, size1, four) } in
    let first1 : IsPage g.row.N s1 tree first = record { there = there-after g.row.N tree.segment first old s1 c.args.undo.now c.join.new.undo join.writes join.pages pair.one.there; fits = omega (arith, child, root.fits) } in
    let s2 = c.take_items.new.space in
    let taken = c.in_ok-take_items.ensures in
    let less : Node = without_items (node_at (nodes_in s1 tree) 0) 0 1 in
    let first2 = IsPage-other g.row.N tree s1 s2 c.join.new.undo c.take_items.new.undo 0 less taken.writes taken.pages taken.nodes first pair.first_not_root first1 in
    let size2 = size-without (node_at (nodes_in s1 tree) 0) 0 1 (omega arith) (omega (arith, size1)) in
    let zero2 = IsPage-written g.row.N tree s1 s2 c.join.new.undo c.take_items.new.undo 0 less taken.writes taken.pages taken.nodes zero1 (omega (arith, size1, size2, four)) in
    let s3 = c.put_items.new.space in
    let put = c.in_ok-put_items.ensures in
    let more : Node = with_more (node_at (nodes_in s2 tree) 0) 0 (take (c.count-count.result - 0) (drop 0 (node_at (nodes_in s2 tree) first).items)) in
    let first3 = IsPage-other g.row.N tree s2 s3 c.take_items.new.undo c.put_items.new.undo 0 more put.writes put.pages put.nodes first pair.first_not_root first2 in
    let there3 = there-after g.row.N tree.segment 0 s2 s3 c.take_items.new.undo c.put_items.new.undo put.writes put.pages zero2.there in
    let some : 0 < length (nodes_in s1 tree) = node_there s1 tree 0 zero1.there in
    let is_height : c.height-height.result ≡ height_of (nodes_in s3 tree) = c.height-height.ensures.value ∙ ap height_field c.page.ensures.bytes ∙ sym (height-root s3 tree there3) in
    root-more g.row.N old tree c.args.pair c.requires.tree root (nodes_in s1 tree) join.joins c.give_page.new.space (nodes_in s2 tree) (nodes_in s3 tree)
    (nodes_in c.write_height.new.space tree) c.count-count.result c.height-height.result some is_height taken.nodes c.count-count.ensures.items put.nodes
    c.in_ok-write_height.ensures.nodes written) c.give_page.ensures.nodes
