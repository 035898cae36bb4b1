use Rattle.std.proofs.Common.{rules, ◌≡◌, [], length, replicate, ap, ◌∙◌, arith, lit<}
use Rattle.hy_rows.specs.Spelling.{HasSlots, list_at}
use Rattle.hy_space.specs.Space.{owner_bytes, page_count}
use Rattle.hy_undo.specs.PrivatePages.{IsUndoLog}
use Rattle.hy_relation.specs.Relation.{ChangesSegment}
use Rattle.hy_nodes.specs.Writes.{WritesSegment}
use Rattle.hy_hyper.proofs.StoreLaws.{created, nine_segments, no_page}
use Rattle.hy_hyper.proofs.stores.Store.new.Goals as goal

pub create-requires-2 : goal.create-requires-2
create-requires-2 g c =
    let nine : c.expect-space.result.owner ≡ replicate 9 [] = search rules in
    let before : IsUndoLog g.row.N c.expect-space.result c.expect-undo.result = search rules in
    let after : IsUndoLog g.row.N c.create.new.space c.expect-undo.result = search rules in
    let segments : length c.create.new.space.owner ≡ 9 =
    nine_segments g.row.N c.expect-space.result c.create.new.space c.expect-undo.result nine before after in
    let changes : ChangesSegment (owner_bytes c.expect-space.result) (owner_bytes c.create.new.space) 4 =
    search rules in
    let none : page_count c.expect-space.result 8 ≡ 0 = search rules in (
      lit< tt,
      (
        lit< tt,
        (
          omega (arith, segments, c.index.ensures),
          (
            ap (page_count c.create.new.space) c.index.ensures
                ∙ no_page c.expect-space.result c.create.new.space none changes,
            after,
          ),
        ),
      ),
    )

pub invariant_of-result : goal.invariant_of-result
invariant_of-result g c =
    let nine : c.expect-space.result.owner ≡ replicate 9 [] = search rules in
    let before : IsUndoLog g.row.N c.expect-space.result c.expect-undo.result = search rules in
    let after : IsUndoLog g.row.N c.create.new.space c.expect-undo.result = search rules in
    let segments : length c.create.new.space.owner ≡ 9 =
    nine_segments g.row.N c.expect-space.result c.create.new.space c.expect-undo.result nine before after in
    let relation : HasSlots g.row.N 6 (list_at (owner_bytes c.create.new.space) 4) = search rules in
    let writes : WritesSegment g.row.N c.index.result c.create.new.space c.create-2.new.space c.expect-undo.result
    c.create-2.new.undo = search rules in
    created g.row.N c.create.new.space c.create-2.new.space c.expect-undo.result c.create-2.new.undo c.commit.new.self
    c.index.result c.index.ensures relation (search rules) writes segments c.commit.ensures.undo_log
    c.commit.ensures.undone
