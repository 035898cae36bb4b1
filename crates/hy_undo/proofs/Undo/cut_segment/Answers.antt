use Rattle.hy_undo.proofs.RollBackLaws.{private_where_there-still, HasNoMorePages-cut}
use Rattle.hy_undo.proofs.PrivatePageLaws.{HasPage-fewer}
use Rattle.hy_undo.proofs.Undo.cut_segment.Goals as goal

pub returns-clause-gives_up : goal.returns-clause-gives_up
returns-clause-gives_up g c = record {
  fewer = HasNoMorePages-cut c.args.space.now c.cut.new.self c.args.segment c.index.result.now c.requires.there c.cut.ensures.table;
  kept = c.cut.ensures.kept;
  children = c.cut.ensures.children;
  free = c.cut.ensures.users.free;
  limit = c.cut.ensures.users.limit;
}

-- a page that is left was there, and is private if it was
pub returns-clause-private : goal.returns-clause-private
returns-clause-private g c =
    let old = c.args.space.now in
    let new = c.cut.new.self in
    let fewer = HasNoMorePages-cut old new c.args.segment c.index.result.now c.requires.there c.cut.ensures.table in
    private_where_there-still g.row.N old new c.args.self.now.images fewer.segments
    (λ s p there. HasPage-fewer old new s p fewer there) c.cut.ensures.kept c.requires.private
