use Rattle.std.proofs.Common.{◌≡◌, ◌++◌, ◌∷◌, ◌∙◌, sym, ap, subst, List, []}
use Rattle.std.specs.List.{AllByRecursion}
use Rattle.hy_space.specs.Space.{owner_bytes}
use Rattle.hy_undo.specs.UndoLog.{Image, UndoLog, restored}
use Rattle.hy_undo.specs.inside.RollBack.{IsPrivateWhereThere}
use Rattle.hy_undo.proofs.PrivatePageLaws.{HasNoMorePages-same, HasPage-fewer}
use Rattle.hy_undo.proofs.RollBackLaws.{put_back_more, private_where_there-still, private_where_there-front}
use Rattle.hy_undo.proofs.Undo.put_back_last.Goals as goal
use Rattle.hy_undo.proofs.Undo.put_back_last.Given as given

-- the images are those that are left and the last one
parts : (g : given.Over) (c : goal.After-drop_last g) → c.args.self.now.images ≡ c.drop_last.new.self ++ record { segment = c.last.result.segment; page = c.last.result.page; offset = c.last.result.offset; bytes = c.last.result.bytes.now } ∷ []
parts g c =
    let last : Image = record { segment = c.last.result.segment; page = c.last.result.page; offset = c.last.result.offset; bytes = c.last.result.bytes.now } in
    sym (ap (λ (log : UndoLog). log.images) c.self.view_is) ∙ c.last.ensures ∙ ap (λ (front : List Image). front ++ last ∷ []) (sym c.drop_last.ensures)

pub returns-clause-restored : goal.returns-clause-restored
returns-clause-restored g c =
    let last : Image = record { segment = c.last.result.segment; page = c.last.result.page; offset = c.last.result.offset; bytes = c.last.result.bytes.now } in
    let old = c.args.space.now in
    put_back_more old c.put_image_back.new.space c.drop_last.new.self last (restored (owner_bytes old) c.args.self.now.images) (ap (restored (owner_bytes old)) (sym (parts g c))) c.put_image_back.ensures.bytes

pub returns-clause-private : goal.returns-clause-private
returns-clause-private g c =
    let last : Image = record { segment = c.last.result.segment; page = c.last.result.page; offset = c.last.result.offset; bytes = c.last.result.bytes.now } in
    let old = c.args.space.now in
    let new = c.put_image_back.new.space in
    let fewer = HasNoMorePages-same old new c.put_image_back.ensures.keeps.table in
    private_where_there-still g.row.N old new c.drop_last.new.self fewer.segments (λ s p there. HasPage-fewer old new s p fewer there) c.put_image_back.ensures.keeps.kept
    (private_where_there-front g.row.N old c.drop_last.new.self last (subst (λ (images : List Image). AllByRecursion (IsPrivateWhereThere g.row.N old) images) (parts g c) c.requires.private))
