use Rattle.std.proofs.Common.{◌≡◌, ◌++◌, ◌∷◌, [], List, length, refl, ap, ap₂, ◌∙◌}
use Rattle.hy_undo.specs.declared.images.Piece.{Piece}
use Rattle.hy_undo.specs.UndoLog.{Image}
use Rattle.hy_undo.specs.inside.Pieces.{images_of}
use Rattle.hy_undo.proofs.PieceLaws.{image_of, images_of-push}
use Rattle.hy_undo.proofs.images.Images.push.Goals as goal

pub returns-clause-ok : goal.returns-clause-ok
returns-clause-ok c =
    let piece : Piece = record { segment = c.args.segment; page = c.args.page; offset = c.args.offset; count = length c.args.content.now } in
    let pieces : c.push_reserved.new.self.items ≡ c.self.inside.pieces.items ++ piece ∷ [] = c.push_reserved.ensures.items ∙ ap (λ (front : List Piece). front ++ piece ∷ []) c.reserve.ensures.items in
    ap₂ images_of c.in_ok-extend_from_slice.ensures.items pieces
    ∙ images_of-push c.self.inside.bytes.items c.args.content.now c.self.inside.pieces.items piece c.self.invariant refl
    ∙ ap (λ (front : List Image). front ++ image_of piece c.args.content.now ∷ []) c.self.view_is
