use Rattle.std.proofs.Common.{length, ap, ◌∙◌, arith}
use Rattle.hy_undo.specs.inside.Pieces.{piece_at}
use Rattle.hy_undo.proofs.PieceLaws.{length-images_of, piece_at-images_of}
use Rattle.hy_undo.proofs.images.Images.piece.Goals as goal

pub piece_in-requires : goal.piece_in-requires
piece_in-requires c = omega (arith, c.requires, length-images_of c.self.inside.bytes.items c.self.inside.pieces.items, ap length c.self.view_is, ap length c.as_slice.ensures.value)

pub returns : goal.returns
returns c =
    c.piece_in.ensures ∙ ap (λ pieces. piece_at pieces c.args.i) c.as_slice.ensures.value
    ∙ piece_at-images_of c.self.inside.bytes.items c.self.inside.pieces.items c.args.i c.args.self.now c.self.view_is
