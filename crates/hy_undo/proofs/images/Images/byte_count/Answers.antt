use Rattle.std.proofs.Common.{rules, ◌≡◌, length, sym, ap, ◌∙◌, sum_by, arith}
use Rattle.hy_undo.specs.UndoLog.{Image}
use Rattle.hy_undo.proofs.PieceLaws.{bytes-images_of}
use Rattle.hy_undo.proofs.images.Images.byte_count.Goals as goal

pub returns : goal.returns
returns c =
    let size : c.len.result ≡ length c.self.inside.bytes.items = search rules in
    size ∙ sym c.self.invariant
    ∙ sym (bytes-images_of c.self.inside.bytes.items c.self.inside.pieces.items (omega (arith, c.self.invariant)))
    ∙ ap (sum_by (λ (image : Image). length image.bytes)) c.self.view_is
