use Rattle.std.proofs.Common.{rules, ◌≡◌, length, sym, ap, ◌∙◌}
use Rattle.hy_undo.proofs.PieceLaws.{length-images_of}
use Rattle.hy_undo.proofs.images.Images.len.Goals as goal

pub returns : goal.returns
returns c =
    let size : c.len.result ≡ length c.self.inside.pieces.items = search rules in
    size ∙ sym (length-images_of c.self.inside.bytes.items c.self.inside.pieces.items) ∙ ap length c.self.view_is
