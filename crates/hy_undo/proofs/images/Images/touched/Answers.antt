use Rattle.std.proofs.Common.{List, sym, ap, ◌∙◌}
use Rattle.hy_undo.specs.UndoLog.{Image}
use Rattle.hy_undo.specs.Touched.{touched}
use Rattle.hy_undo.specs.inside.Pieces.{touched_by}
use Rattle.hy_undo.proofs.PieceLaws.{touched-images_of}
use Rattle.hy_undo.proofs.images.Images.touched.Goals as goal

pub returns : goal.returns
returns c =
    c.touched_pieces.ensures
    ∙ ap (λ pieces. touched_by pieces c.args.counts.now) c.as_slice.ensures.value
    ∙ sym (touched-images_of c.args.counts.now c.self.inside.bytes.items c.self.inside.pieces.items)
    ∙ ap (λ (images : List Image). touched (record { counts = c.args.counts.now; images = images })) c.self.view_is
