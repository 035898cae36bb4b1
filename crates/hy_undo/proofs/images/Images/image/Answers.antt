use Rattle.std.proofs.Common.{◌+◌, List, [], length, take, sum_by, sym, ap, ap₂, ◌∙◌, arith, get_or}
use Rattle.hy_undo.specs.UndoLog.{Image}
use Rattle.hy_undo.specs.inside.Pieces.{images_of, byte_count}
use Rattle.hy_undo.proofs.PieceLaws.{length-images_of, take-images_of, bytes-images_of, byte_count-take-le}
use Rattle.hy_undo.proofs.images.Images.image.Goals as goal

pub image_in-requires-clause-within : goal.image_in-requires-clause-within
image_in-requires-clause-within c = omega (arith, c.requires.within, length-images_of c.self.inside.bytes.items c.self.inside.pieces.items, ap length c.self.view_is, ap length c.as_slice.ensures.value)

pub image_in-requires-clause-end : goal.image_in-requires-clause-end
image_in-requires-clause-end c =
    let bytes = c.self.inside.bytes.items in
    let pieces = c.self.inside.pieces.items in
    let n = c.args.i + 1 in
    c.requires.end
    ∙ sym (ap (λ (images : List Image). sum_by (λ (image : Image). length image.bytes) (take n images)) c.self.view_is)
    ∙ ap (sum_by (λ (image : Image). length image.bytes)) (take-images_of n bytes pieces)
    ∙ bytes-images_of bytes (take n pieces) (omega (arith, byte_count-take-le n pieces, c.self.invariant))
    ∙ sym (ap (λ all. byte_count (take n all)) c.as_slice.ensures.value)

pub image_in-requires-clause-fits : goal.image_in-requires-clause-fits
image_in-requires-clause-fits c = ap byte_count c.as_slice.ensures.value ∙ c.self.invariant ∙ sym (ap length c.as_slice-2.ensures.value)

pub returns : goal.returns
returns c =
    let none : Image = record { segment = 0; page = 0; offset = 0; bytes = [] } in
    sym (ap (λ (images : List Image). get_or images c.args.i none) (ap₂ images_of c.as_slice-2.ensures.value c.as_slice.ensures.value ∙ c.self.view_is)) ∙ c.image_in.ensures
