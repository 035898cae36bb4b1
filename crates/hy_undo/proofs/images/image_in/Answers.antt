use Rattle.std.proofs.Common.{◌≡◌, ◌+◌, ◌-◌, ℕ, [], take, drop, ap₂, ◌∙◌, arith, get_or}
use Rattle.hy_undo.specs.UndoLog.{Image}
use Rattle.hy_undo.specs.declared.images.Piece.{Piece}
use Rattle.hy_undo.specs.inside.Pieces.{byte_count}
use Rattle.hy_undo.proofs.PieceLaws.{image_of, image_at-images_of, byte_count-more, byte_count-take-le}
use Rattle.hy_undo.proofs.images.image_in.Goals as goal

pub overflow_sub-start : goal.overflow_sub-start
overflow_sub-start c =
    let none : Piece = record { segment = 0; page = 0; offset = 0; count = 0 } in
    omega (arith, c.requires.end, byte_count-more c.args.pieces.now c.args.i none c.requires.within)

pub slice_bounds-result-end : goal.slice_bounds-result-end
slice_bounds-result-end c = omega (arith, c.requires.end, c.requires.fits, byte_count-take-le (c.args.i + 1) c.args.pieces.now)

pub returns : goal.returns
returns c =
    let none : Piece = record { segment = 0; page = 0; offset = 0; count = 0 } in
    let no_image : Image = record { segment = 0; page = 0; offset = 0; bytes = [] } in
    let pieces = c.args.pieces.now in
    let piece = get_or pieces c.args.i none in
    let more = byte_count-more pieces c.args.i none c.requires.within in
    let start : byte_count (take c.args.i pieces) ≡ c.args.end - piece.count = omega (arith, c.requires.end) in
    let count : piece.count ≡ c.args.end - (c.args.end - piece.count) = omega (arith, c.requires.end) in
    image_at-images_of c.args.bytes.now pieces c.args.i no_image none c.requires.within
    ∙ ap₂ (λ (n m : ℕ). image_of piece (take n (drop m c.args.bytes.now))) count start
