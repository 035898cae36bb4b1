use Rattle.std.proofs.Common.{◌+◌, ◌&&◌, not, List, length, map, drop, sym, ap, ◌∙◌, arith, get_or}
use Rattle.std.specs.List.{list_any}
use Rattle.hy_undo.specs.Touched.{PageAddress, was_there, is_same_address, address_of}
use Rattle.hy_undo.specs.UndoLog.{Image}
use Rattle.hy_undo.specs.inside.Pieces.{address_of_piece}
use Rattle.hy_undo.proofs.PieceLaws.{length-images_of, addresses-images_of}
use Rattle.hy_undo.proofs.images.Images.is_last_touched.Goals as goal

pub is_last_in-requires : goal.is_last_in-requires
is_last_in-requires c = omega (arith, c.requires, length-images_of c.self.inside.bytes.items c.self.inside.pieces.items, ap length c.self.view_is, ap length c.as_slice.ensures.value)

pub returns : goal.returns
returns c =
    let counts = c.args.counts.now in
    let i = c.args.i in
    let none : PageAddress = record { segment = 0; page = 0 } in
    let test = λ (all : List PageAddress). was_there counts (get_or all i none) && not (list_any (is_same_address (get_or all i none)) (drop (i + 1) all)) in
    c.is_last_in.ensures
    ∙ ap (λ pieces. test (map address_of_piece pieces)) c.as_slice.ensures.value
    ∙ ap test (sym (addresses-images_of c.self.inside.bytes.items c.self.inside.pieces.items))
    ∙ ap (λ (images : List Image). test (map address_of images)) c.self.view_is
