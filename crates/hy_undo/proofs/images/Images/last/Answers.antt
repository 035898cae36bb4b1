use Rattle.std.proofs.Common.{rules, ℕ, ◌≡◌, ◌-◌, ◌<◌, ◌++◌, ◌∷◌, [], List, length, take, drop, get_or, arith, sym, ap, ◌∙◌, subst}
use Rattle.std.proofs.lemmas.List.{take_rest, get_or_read}
use Rattle.hy_undo.specs.declared.images.Piece.{Piece}
use Rattle.hy_undo.specs.UndoLog.{Image}
use Rattle.hy_undo.proofs.PieceLaws.{image_of, images_of-last, length-images_of}
use Rattle.hy_undo.proofs.images.Images.last.Goals as goal

pub returns : goal.returns
returns c =
    let bytes = c.self.inside.bytes.items in
    let pieces = c.self.inside.pieces.items in
    let piece = c.index-piece.result.now in
    let none : Piece = record { segment = 0; page = 0; offset = 0; count = 0 } in
    let some : 0 < length pieces = omega (arith, length-images_of bytes pieces, ap length c.self.view_is, c.requires) in
    let n : c.len.result ≡ length pieces = search rules in
    let m : c.len-2.result ≡ length bytes = search rules in
    let read : piece ≡ get_or pieces (length pieces - 1) none = get_or_read pieces (length pieces - 1) piece (omega arith) (c.index-piece.ensures ∙ ap (λ k. get_or pieces (k - 1) piece) n) none in
    let end : take (length c.deref.result.now - (c.len-2.result - piece.count)) (drop (c.len-2.result - piece.count) c.deref.result.now) ≡ drop (length bytes - piece.count) bytes =
    take_rest c.deref.result.now (c.len-2.result - piece.count) ∙ ap (λ k. drop (k - piece.count) c.deref.result.now) m ∙ ap (drop (length bytes - piece.count)) c.deref.ensures.value
    in
    let front_of = λ (images : List Image). take (length images - 1) images in
    let p = get_or pieces (length pieces - 1) none in
    let whole = subst (λ (images : List Image). images ≡ front_of images ++ image_of p (drop (length bytes - p.count) bytes) ∷ []) c.self.view_is (images_of-last bytes pieces none c.self.invariant some) in
    whole
    ∙ ap (λ (x : Piece). front_of c.args.self.now ++ image_of x (drop (length bytes - x.count) bytes) ∷ []) (sym read)
    ∙ ap (λ (all : List ℕ). front_of c.args.self.now ++ image_of piece all ∷ []) (sym end)
