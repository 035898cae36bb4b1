use Rattle.std.proofs.Common.{rules, ◌≡◌, ◌-◌, ◌++◌, ◌∷◌, [], List, length, take, drop, sym, ap, ◌∙◌}
use Rattle.hy_undo.specs.UndoLog.{Image}
use Rattle.hy_undo.specs.inside.Pieces.{images_of, byte_count}
use Rattle.hy_undo.proofs.PieceLaws.{image_of, images_of-pop, take-front}
use Rattle.hy_undo.proofs.images.Images.drop_last.Goals as goal

pub returns-in-Some : goal.returns-in-Some
returns-in-Some c =
    let bytes = c.self.inside.bytes.items in
    let rest = c.pop.new.self.items in
    let piece = c.in-Some.piece in
    let parts : c.self.inside.pieces.items ≡ rest ++ piece ∷ [] = c.in-Some.ensures.items in
    let size : c.len.result ≡ length bytes = search rules in
    let kept : c.truncate.new.self.items ≡ take (length bytes - piece.count) bytes = c.truncate.ensures.items ∙ ap (λ n. take (n - piece.count) bytes) size in
    let last = image_of piece (drop (length bytes - piece.count) bytes) in
    let whole : c.args.self.now ≡ images_of (take (length bytes - piece.count) bytes) rest ++ last ∷ [] =
    sym c.self.view_is ∙ ap (images_of bytes) parts ∙ images_of-pop bytes rest piece (sym (ap byte_count parts) ∙ c.self.invariant)
    in
    ap (λ all. images_of all rest) kept
    ∙ sym (ap (λ (all : List Image). take (length all - 1) all) whole ∙ take-front (images_of (take (length bytes - piece.count) bytes) rest) last)
