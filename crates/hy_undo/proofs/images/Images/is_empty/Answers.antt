use Rattle.std.proofs.Common.{rules, ◌≡◌, length, sym, ap, ◌∙◌, true}
use Rattle.hy_undo.proofs.PieceLaws.{length-images_of}
use Rattle.hy_undo.proofs.images.Images.is_empty.Goals as goal

pub returns : goal.returns
returns c =
    let same : length c.args.self.now ≡ length c.self.inside.pieces.items = ap length (sym c.self.view_is) ∙ length-images_of c.self.inside.bytes.items c.self.inside.pieces.items in
    let empty : (c.is_empty.result ≡ true → length c.self.inside.pieces.items ≡ 0) × (length c.self.inside.pieces.items ≡ 0 → c.is_empty.result ≡ true) = search rules in
    (λ yes'. same ∙ empty.0 yes', λ none. empty.1 (sym same ∙ none))
