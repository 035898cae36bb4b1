use Rattle.std.proofs.Common.{◌≡◌, ◌+◌, ◌&&◌, not, true, false, drop, get_or, sym, ap, ◌∙◌}
use Rattle.std.proofs.lemmas.List.{take_rest}
use Rattle.std.specs.List.{list_any}
use Rattle.hy_undo.specs.declared.images.Piece.{Piece}
use Rattle.hy_undo.specs.Touched.{was_there, is_same_address}
use Rattle.hy_undo.specs.inside.Pieces.{address_of_piece}
use Rattle.hy_undo.proofs.PieceLaws.{last_in}
use Rattle.hy_undo.proofs.images.is_last_in.Goals as goal

pub returns-then-was_there : goal.returns-then-was_there
returns-then-was_there c =
    let piece : Piece = get_or c.args.pieces.now c.args.i (record { segment = 0; page = 0; offset = 0; count = 0 }) in
    let among = list_any (λ other. is_same_address (address_of_piece piece) (address_of_piece other)) (drop (c.args.i + 1) c.args.pieces.now) in
    let was : was_there c.args.counts.now (address_of_piece piece) ≡ true = sym c.was_there.ensures ∙ c.if-was_there.true in
    ap not (c.is_page_among.ensures ∙ ap (list_any (λ other. is_same_address (address_of_piece piece) (address_of_piece other))) (take_rest c.args.pieces.now (c.args.i + 1))) ∙ sym (ap (λ b. b && not among) was) ∙ last_in c.args.pieces.now c.args.counts.now c.args.i

pub returns-else-was_there : goal.returns-else-was_there
returns-else-was_there c =
    let piece : Piece = get_or c.args.pieces.now c.args.i (record { segment = 0; page = 0; offset = 0; count = 0 }) in
    let among = list_any (λ other. is_same_address (address_of_piece piece) (address_of_piece other)) (drop (c.args.i + 1) c.args.pieces.now) in
    let was : was_there c.args.counts.now (address_of_piece piece) ≡ false = sym c.was_there.ensures ∙ c.if-was_there.false in
    c.if-was_there.false ∙ sym (ap (λ b. b && not among) was) ∙ last_in c.args.pieces.now c.args.counts.now c.args.i
