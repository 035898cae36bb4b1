use Rattle.std.proofs.Common.{◌<◌, ◌+◌, ◌&&◌, ℕ, Bool, not, cond, arith, length, get_or, drop, sym, ap, ap₂, ◌∙◌}
use Rattle.std.specs.List.{list_any}
use Rattle.std.proofs.lemmas.List.{take_rest}
use Rattle.hy_undo.specs.declared.images.Piece.{Piece}
use Rattle.hy_undo.specs.Touched.{is_same_address}
use Rattle.hy_undo.specs.inside.Pieces.{address_of_piece}
use Rattle.hy_undo.proofs.PieceLaws.{touched_by-drop_more}
use Rattle.hy_undo.proofs.images.touched_pieces.Goals as goal
use Rattle.hy_undo.proofs.images.touched_pieces.Goals.{then-was_there+then-not-is_page_among, else-was_there, else-was_there-via-then-was_there+else-not-is_page_among, else-was_there-via-else-was_there}

pub loop-i-preserved : goal.loop-i-preserved
loop-i-preserved c =
    let pieces = c.args.pieces.now in
    let i = c.loop-i.i in
    let none : Piece = record { segment = 0; page = 0; offset = 0; count = 0 } in
    let piece = get_or pieces i none in
    let later = drop (i + 1) pieces in
    let same = λ (other : Piece). is_same_address (address_of_piece piece) (address_of_piece other) in
    let counted = λ (there among : Bool). cond {A = ℕ} (there && not among) 1 0 in
    let within : i < length pieces = omega arith in
    let more = touched_by-drop_more pieces c.args.counts.now i none within in
    let sum = c.loop-i.invariant.sum in
    let few = c.loop-i.invariant.few in
    elim c.if-was_there.branch [
      | then-was_there+then-not-is_page_among w ↦
          let one = ap₂ counted (sym w.if-was_there.ensures) (ap (list_any same) (sym (take_rest pieces (i + 1))) ∙ sym w.if-not-is_page_among.ensures) in
          record { sum = omega (arith, w.touched-is); few = omega (arith, w.touched-is) }
      | else-was_there w ↦ elim w.else-was_there.branch [
        | else-was_there-via-then-was_there+else-not-is_page_among w' ↦
            let nothing = ap₂ counted (sym w'.if-was_there.ensures) (ap (list_any same) (sym (take_rest pieces (i + 1))) ∙ sym w'.if-not-is_page_among.ensures) in
            record { sum = omega (arith, w.touched-is); few = omega (arith, w.touched-is) }
        | else-was_there-via-else-was_there w' ↦
            let nothing = ap (λ (there : Bool). counted there (list_any same later)) (sym w'.if-was_there.ensures) in
            record { sum = omega (arith, w.touched-is); few = omega (arith, w.touched-is) }
      ]
    ]
