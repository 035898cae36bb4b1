use Rattle.std.proofs.Common.{◌∙◌, List, ℕ, ap₂, lit<, subst, sym}
use Rattle.hy_rows.specs.Texts.{IsText}
use Rattle.hy_commands.specs.Payments.{noted as cut}
use Rattle.hy_writers.proofs.InformationLaws.{noted-text}
use Rattle.hy_writers.proofs.information.noted.Goals as goal

pub of_bytes-requires : goal.of_bytes-requires
of_bytes-requires c =
    let made = c.as_slice-2.ensures.value ∙ c.cut-bytes.ensures
    ∙ ap₂ (λ (note old : List ℕ). cut note old) c.as_slice.ensures.value c.as_bytes.ensures.bytes in
    (lit< tt, subst (IsText 500) (sym made) (noted-text c.note_of-note.result.items c.args.before.now.text c.note_of-note.ensures.is_text c.as_bytes.ensures.text))
