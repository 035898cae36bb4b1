use Rattle.std.proofs.Common.{subst, sym, rules}
use Rattle.hy_rows.specs.Texts.{IsText}
use Rattle.hy_rows.proofs.TextLaws.{IsText-text_of}
use Rattle.hy_rows.proofs.long_text.LongText.of_field.Goals as goal

-- the text of a field fits the field's width
pub of_bytes-requires : goal.of_bytes-requires
of_bytes-requires g c =
    let width = g.row.WIDTH in
    (search rules, subst (IsText width) (sym c.text_len.ensures.text) (IsText-text_of width c.args.bytes.now c.requires))
