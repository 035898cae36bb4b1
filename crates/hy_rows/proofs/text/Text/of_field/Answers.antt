use Rattle.std.proofs.Common.{ap, ◌∙◌, subst, sym, rules}
use Rattle.hy_rows.specs.Texts.{IsText, padded, text_of}
use Rattle.hy_rows.proofs.TextLaws.{IsText-text_of, padded-whole}
use Rattle.hy_rows.proofs.text.Text.of_field.Goals as goal

-- a field with only zeros behind its text is the padded text
pub invariant_of-result : goal.invariant_of-result
invariant_of-result g c =
    let bytes = c.args.bytes.now in
    ap (λ field. padded g.row.WIDTH (text_of field)) c.whole.ensures
    ∙ padded-whole g.row.WIDTH bytes c.text_len-len.result c.requires c.text_len-len.ensures.text (sym c.has_only_zeros.ensures ∙ c.if-has_only_zeros.true)
    ∙ sym c.whole.ensures

-- the text of a field fits the field's width
pub of_bytes-requires : goal.of_bytes-requires
of_bytes-requires g c =
    let width = g.row.WIDTH in
    let bytes = c.args.bytes.now in
    (search rules, subst (IsText width) (sym c.text_len-len.ensures.text) (IsText-text_of width bytes c.requires))
