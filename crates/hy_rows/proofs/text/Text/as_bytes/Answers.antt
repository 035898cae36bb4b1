use Rattle.std.proofs.Common.{ap, ◌∙◌}
use Rattle.hy_rows.specs.Texts.{text_of}
use Rattle.hy_rows.proofs.TextLaws.{text_of-padded}
use Rattle.hy_rows.proofs.text.Text.as_bytes.Goals as goal

-- the text stands before the first zero of its field
pub returns-clause-bytes : goal.returns-clause-bytes
returns-clause-bytes g c =
    c.text_len.ensures.text
    ∙ ap text_of c.field-field.ensures.padded
    ∙ text_of-padded g.row.WIDTH c.args.self.now c.field-field.ensures.text
