use Rattle.std.proofs.Common.{ap, ◌∙◌}
use Rattle.hy_rows.specs.Texts.{text_of}
use Rattle.hy_rows.proofs.TextLaws.{text_of-padded, padded-text_of}
use Rattle.hy_rows.proofs.text.Text.of_bytes.Goals as goal

-- the field is the padded text
pub invariant_of-result : goal.invariant_of-result
invariant_of-result g c = padded-text_of g.row.WIDTH c.args.bytes.now c.field_of.result c.requires c.field_of.ensures

-- which reads as the text
pub returns : goal.returns
returns g c = ap text_of c.field_of.ensures ∙ text_of-padded g.row.WIDTH c.args.bytes.now c.requires
