use Rattle.std.proofs.Common.{subst}
use Rattle.hy_rows.specs.Texts.{IsText}
use Rattle.hy_rows.proofs.TextLaws.{IsText-text_of}
use Rattle.hy_rows.proofs.text.Text.field.Goals as goal

-- the text of a field fits the field's width
pub returns-clause-text : goal.returns-clause-text
returns-clause-text g c = subst (IsText g.row.WIDTH) c.self.view_is (IsText-text_of g.row.WIDTH c.self.inside.field c.self.told)
