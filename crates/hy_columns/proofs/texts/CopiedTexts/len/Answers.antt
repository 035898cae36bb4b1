use Rattle.std.proofs.Common.{length, ap, sym, ◌∙◌}
use Rattle.hy_columns.proofs.CopiedLaws.{length-texts}
use Rattle.hy_columns.proofs.texts.CopiedTexts.len.Goals as goal

pub returns : goal.returns
returns c =
    c.len.ensures ∙ c.self.inside.ends.ok.0 ∙ sym (length-texts c.self.inside.bytes.items 0 c.self.inside.ends.items)
    ∙ ap length c.self.view_is
