use Rattle.std.proofs.Common.{length, ap, arith}
use Rattle.hy_columns.proofs.CopiedLaws.{length-texts}
use Rattle.hy_columns.proofs.texts.CopiedTexts.text.Goals as goal

pub text_at-requires-clause-there : goal.text_at-requires-clause-there
text_at-requires-clause-there c =
    omega (
      arith,
      c.requires,
      ap length c.self.view_is,
      ap length c.deref-2.ensures.value,
      length-texts c.self.inside.bytes.items 0 c.self.inside.ends.items,
    )
