use Rattle.std.proofs.Common.{ap, ◌∙◌}
use Rattle.std.specs.Int.{from_le_bytes, w64}
use Rattle.hy_batches.proofs.NumberLaws.{read_number}
use Rattle.hy_batches.proofs.values.word.Goals as goal

pub returns : goal.returns
returns c =
    c.from_le_bytes.ensures
    ∙ (ap (from_le_bytes w64) c.copy_from_slice.ensures.after ∙ read_number c.args.bytes.now c.requires)
