use Rattle.std.proofs.Common.{refl, arith}
use Rattle.std.specs.Int.{to_le_bytes, w64}
use Rattle.hy_batches.proofs.NumberLaws.{written_number}
use Rattle.hy_batches.proofs.writing.low.Goals as goal

pub returns : goal.returns
returns c =
    rw c.to_le_bytes.ensures (written_number (to_le_bytes w64 c.args.number) 1 c.args.number refl (omega arith))
