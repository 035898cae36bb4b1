use Rattle.std.proofs.Common.{arith}
use Rattle.hy_batches.proofs.NumberLaws.{same_low}
use Rattle.hy_batches.proofs.writing.content_length.Goals as goal

pub returns : goal.returns
returns c = same_low 8 _ _ (omega (arith, c.write_content.ensures))
