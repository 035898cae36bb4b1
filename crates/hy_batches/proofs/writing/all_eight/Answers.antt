use Rattle.hy_batches.proofs.NumberLaws.{all_written}
use Rattle.hy_batches.proofs.writing.all_eight.Goals as goal

pub returns : goal.returns
returns c = all_written c.to_le_bytes.result c.args.number c.to_le_bytes.ensures
