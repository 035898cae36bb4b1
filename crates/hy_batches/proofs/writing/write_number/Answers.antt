use Rattle.std.proofs.Common.{subst}
use Rattle.hy_batches.proofs.NumberLaws.{written_number}
use Rattle.hy_batches.proofs.writing.write_number.Goals as goal

pub returns : goal.returns
returns g c =
    subst (g.S.Sink.takes c.args.sink.now c.put.new.self)
    (written_number c.to_le_bytes.result c.args.width c.args.number c.to_le_bytes.ensures c.requires) c.put.ensures
