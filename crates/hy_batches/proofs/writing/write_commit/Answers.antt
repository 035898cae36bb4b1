use Rattle.std.proofs.Common.{[], ◌∷◌}
use Rattle.hy_batches.specs.Encoding.{command_bytes, number_bytes}
use Rattle.hy_batches.proofs.writing.write_commit.Goals as goal

-- the tag, and what stands behind it
pub returns-in-Local : goal.returns-in-Local
returns-in-Local g c = rw c.in-Local.is
    (g.met.S.Sink.takes_both _ _ _ (0 ∷ []) (command_bytes c.in-Local.command) c.put.ensures c.write_command.ensures)

pub returns-in-Cross : goal.returns-in-Cross
returns-in-Cross g c = rw c.in-Cross.is
    (g.met.S.Sink.takes_both _ _ _ (1 ∷ number_bytes 8 c.in-Cross.number) (command_bytes c.in-Cross.command)
    (g.met.S.Sink.takes_both _ _ _ (1 ∷ []) (number_bytes 8 c.in-Cross.number) c.put-in-Cross.ensures c.write_number.ensures)
    c.write_command-in-Cross.ensures)
