use Rattle.std.proofs.Common.{append_assoc, rules, w64}
use Rattle.std.proofs.lemmas.Int.{to_z-of_z}
use Rattle.hy_events.proofs.reply.write_paid.Goals as goal

pub returns-clause-written : goal.returns-clause-written
returns-clause-written g c =
    simp append_assoc (rw (to_z-of_z w64 c.args.balance (search rules)) at c.writeln.ensures.bytes)
