use Rattle.std.specs.Prelude.{◌++◌, codes, decimal}
use Rattle.std.specs.Fmt.{signed_decimal}
use Rattle.std.proofs.Common.{append_assoc, rules, w64}
use Rattle.std.proofs.lemmas.Int.{to_z-of_z}
use Rattle.hy_events.proofs.WriterLaws.{appends-last}
use Rattle.hy_events.proofs.reply.write_line.Goals as goal

pub returns-clause-written : goal.returns-clause-written
returns-clause-written g c =
    let line = c.args.line.now in
    simp append_assoc (simp append_assoc at (appends-last c.writeln.result (g.O.Output.contents c.args.out.now)
    (g.O.Output.contents c.write.new.self) (g.O.Output.contents c.writeln.new.self)
    (codes "line " ++ (decimal line.number ++ (codes " item " ++ (decimal line.item ++ (codes " from " ++ decimal line.supply_warehouse)))))
    (codes " quantity " ++ (decimal line.quantity ++ (codes " amount " ++ (signed_decimal line.amount ++ (codes " delivered " ++ (decimal line.delivery_date ++ codes "\n"))))))
    c.in_ok-write.ensures.bytes (rw (to_z-of_z w64 line.amount (search rules)) at c.writeln.ensures.bytes)))
