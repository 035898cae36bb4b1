use Rattle.std.proofs.Common.{◌++◌, take, codes, decimal}
use Rattle.std.specs.List.{flat_map}
use Rattle.std.specs.Io.KnownBytes.{Appends}
use Rattle.hy_events.proofs.reply.write_delivered.Given as goal

abbrev pub invariant-loop-order : goal.invariant-loop-order
invariant-loop-order g l =
    Appends (g.O.Output.contents l.initial.out) (g.O.Output.contents l.out)
    (flat_map (λ order. codes " " ++ decimal order) (take l.order-index l.orders))
