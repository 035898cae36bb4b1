use Rattle.std.specs.Prelude.{IsSome}
use Rattle.hy_engine.specs.inside.Early.{AreEarly}
use Rattle.hy_engine.proofs.engine.Engine.run_early.Given as goal

abbrev pub invariant-loop : goal.invariant-loop
invariant-loop g l = AreEarly l.fn.part l.part × IsSome l.part.running
