use Rattle.std.proofs.Common.{◌≡◌}
use Rattle.std.specs.Prelude.{length}
use Rattle.hy_engine.proofs.engine.Engine.hold.Given as goal

abbrev pub invariant-loop-place : goal.invariant-loop-place
invariant-loop-place g l = (length l.held ≡ l.place) × (l.place-end ≡ l.fn.self.warehouses)
