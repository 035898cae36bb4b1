use Rattle.std.proofs.Common.{◌≡◌, ◌≤◌}
use Rattle.std.specs.Prelude.{vec_capacity, length}
use Rattle.hy_engine.specs.Engines.{HavePlaces}
use Rattle.hy_engine.proofs.engine.lines.Given as goal

abbrev pub invariant-loop : goal.invariant-loop
invariant-loop g l = (length l.lines.items ≡ l.counter) × (l.count ≤ vec_capacity l.lines) × HavePlaces l.capacity l.lines.items
