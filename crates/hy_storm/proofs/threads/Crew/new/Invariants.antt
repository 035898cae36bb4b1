use Rattle.std.proofs.Common.{◌≡◌, ◌≤◌}
use Rattle.std.specs.Prelude.{vec_capacity, length}
use Rattle.hy_storm.proofs.threads.Crew.new.Given as goal

abbrev pub invariant-loop-before : goal.invariant-loop-before
invariant-loop-before g l = (length l.terminals.items ≡ l.before) × (l.size.terminals ≤ vec_capacity l.terminals)

abbrev pub invariant-loop : goal.invariant-loop
invariant-loop g l = (length l.sessions.items ≡ l.counter) × (l.fn.size.sessions ≤ vec_capacity l.sessions)
