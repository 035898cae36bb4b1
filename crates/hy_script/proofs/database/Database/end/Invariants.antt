use Rattle.std.proofs.Common.{◌≡◌, ◌+◌, length}
use Rattle.hy_script.proofs.database.Database.end.Given as goal

abbrev pub invariant-loop : goal.invariant-loop
invariant-loop g l = l.counter + length l.self.snapshots ≡ l.end
