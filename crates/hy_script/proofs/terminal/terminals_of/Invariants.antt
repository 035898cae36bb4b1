use Rattle.std.proofs.Common.{◌≡◌, ◌+◌, ◌≤◌, All, length, vec_capacity}
use Rattle.hy_script.specs.inside.Invariants.{IsReady}
use Rattle.hy_script.proofs.terminal.terminals_of.Given as goal

-- the terminals so far have their passes, and the passes of those to come are left
abbrev pub invariant-loop : goal.invariant-loop
invariant-loop g l =
    (length l.terminals.items ≡ l.counter)
    × (length l.passes.items + l.counter ≡ l.count + 1)
    × (l.count ≤ vec_capacity l.terminals)
    × All (IsReady l.max_frames) l.terminals.items
