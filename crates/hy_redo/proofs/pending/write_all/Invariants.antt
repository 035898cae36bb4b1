use Rattle.std.proofs.Common.{◌≡◌, List, ℕ, ◌++◌, length}
use Rattle.hy_redo.specs.Writers.{with_more}
use Rattle.hy_redo.proofs.pending.write_all.Given as goal

-- the bytes before those that are left were written
abbrev pub invariant-rest : goal.invariant-rest
invariant-rest g l =
    (front : List ℕ) × (l.bytes ≡ front ++ l.rest) × (g.W.LogOut.told l.out ≡ with_more (g.W.LogOut.told l.initial.out) front)

abbrev pub decreases-rest : goal.decreases-rest
decreases-rest g l = length l.rest
