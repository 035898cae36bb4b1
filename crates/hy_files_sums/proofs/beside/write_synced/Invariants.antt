use Rattle.std.proofs.Common.{◌≡◌, List, ℕ, ◌++◌, length}
use Rattle.hy_redo.specs.Writers.{with_more}
use Rattle.hy_files_sums.proofs.beside.write_synced.Given as goal

-- the bytes before those that are left were written
abbrev pub invariant-loop-rest : goal.invariant-loop-rest
invariant-loop-rest g l =
    (front : List ℕ) × (l.bytes ≡ front ++ l.rest) × (g.W.LogOut.told l.out ≡ with_more (g.W.LogOut.told l.initial.out) front)

abbrev pub decreases-loop-rest : goal.decreases-loop-rest
decreases-loop-rest g l = length l.rest
