use Rattle.std.proofs.Common.{◌≡◌, ◌+◌, ◌≤◌, drop}
use Rattle.hy_undo.specs.inside.Pieces.{touched_by}
use Rattle.hy_undo.proofs.images.touched_pieces.Given as goal

-- what is counted so far, and what the pieces from here on add
abbrev pub invariant-loop-i : goal.invariant-loop-i
invariant-loop-i l = record {
  sum : l.touched + touched_by (drop l.i l.pieces) l.counts ≡ touched_by l.pieces l.counts;
  few : l.touched ≤ l.i;
}
