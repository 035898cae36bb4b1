use Rattle.std.proofs.Common.{◌≡◌, length, take}
use Rattle.hy_session.specs.inside.Joined.{joined}
use Rattle.hy_session.proofs.rows.rows_of_all.Given as goal

-- the rows of the snapshots before the place
abbrev pub invariant-loop-place : goal.invariant-loop-place
invariant-loop-place g l =
    (l.rows.items ≡ joined g.R.Row.rows_in g.row.N (take l.place l.all)) × (l.place-end ≡ length l.all)
