use Rattle.std.proofs.Common.{◌≤◌, take}
use Rattle.hy_schema.specs.Loads.{max_rows}
use Rattle.hy_loads.proofs.ListLaws.{AreRightBelow}
use Rattle.hy_loads.proofs.list.first_wrong.Given as goal

-- the rows so far are right, and were seen
abbrev pub invariant-loop-place : goal.invariant-loop-place
invariant-loop-place g l = record {
  right : AreRightBelow (g.L.Rule.right l.rule) l.rows l.place;
  seen : g.L.Rule.has_seen l.seen (take l.place l.rows);
  few : l.place ≤ max_rows;
}
