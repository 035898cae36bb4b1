use Rattle.std.proofs.Common.{◌≡◌, ◌*◌, ◌^◌, ◌≤◌, length, take}
use Rattle.hy_columns.specs.inside.Pages.{whole_row}
use Rattle.hy_columns.specs.inside.Scans.{read_all}
use Rattle.hy_columns.proofs.reading.count_all.Given as goal

-- the rows of the warehouses so far, which are few
abbrev pub invariant-loop-place : goal.invariant-loop-place
invariant-loop-place g l = record {
  rows : l.rows ≡ length (read_all g.row.N l.segment whole_row (take l.place l.scan.pages));
  few : l.rows ≤ l.place * 2 ^ 56;
}
