use Rattle.std.proofs.Common.{◌≡◌, length, map, take}
use Rattle.hy_rows.specs.Spelling.{tables_of}
use Rattle.hy_session.proofs.ScanLaws.{tables_in}
use Rattle.hy_session.proofs.scans.scan_of.Given as goal

-- the pages of the snapshots before the place
abbrev pub invariant-loop-place : goal.invariant-loop-place
invariant-loop-place g l = record {
  tables : map (tables_of g.row.N) l.pages.items ≡ tables_in g.row.N (take l.place l.all);
  count : length l.pages.items ≡ l.place;
  end : l.place-end ≡ length l.all;
}
