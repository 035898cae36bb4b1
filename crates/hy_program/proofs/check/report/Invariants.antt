use Rattle.std.proofs.Common.{◌≡◌, ◌++◌, string_bytes, drop}
use Rattle.std.specs.List.{flat_map}
use Rattle.hy_program.specs.Check.{line_of}
use Rattle.hy_program.proofs.check.report.Given as goal

-- what was written, and the lines of the rows that are left, is all
abbrev pub invariant-loop-warehouse : goal.invariant-loop-warehouse
invariant-loop-warehouse l =
    string_bytes l.text ++ flat_map (line_of l.tables) (drop l.warehouse-index l.warehouse-items)
    ≡ flat_map (line_of l.tables) l.warehouse-items
