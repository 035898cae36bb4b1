use Rattle.std.proofs.Common.{◌≡◌, drop}
use Rattle.std.specs.Prelude.{option_map}
use Rattle.hy_csv.specs.inside.Names.{names_in}
use Rattle.hy_csv.specs.inside.Writers.{with_record}
use Rattle.hy_csv.proofs.writing.write_names.Given as goal

-- what is left to do from here gives the whole record
abbrev pub invariant-loop-column : goal.invariant-loop-column
invariant-loop-column l =
    option_map (with_record (drop l.column-index (names_in l.columns))) l.records
    ≡ option_map (with_record (names_in l.columns)) l.fn.records
