use Rattle.std.proofs.Common.{◌≡◌, ◌+◌, ◌++◌, ℕ, List, length}
use Rattle.hy_csv.specs.Texts.{rows_of}
use Rattle.hy_csv.specs.inside.Readers.{StandsBefore}
use Rattle.hy_csv.specs.Fields.{row_lacking}
use Rattle.hy_csv.proofs.reading.read_rows.Given as goal

abbrev pub invariant-loop : goal.invariant-loop
invariant-loop g l = (records : List (List (List ℕ))) → StandsBefore records l.fn.reader
    → (later : List (List (List ℕ))) × StandsBefore later l.reader
    × (rows_of (row_lacking g.R.Record.TABLE g.R.Record.row_with l.fn.lacking) records ≡ l.rows.items ++ rows_of (row_lacking g.R.Record.TABLE g.R.Record.row_with l.fn.lacking) later)
    × (length records ≡ length l.rows.items + length later)
