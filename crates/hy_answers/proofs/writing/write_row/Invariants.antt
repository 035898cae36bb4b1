use Rattle.std.proofs.Common.{[], ℕ, List, map, take}
use Rattle.hy_answers.specs.Texts.{field_of}
use Rattle.hy_tallies.specs.Lines.{row_at}
use Rattle.hy_answers.specs.inside.Writers.{HasFields}
use Rattle.hy_answers.proofs.writing.write_row.Given as goal

-- the fields so far
abbrev pub invariant-loop-column : goal.invariant-loop-column
invariant-loop-column l =
    (text : List ℕ) → HasFields text [] l.fn.writer
    → HasFields text (map field_of (row_at (take l.column-index l.columns) l.row)) l.writer
