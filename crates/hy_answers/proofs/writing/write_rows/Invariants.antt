use Rattle.std.proofs.Common.{◌++◌, [], ℕ, List, take}
use Rattle.std.specs.List.{flat_map}
use Rattle.hy_answers.specs.Texts.{record_text}
use Rattle.hy_answers.specs.inside.Answers.{rows_in}
use Rattle.hy_answers.specs.inside.Writers.{HasFields}
use Rattle.hy_answers.proofs.writing.write_rows.Given as goal

-- the rows so far
abbrev pub invariant-loop-row : goal.invariant-loop-row
invariant-loop-row l =
    (text : List ℕ) → HasFields text [] l.fn.writer
    → HasFields (text ++ flat_map record_text (rows_in l.columns (take l.row-index l.order))) [] l.writer
