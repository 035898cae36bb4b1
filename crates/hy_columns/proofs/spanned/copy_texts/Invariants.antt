use Rattle.std.proofs.Common.{◌≡◌, ◌++◌}
use Rattle.hy_columns.specs.inside.Pages.{rows_from}
use Rattle.hy_columns.specs.inside.Spanned.{text_in}
use Rattle.hy_columns.proofs.spanned.copy_texts.Given as goal

-- the texts of the slots so far
abbrev pub invariant-loop-place : goal.invariant-loop-place
invariant-loop-place g l =
    l.texts ≡ l.fn.texts ++ rows_from g.row.N l.column.segment.row_bytes (text_in l.column) l.pages l.first l.place
