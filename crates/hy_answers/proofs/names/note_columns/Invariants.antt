use Rattle.std.proofs.Common.{◌≡◌, drop, fold}
use Rattle.hy_answers.specs.inside.Names.{with_name}
use Rattle.hy_answers.proofs.names.note_columns.Given as goal

-- those from here on are still to come
abbrev pub invariant-loop-column : goal.invariant-loop-column
invariant-loop-column l =
    fold with_name l.names.items (drop l.column-index l.columns) ≡ fold with_name l.fn.names.items l.columns
