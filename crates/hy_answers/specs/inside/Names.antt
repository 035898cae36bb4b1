-- The columns that a query names, each once.
use Rattle.std.specs.Prelude.{if◌then◌else◌, List, [], ◌∷◌, ◌++◌}
use Rattle.std.specs.List.{list_any}
use Rattle.hy_query.specs.declared.column.Column.{Column}
use Rattle.hy_query.specs.Language.{is_column}

-- some columns and one more, unless it is among them
abbrev pub with_name : List Column → Column → List Column
with_name names column =
    if list_any (λ other. is_column other column) names then names else names ++ column ∷ []
