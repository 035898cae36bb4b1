use Rattle.std.proofs.Common.{bytes_eq, ap, ◌∙◌, rules, tests}
use Rattle.std.proofs.lemmas.Iterator.{YieldsList-from_slice}
use Rattle.std.proofs.lemmas.Iterator.Search.{position_from_yields_List}
use Rattle.hy_rows.specs.declared.column.ColumnDefinition.{ColumnDefinition}
use Rattle.hy_query.specs.Columns.{lowered, place_named}
use Rattle.hy_query.proofs.WordLaws.{place_named-written}
use Rattle.hy_query.proofs.names.place_named.Goals as goal

pub returns : goal.returns
returns c =
    let columns = c.columns.result.now in
    let word = c.args.word.now in
    position_from_yields_List (λ (column : ColumnDefinition). bytes_eq word (lowered column.name.now)) _ _
    c.position.result c.position.ensures.ran (YieldsList-from_slice columns cc) (λ x b q k. search (rules, tests))
    ∙ place_named-written word columns ∙ ap (place_named word) c.columns.ensures
