-- Lists that make a query.
use Rattle.std.specs.Prelude.{◌≡◌, IsTrue, List}
use Rattle.hy_rows.specs.declared.catalogue.Table.{Table}
use Rattle.hy_query.specs.declared.column.Column.{Column}
use Rattle.hy_query.specs.declared.lists.Lists.{Lists}
use Rattle.hy_query.specs.declared.query.Condition.{Condition}
use Rattle.hy_query.specs.declared.query.SelectItem.{SelectItem}
use Rattle.hy_query.specs.declared.query.SortKey.{SortKey}
use Rattle.hy_query.specs.Queries.{QueryState}
use Rattle.hy_query.specs.inside.Lists.{HasLists}

of_parts : List Table → List Condition → List Column → List SelectItem → List SortKey → QueryState
of_parts tables conditions groups items keys =
    record { tables = tables; conditions = conditions; groups = groups; items = items; keys = keys }

-- complete lists and the tables are the query
pub HasLists-query : (lists : Lists) (query : QueryState) (tables : List Table) → IsTrue lists.is_complete
    → HasLists lists query → tables ≡ query.tables
    → query ≡ record {
      tables = tables;
      conditions = lists.conditions.items;
      groups = lists.groups.items;
      items = lists.items.items;
      keys = lists.keys.items;
    }
unfolding of_parts
HasLists-query lists query tables complete has same =
    let conditions = has.conditions complete in
    let groups = has.groups complete in
    let items = has.items complete in
    let keys = has.keys complete in
    let same_parts : of_parts query.tables query.conditions query.groups query.items query.keys
    ≡ of_parts tables lists.conditions.items lists.groups.items lists.items.items lists.keys.items = cc in
    same_parts
