-- What lists have of a query that is being read.
use Rattle.std.specs.Prelude.{◌≡◌, IsTrue}
use Rattle.hy_query.specs.declared.lists.Lists.{Lists}
use Rattle.hy_query.specs.Queries.{QueryState}

-- as far as memory has lasted, lists are those of a query
pub record HasLists (lists : Lists) (query : QueryState) : Type 0 where
  pub conditions : IsTrue lists.is_complete → lists.conditions.items ≡ query.conditions
  pub groups : IsTrue lists.is_complete → lists.groups.items ≡ query.groups
  pub items : IsTrue lists.is_complete → lists.items.items ≡ query.items
  pub keys : IsTrue lists.is_complete → lists.keys.items ≡ query.keys
