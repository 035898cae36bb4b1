-- What holds of a query that is being read, at each place of the language.
use Rattle.std.specs.Prelude.{◌≡◌, ◌<◌, ◌≤◌, [], length, All}
use Rattle.hy_query.specs.declared.parse.Next.{Next}
use Rattle.hy_query.specs.declared.parse.Next.TheVariants as nexts
use Rattle.hy_query.specs.Queries.{AreDifferent, IsCondition, IsItem, IsOneOf, IsQuery, QueryState}

-- no condition, group, item or key was read
pub record HasTables (query : QueryState) : Type 0 where
  pub few_tables : length query.tables ≤ 4
  pub different : AreDifferent query.tables
  pub no_conditions : query.conditions ≡ []
  pub no_groups : query.groups ≡ []
  pub no_items : query.items ≡ []
  pub no_keys : query.keys ≡ []

-- the tables are read, and what was read behind them is right
pub record IsRight (query : QueryState) : Type 0 where
  pub some_tables : 1 ≤ length query.tables
  pub few_tables : length query.tables ≤ 4
  pub different : AreDifferent query.tables
  pub conditions : All (IsCondition query.tables) query.conditions
  pub groups : All (IsOneOf query.tables) query.groups
  pub items : All (IsItem query.tables) query.items
  pub keys : All (λ key. (1 ≤ key.place) × (key.place ≤ length query.items)) query.keys

-- and so at each place
abbrev pub IsReached : QueryState → Next → Type 0
IsReached query nexts.From = HasTables query × (query.tables ≡ [])
IsReached query nexts.Table = HasTables query × (length query.tables < 4)
IsReached query nexts.BehindTable = HasTables query × (1 ≤ length query.tables)
IsReached query nexts.Left = IsRight query × (query.keys ≡ [])
IsReached query (nexts.Comparison left) = IsRight query × (query.keys ≡ []) × IsOneOf query.tables left
IsReached query (nexts.Right left comparison) = IsRight query × (query.keys ≡ []) × IsOneOf query.tables left
IsReached query nexts.BehindCondition = IsRight query × (query.keys ≡ [])
IsReached query nexts.Group = IsRight query × (query.keys ≡ [])
IsReached query nexts.BehindGroup = IsRight query × (query.keys ≡ [])
IsReached query nexts.Item = IsRight query × (query.keys ≡ [])
IsReached query (nexts.Of aggregate) = IsRight query × (query.keys ≡ [])
IsReached query nexts.BehindItem = IsRight query × (query.keys ≡ []) × (1 ≤ length query.items)
IsReached query nexts.Key = IsQuery query
IsReached query (nexts.BehindKey place) = IsQuery query × (1 ≤ place) × (place ≤ length query.items)
IsReached query nexts.BehindDescending = IsQuery query
