-- Which texts are queries: `from TABLES [where CONDITIONS] [group COLUMNS] select ITEMS [order KEYS]`, and which query each
-- of them says. A text is read from left to right. Behind each token something is to come, and the next token goes on
-- from there, or can't stand there.
use Rattle.std.specs.Prelude.{ℕ, ◌^◌, ◌==◌, ◌&&◌, ◌||◌, ◌++◌, Bool, true, false, not, if◌then◌else◌, nat_le, nat_lt, ℤ, pos, neg_ℤ, List, [], ◌∷◌, length, fold, Option, None, Some, option_map, option_and_then, Result, Ok, Err, bytes_eq, codes}
use Rattle.std.specs.List.{list_any}
use Rattle.hy_decimal.specs.Numbers.{number_of}
use Rattle.hy_rows.specs.Catalogue.{place_of}
use Rattle.hy_rows.specs.declared.catalogue.Table.{Table}
use Rattle.hy_query.specs.declared.column.Column.{Column}
use Rattle.hy_query.specs.declared.column.Kind.{Kind}
use Rattle.hy_query.specs.declared.column.Kind.TheVariants as kinds
use Rattle.hy_query.specs.declared.parse.Aggregate.{Aggregate}
use Rattle.hy_query.specs.declared.parse.Aggregate.TheVariants as aggregates
use Rattle.hy_query.specs.declared.parse.Next.{Next}
use Rattle.hy_query.specs.declared.parse.Next.TheVariants as nexts
use Rattle.hy_query.specs.declared.query.Comparison.{Comparison}
use Rattle.hy_query.specs.declared.query.Comparison.TheVariants as comparisons
use Rattle.hy_query.specs.declared.query.Operand.{Operand}
use Rattle.hy_query.specs.declared.query.Operand.TheVariants as operands
use Rattle.hy_query.specs.declared.query.SelectItem.{SelectItem}
use Rattle.hy_query.specs.declared.query.SelectItem.TheVariants as items
use Rattle.hy_rows.specs.declared.value.Value.{Value}
use Rattle.hy_rows.specs.declared.value.Value.TheVariants as values
use Rattle.hy_query.specs.Columns.{column_among, first_of, kind_of, table_named}
use Rattle.hy_query.specs.Queries.{QueryState, no_query}
use Rattle.hy_query.specs.Tokens.{Token, tokens}

-- a value that is there, and then what follows from it
infixl 10 ◌>>=◌
abbrev ◌>>=◌ : {A B : Type 0} → Option A → (A → Option B) → Option B
value >>= next = option_and_then next value

-- a value, where a condition holds
abbrev where_is : {A : Type 0} → Bool → A → Option A
where_is condition value = if condition then Some value else None

-- the same table, the same column
abbrev pub is_table : Table → Table → Bool
is_table one other = place_of one == place_of other

abbrev pub is_column : Column → Column → Bool
is_column one other = is_table one.table other.table && (one.place == other.place)

-- the same kind
abbrev pub is_kind : Kind → Kind → Bool
is_kind kinds.Whole kinds.Whole = true
is_kind kinds.Text kinds.Text = true
is_kind one other = false

abbrev pub has_kind : Option Kind → Option Kind → Bool
has_kind (Some one) (Some other) = is_kind one other
has_kind one other = false

-- ---- what single tokens say

-- a whole number of 64 bits in two's complement: decimal digits without leading zeros, behind a minus or not; no `-0`
abbrev pub negative_of : ℕ → Option ℤ
negative_of number = where_is (nat_le 1 number && nat_le number (2 ^ 63)) (neg_ℤ (pos number))

abbrev pub whole_of : List ℕ → Option ℤ
whole_of [] = None
whole_of (first ∷ digits) =
    if first == 45 then number_of 64 digits >>= negative_of
    else option_map pos (number_of 63 (first ∷ digits))

-- a text in quotes, without them: the quote that closes it is the last byte
abbrev pub quoted : List ℕ → Option (List ℕ)
quoted [] = None
quoted (byte ∷ []) = where_is (byte == 39) []
quoted (byte ∷ next ∷ later) =
    if byte == 39 then None else option_map (λ text. byte ∷ text) (quoted (next ∷ later))

abbrev pub text_of : List ℕ → Option (List ℕ)
text_of [] = None
text_of (first ∷ later) = if first == 39 then quoted later else None

abbrev pub comparison_named : List ℕ → Option Comparison
comparison_named word =
    if bytes_eq word (codes "=") then Some comparisons.Equal
    else if bytes_eq word (codes "<>") then Some comparisons.NotEqual
    else if bytes_eq word (codes "<") then Some comparisons.Less
    else if bytes_eq word (codes "<=") then Some comparisons.LessOrEqual
    else if bytes_eq word (codes ">") then Some comparisons.Greater
    else if bytes_eq word (codes ">=") then Some comparisons.GreaterOrEqual
    else None

abbrev pub aggregate_named : List ℕ → Option Aggregate
aggregate_named word =
    if bytes_eq word (codes "sum") then Some aggregates.Sum
    else if bytes_eq word (codes "min") then Some aggregates.Min
    else if bytes_eq word (codes "max") then Some aggregates.Max
    else None

-- an operand of some kind: a number, a text, or a column of one of the tables
abbrev pub value_of : List ℕ → Option Value
value_of word = first_of (option_map values.Whole (whole_of word)) (option_map values.Text (text_of word))

abbrev pub kind_of_value : Value → Kind
kind_of_value (values.Whole number) = kinds.Whole
kind_of_value (values.Text text) = kinds.Text

abbrev pub kind_of_operand : Operand → Option Kind
kind_of_operand (operands.Column column) = kind_of column
kind_of_operand (operands.Value value) = Some (kind_of_value value)

-- what a column is compared with: a number, a text or a column, of the column's kind
abbrev pub operand_of : List Table → List ℕ → Option Operand
operand_of tables word =
    first_of (option_map operands.Value (value_of word)) (option_map operands.Column (column_among tables word))

abbrev pub fitting : Option Kind → Operand → Option Operand
fitting kind operand = where_is (has_kind kind (kind_of_operand operand)) operand

-- ---- rules on the items of an answer

abbrev pub is_plain : SelectItem → Bool
is_plain (items.Column column) = true
is_plain item = false

-- groups have aggregates; without groups, all items are columns, or all are aggregates
abbrev pub has_groups : QueryState → Bool
has_groups query = not (length query.groups == 0)

abbrev pub may_aggregate : QueryState → Bool
may_aggregate query = has_groups query || not (list_any is_plain query.items)

-- a column of a group is one of those by which rows are grouped
abbrev pub may_be_plain : QueryState → Column → Bool
may_be_plain query column =
    if has_groups query then list_any (is_column column) query.groups
    else not (list_any (λ item. not (is_plain item)) query.items)

-- sums are those of whole numbers
abbrev pub aggregate_of : Aggregate → Column → Option SelectItem
aggregate_of aggregates.Sum column = where_is (has_kind (kind_of column) (Some kinds.Whole)) (items.Sum column)
aggregate_of aggregates.Min column = Some (items.Min column)
aggregate_of aggregates.Max column = Some (items.Max column)

-- ---- a query that gets longer

abbrev pub with_table : QueryState → Table → QueryState
with_table query table = record query { tables = query.tables ++ table ∷ [] }

abbrev pub with_condition : QueryState → Column → Comparison → Operand → QueryState
with_condition query left comparison right = record query {
  conditions = query.conditions ++ record { left = left; comparison = comparison; right = right } ∷ [];
}

abbrev pub with_group : QueryState → Column → QueryState
with_group query column = record query { groups = query.groups ++ column ∷ [] }

abbrev pub with_item : QueryState → SelectItem → QueryState
with_item query item = record query { items = query.items ++ item ∷ [] }

abbrev pub with_key : QueryState → ℕ → Bool → QueryState
with_key query place descending = record query {
  keys = query.keys ++ record { place = place; descending = descending } ∷ [];
}

-- ---- what comes behind a token

-- what was read so far, and what is to come
abbrev pub Draft : Type 0
Draft = QueryState × Next

-- behind the conditions, or the tables where there is none
abbrev pub behind_conditions : QueryState → List ℕ → Option Draft
behind_conditions query word =
    if bytes_eq word (codes "group") then Some (query, nexts.Group)
    else if bytes_eq word (codes "select") then Some (query, nexts.Item)
    else None

-- at most four tables, each once
abbrev pub table_after : QueryState → Table → Option Draft
table_after query table =
    where_is (not (list_any (is_table table) query.tables)) (with_table query table, nexts.BehindTable)

abbrev pub behind_table : QueryState → List ℕ → Option Draft
behind_table query word =
    if bytes_eq word (codes ",") then where_is (nat_lt (length query.tables) 4) (query, nexts.Table)
    else if bytes_eq word (codes "where") then Some (query, nexts.Left)
    else behind_conditions query word

abbrev pub plain_after : QueryState → Column → Option Draft
plain_after query column = where_is (may_be_plain query column) (with_item query (items.Column column), nexts.BehindItem)

abbrev pub aggregate_after : QueryState → Aggregate → Option Draft
aggregate_after query aggregate = where_is (may_aggregate query) (query, nexts.Of aggregate)

abbrev pub item_after : QueryState → List ℕ → Option Draft
item_after query word =
    if bytes_eq word (codes "count") then where_is (may_aggregate query) (with_item query items.Count, nexts.BehindItem)
    else first_of (aggregate_named word >>= aggregate_after query) (column_among query.tables word >>= plain_after query)

abbrev pub key_after : QueryState → ℕ → Option Draft
key_after query place = where_is (nat_le 1 place && nat_le place (length query.items)) (query, nexts.BehindKey place)

-- a draft with one token more, where the token can stand there
abbrev pub after : QueryState → Next → List ℕ → Option Draft
after query nexts.From word = where_is (bytes_eq word (codes "from")) (query, nexts.Table)
after query nexts.Table word = table_named word >>= table_after query
after query nexts.BehindTable word = behind_table query word
after query nexts.Left word = column_among query.tables word >>= λ column. Some (query, nexts.Comparison column)
after query (nexts.Comparison left) word =
    comparison_named word >>= λ comparison. Some (query, nexts.Right left comparison)
after query (nexts.Right left comparison) word =
    operand_of query.tables word >>= fitting (kind_of left) >>= λ right.
    Some (with_condition query left comparison right, nexts.BehindCondition)
after query nexts.BehindCondition word =
    if bytes_eq word (codes "and") then Some (query, nexts.Left) else behind_conditions query word
after query nexts.Group word =
    column_among query.tables word >>= λ column. Some (with_group query column, nexts.BehindGroup)
after query nexts.BehindGroup word =
    if bytes_eq word (codes ",") then Some (query, nexts.Group)
    else where_is (bytes_eq word (codes "select")) (query, nexts.Item)
after query nexts.Item word = item_after query word
after query (nexts.Of aggregate) word =
    column_among query.tables word >>= aggregate_of aggregate >>= λ item.
    Some (with_item query item, nexts.BehindItem)
after query nexts.BehindItem word =
    if bytes_eq word (codes ",") then Some (query, nexts.Item)
    else where_is (bytes_eq word (codes "order")) (query, nexts.Key)
after query nexts.Key word = number_of 64 word >>= key_after query
after query (nexts.BehindKey place) word =
    if bytes_eq word (codes ",") then Some (with_key query place false, nexts.Key)
    else where_is (bytes_eq word (codes "desc")) (with_key query place true, nexts.BehindDescending)
after query nexts.BehindDescending word = where_is (bytes_eq word (codes ",")) (query, nexts.Key)

-- the query that a draft is, where the text may end
abbrev pub ended : Draft → Option QueryState
ended (query, nexts.BehindItem) = Some query
ended (query, nexts.BehindKey place) = Some (with_key query place false)
ended (query, nexts.BehindDescending) = Some query
ended (query, next) = None

-- ---- texts

-- a fault at a place, where nothing is there
abbrev pub or_fault : {A : Type 0} → ℕ → Option A → Result A ℕ
or_fault place None = Err place
or_fault place (Some value) = Ok value

-- one token more; behind the first fault nothing counts
abbrev pub take_token : Result Draft ℕ → Token → Result Draft ℕ
take_token (Ok draft) token = or_fault token.place (after draft.0 draft.1 token.word)
take_token (Err place) token = Err place

abbrev pub end_text : ℕ → Result Draft ℕ → Result QueryState ℕ
end_text end (Ok draft) = or_fault end (ended draft)
end_text end (Err place) = Err place

-- the query that a text says; else the place where the first token begins that can't stand there, or the text's length,
-- where it ends too early
abbrev pub query_of : List ℕ → Result QueryState ℕ
query_of text = end_text (length text) (fold take_token (Ok (no_query, nexts.From)) (tokens text))
