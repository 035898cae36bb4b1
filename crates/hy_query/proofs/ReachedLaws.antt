-- What was read of a query is right, whatever the text.
use Rattle.std.specs.Prelude.{◌≡◌, ℕ, suc, ◌==◌, ◌&&◌, ◌||◌, ◌++◌, ◌<◌, ◌≤◌, Bool, true, false, not, if◌then◌else◌, nat_le, nat_lt, List, [], ◌∷◌, length, slice_get, fold, All, Option, None, Some, IfSome, IsSome, option_and_then, option_map, Ok, Err, bytes_eq, codes, refl}
use Rattle.std.specs.List.{list_any}
use Rattle.std.proofs.Common.{arith, ap, ap₂, sym, subst, ◌∙◌, length-append}
use Rattle.std.proofs.lemmas.Bool.{and_parts, eq-eqb, eqb-false, eqb-true, false≢true, leb-true, ltb-true, ne_eqb, not-true, or_parts}
use Rattle.std.proofs.lemmas.List.Folds.{list_any-append}
use Rattle.std.proofs.lemmas.List.Elements.{All-nil, All-push}
use Rattle.std.proofs.lemmas.List.Quantifiers.{position-Some}
use Rattle.std.proofs.lemmas.Option.{IfSome_then, cond_some, option_and_then_some, slice_get-get_or}
use Rattle.hy_decimal.specs.Numbers.{number_of}
use Rattle.hy_rows.specs.Catalogue.{columns_of, place_of}
use Rattle.hy_rows.specs.Columns.{Column as ColumnDefinition, Text}
use Rattle.hy_rows.specs.declared.catalogue.Table.{Table}
use Rattle.hy_query.specs.declared.column.Column.{Column}
use Rattle.hy_query.specs.declared.column.Kind.{Kind}
use Rattle.hy_query.specs.declared.column.Kind.TheVariants as kinds
use Rattle.hy_query.specs.declared.parse.Aggregate.{Aggregate}
use Rattle.hy_query.specs.declared.parse.Aggregate.TheVariants as aggregates
use Rattle.hy_query.specs.declared.parse.Next.{Next}
use Rattle.hy_query.specs.declared.parse.Next.TheVariants as nexts
use Rattle.hy_query.specs.declared.query.Comparison.{Comparison}
use Rattle.hy_query.specs.declared.query.Operand.{Operand}
use Rattle.hy_query.specs.declared.query.Operand.TheVariants as operands
use Rattle.hy_query.specs.declared.query.SelectItem.{SelectItem}
use Rattle.hy_query.specs.declared.query.SelectItem.TheVariants as items
use Rattle.hy_rows.specs.declared.value.Value.{Value}
use Rattle.hy_rows.specs.declared.value.Value.TheVariants as values
use Rattle.hy_query.specs.Columns.{column_among, first_of, kind_in, kind_of, lowered, place_named, table_named}
use Rattle.hy_query.specs.Language.{after, aggregate_after, aggregate_named, comparison_named, aggregate_of, behind_conditions, ended, fitting, has_kind, is_table, key_after, kind_of_operand, may_aggregate, may_be_plain, operand_of, or_fault, plain_after, table_after, take_token, value_of, with_condition, with_group, with_item, with_key, with_table}
use Rattle.hy_query.specs.Queries.{AreDifferent, IsCondition, IsItem, IsOneOf, IsOperand, IsQuery, QueryState}
use Rattle.hy_query.specs.Tokens.{Token}
use Rattle.hy_query.specs.inside.Reached.{HasTables, IsReached, IsRight}

-- ---- what holds of a value that there may be

where_holds : {A : Type 0} (test : Bool) (value : A) (P : A → Type 0) → (test ≡ true → P value)
    → IfSome (if test then Some value else None) P
where_holds true value P holds = holds refl
where_holds false value P holds = tt

next_holds : {A B : Type 0} (value : Option A) (next : A → Option B) (P : B → Type 0)
    → ((a : A) → value ≡ Some a → IfSome (next a) P) → IfSome (option_and_then next value) P
next_holds None next P holds = tt
next_holds (Some a) next P holds = holds a refl

either_holds : {A : Type 0} (test : Bool) (one other : Option A) (P : A → Type 0) → IfSome one P → IfSome other P
    → IfSome (if test then one else other) P
either_holds true one other P here there = here
either_holds false one other P here there = there

first_holds : {A : Type 0} (one other : Option A) (P : A → Type 0) → IfSome one P → IfSome other P
    → IfSome (first_of one other) P
first_holds None other P here there = there
first_holds (Some value) other P here there = here

some_holds : {A : Type 0} (value : Option A) (a : A) (P : A → Type 0) → value ≡ Some a → IfSome value P → P a
some_holds None a P is holds = absurd (cc is)
some_holds (Some value) a P is holds = subst P (cc is) holds

-- ---- columns and operands

-- the place of a name is one of a column
abbrev no_column : ColumnDefinition
no_column = record { name = []; domain = Text 0 }

known_at : (columns : List ColumnDefinition) (place : ℕ) → place < length columns
    → IsSome (option_map (λ definition. kind_in definition.domain) (slice_get columns place))
known_at columns place within = rw (slice_get-get_or columns place no_column within) refl

named_within : (word : List ℕ) (columns : List ColumnDefinition) (place : ℕ) → place_named word columns ≡ Some place
    → place < length columns
named_within word columns place is =
    (position-Some (λ column. bytes_eq word (lowered column.name)) columns place no_column is).0

-- a column among tables is one of theirs
one_more : (table : Table) (tables : List Table) (column : Column) → IsOneOf tables column
    → IsOneOf (table ∷ tables) column
one_more table tables column is = ((suc is.0.0, (omega (arith, is.0.1.0), is.0.1.1)), is.1)

pub column_among-one : (tables : List Table) (word : List ℕ) → IfSome (column_among tables word) (IsOneOf tables)
column_among-one [] word = tt
column_among-one (table ∷ later) word =
    first_holds _ _ (IsOneOf (table ∷ later)) (here (place_named word (columns_of table)) refl)
    (IfSome_then (column_among later word) (column_among-one later word) (λ column is. one_more table later column is))
  where
    here : (found : Option ℕ) → place_named word (columns_of table) ≡ found
        → IfSome (option_map (λ place. record { table = table; place = place }) found) (IsOneOf (table ∷ later))
    here None is = tt
    here (Some place) is = (
      (0, (omega arith, refl)),
      known_at (columns_of table) place (named_within word (columns_of table) place is),
    )

one_of : (tables : List Table) (word : List ℕ) (column : Column) → column_among tables word ≡ Some column
    → IsOneOf tables column
one_of tables word column is =
    some_holds (column_among tables word) column (IsOneOf tables) is (column_among-one tables word)

-- what has the same kind as a known one
same_kind : (one other : Option Kind) (kind : Kind) → one ≡ Some kind → has_kind one other ≡ true → other ≡ Some kind
same_kind None other kind is same = absurd (cc is)
same_kind (Some one) None kind is same = absurd (false≢true same)
same_kind (Some kinds.Whole) (Some kinds.Whole) kind is same = is
same_kind (Some kinds.Whole) (Some kinds.Text) kind is same = absurd (false≢true same)
same_kind (Some kinds.Text) (Some kinds.Whole) kind is same = absurd (false≢true same)
same_kind (Some kinds.Text) (Some kinds.Text) kind is same = is

some_kind : (kind : Option Kind) → IsSome kind → (one : Kind) × (kind ≡ Some one)
some_kind None some = absurd (false≢true some)
some_kind (Some one) some = (one, refl)

-- an operand of a kind
operand_column : (tables : List Table) (word : List ℕ) (value : Option Value) (column : Column)
    → first_of (option_map operands.Value value) (option_map operands.Column (column_among tables word))
    ≡ Some (operands.Column column) → column_among tables word ≡ Some column
operand_column tables word (Some value) column is = absurd (cc is)
operand_column tables word None column is = by_found (column_among tables word) is
  where
    by_found : (found : Option Column) → option_map operands.Column found ≡ Some (operands.Column column)
        → found ≡ Some column
    by_found None is = absurd (cc is)
    by_found (Some found) is = cc is

operand_fits : (tables : List Table) (word : List ℕ) (operand : Operand) (kind : Kind)
    → operand_of tables word ≡ Some operand → kind_of_operand operand ≡ Some kind → IsOperand tables kind operand
operand_fits tables word (operands.Column column) kind is its =
    ((one_of tables word column (operand_column tables word (value_of word) column is)).0, its)
operand_fits tables word (operands.Value (values.Whole number)) kind is its = cc its
operand_fits tables word (operands.Value (values.Text text)) kind is its = cc its

condition_fits : (tables : List Table) (word : List ℕ) (left : Column) (comparison : Comparison) (right : Operand)
    → IsOneOf tables left → operand_of tables word ≡ Some right
    → has_kind (kind_of left) (kind_of_operand right) ≡ true
    → IsCondition tables (record { left = left; comparison = comparison; right = right })
condition_fits tables word left comparison right is_left is_right same =
    let kind = some_kind (kind_of left) is_left.1 in (
      kind.0,
      (is_left.0, kind.1),
      operand_fits tables word right kind.0 is_right (same_kind _ _ kind.0 kind.1 same),
    )

-- ---- tables, each once

is_table-swap : (one other : Table) → is_table one other ≡ is_table other one
is_table-swap one other = eqb-swap (place_of one) (place_of other)
  where
    eqb-swap : (m n : ℕ) → (m == n) ≡ (n == m)
    eqb-swap m n = by_answer (m == n) refl
      where
        by_answer : (answer : Bool) → (m == n) ≡ answer → (m == n) ≡ (n == m)
        by_answer true is = is ∙ sym (eq-eqb n m (sym (eqb-true m n is)))
        by_answer false is = is ∙ sym (ne_eqb n m (λ same. eqb-false m n is (sym same)))

pub different-more : (tables : List Table) (new : Table) → AreDifferent tables → list_any (is_table new) tables ≡ false
    → AreDifferent (tables ++ new ∷ [])
different-more [] new are none = (refl, tt)
different-more (table ∷ later) new are none =
    let parts = or_parts _ _ none in (
      list_any-append (is_table table) later (new ∷ [])
          ∙ ap₂ (λ a b. a || b) are.0 (ap (λ b. b || false) (is_table-swap table new ∙ parts.0)),
      different-more later new are.1 parts.1,
    )

-- ---- queries that get longer

module _ (query : QueryState) where
  -- behind the tables nothing else was read
  behind_tables : HasTables query → 1 ≤ length query.tables → IsRight query × (query.keys ≡ [])
  behind_tables has some = (
    record {
      some_tables = some;
      few_tables = has.few_tables;
      different = has.different;
      conditions = subst (All (IsCondition query.tables)) (sym has.no_conditions) (All-nil (IsCondition query.tables));
      groups = subst (All (IsOneOf query.tables)) (sym has.no_groups) (All-nil (IsOneOf query.tables));
      items = subst (All (IsItem query.tables)) (sym has.no_items) (All-nil (IsItem query.tables));
      keys = subst (All (λ key. (1 ≤ key.place) × (key.place ≤ length query.items))) (sym has.no_keys)
          (All-nil (λ key. (1 ≤ key.place) × (key.place ≤ length query.items)));
    },
    has.no_keys,
  )

  more_tables : (table : Table) → HasTables query → length query.tables < 4 → list_any (is_table table) query.tables ≡ false
      → HasTables (with_table query table) × (1 ≤ length (with_table query table).tables)
  more_tables table has room new = (
    record {
      few_tables = omega (arith, room, length-append query.tables (table ∷ []));
      different = different-more query.tables table has.different new;
      no_conditions = has.no_conditions;
      no_groups = has.no_groups;
      no_items = has.no_items;
      no_keys = has.no_keys;
    },
    omega (arith, length-append query.tables (table ∷ [])),
  )

  more_conditions : (left : Column) (comparison : Comparison) (right : Operand)
      → IsCondition query.tables (record { left = left; comparison = comparison; right = right })
      → IsRight query → IsRight (with_condition query left comparison right)
  more_conditions left comparison right new is = record {
    some_tables = is.some_tables;
    few_tables = is.few_tables;
    different = is.different;
    conditions = All-push (IsCondition query.tables) query.conditions
        (record { left = left; comparison = comparison; right = right }) is.conditions new;
    groups = is.groups;
    items = is.items;
    keys = is.keys;
  }

  more_groups : (column : Column) → IsOneOf query.tables column → IsRight query → IsRight (with_group query column)
  more_groups column new is = record {
    some_tables = is.some_tables;
    few_tables = is.few_tables;
    different = is.different;
    conditions = is.conditions;
    groups = All-push (IsOneOf query.tables) query.groups column is.groups new;
    items = is.items;
    keys = is.keys;
  }

  more_items : (item : SelectItem) → IsItem query.tables item → IsRight query × (query.keys ≡ [])
      → IsRight (with_item query item) × (query.keys ≡ []) × (1 ≤ length (with_item query item).items)
  more_items item new is = (
    record {
      some_tables = is.0.some_tables;
      few_tables = is.0.few_tables;
      different = is.0.different;
      conditions = is.0.conditions;
      groups = is.0.groups;
      items = All-push (IsItem query.tables) query.items item is.0.items new;
      keys = subst (All (λ key. (1 ≤ key.place) × (key.place ≤ length (query.items ++ item ∷ [])))) (sym is.1)
          (All-nil (λ key. (1 ≤ key.place) × (key.place ≤ length (query.items ++ item ∷ []))));
    },
    is.1,
    omega (arith, length-append query.items (item ∷ [])),
  )

  all_read : IsRight query → 1 ≤ length query.items → IsQuery query
  all_read is some = record {
    some_tables = is.some_tables;
    few_tables = is.few_tables;
    different = is.different;
    conditions = is.conditions;
    groups = is.groups;
    some_items = some;
    items = is.items;
    keys = is.keys;
  }

  more_keys : (place : ℕ) (descending : Bool) → 1 ≤ place → place ≤ length query.items → IsQuery query
      → IsQuery (with_key query place descending)
  more_keys place descending from_one within is = record {
    some_tables = is.some_tables;
    few_tables = is.few_tables;
    different = is.different;
    conditions = is.conditions;
    groups = is.groups;
    some_items = is.some_items;
    items = is.items;
    keys = All-push (λ key. (1 ≤ key.place) × (key.place ≤ length query.items)) query.keys
        (record { place = place; descending = descending }) is.keys (from_one, within);
  }

-- ---- token by token

-- behind a token that can stand at a place
abbrev pub IsBehind : QueryState × Next → Type 0
IsBehind behind = IsReached behind.0 behind.1

behind_conditions-right : (query : QueryState) (word : List ℕ) → IsRight query × (query.keys ≡ [])
    → IfSome (behind_conditions query word) IsBehind
behind_conditions-right query word is =
    either_holds (bytes_eq word (codes "group")) _ _ IsBehind is (where_holds _ _ IsBehind (λ _. is))

aggregate_of-right : (tables : List Table) (aggregate : Aggregate) (column : Column) → IsOneOf tables column
    → IfSome (aggregate_of aggregate column) (IsItem tables)
aggregate_of-right tables aggregates.Sum column is = where_holds _ _ (IsItem tables)
    (λ same. let kind = some_kind (kind_of column) is.1 in
    (is.0, kind.1 ∙ sym (same_kind _ _ kind.0 kind.1 same)))
aggregate_of-right tables aggregates.Min column is = is
aggregate_of-right tables aggregates.Max column is = is

pub reached_behind : (query : QueryState) (next : Next) (word : List ℕ) → IsReached query next
    → IfSome (after query next word) IsBehind
reached_behind query nexts.From word is =
    let none : length query.tables ≡ 0 = ap length is.1 in
    where_holds (bytes_eq word (codes "from")) (query, nexts.Table) IsBehind (λ _. (is.0, omega (arith, none)))
reached_behind query nexts.Table word is = next_holds (table_named word) (table_after query) IsBehind
    (λ table _. where_holds (not (list_any (is_table table) query.tables)) (with_table query table, nexts.BehindTable)
    IsBehind (λ new. more_tables query table is.0 is.1 (not-true _ new)))
reached_behind query nexts.BehindTable word is =
    let right = behind_tables query is.0 is.1 in
    either_holds (bytes_eq word (codes ",")) _ _ IsBehind
    (where_holds (nat_lt (length query.tables) 4) (query, nexts.Table) IsBehind (λ room. (is.0, ltb-true _ _ room)))
    (either_holds (bytes_eq word (codes "where")) _ _ IsBehind right (behind_conditions-right query word right))
reached_behind query nexts.Left word is =
    next_holds (column_among query.tables word) (λ column. Some (query, nexts.Comparison column)) IsBehind
    (λ column found. (is.0, is.1, one_of query.tables word column found))
reached_behind query (nexts.Comparison left) word is =
    next_holds (comparison_named word) (λ comparison. Some (query, nexts.Right left comparison)) IsBehind
    (λ comparison _. is)
reached_behind query (nexts.Right left comparison) word is =
    next_holds (option_and_then (fitting (kind_of left)) (operand_of query.tables word))
    (λ right. Some (with_condition query left comparison right, nexts.BehindCondition)) IsBehind
    (λ right found. option_and_then_some (fitting (kind_of left)) (operand_of query.tables word) right found
    (λ operand named fits. let same = cond_some _ _ _ fits in (
      more_conditions query left comparison right
          (subst (λ right. IsCondition query.tables
          (record { left = left; comparison = comparison; right = right })) same.1
          (condition_fits query.tables word left comparison operand is.2 named same.0)) is.0,
      is.1,
    )))
reached_behind query nexts.BehindCondition word is =
    either_holds (bytes_eq word (codes "and")) _ _ IsBehind is (behind_conditions-right query word is)
reached_behind query nexts.Group word is =
    next_holds (column_among query.tables word) (λ column. Some (with_group query column, nexts.BehindGroup)) IsBehind
    (λ column found. (more_groups query column (one_of query.tables word column found) is.0, is.1))
reached_behind query nexts.BehindGroup word is =
    either_holds (bytes_eq word (codes ",")) _ _ IsBehind is
    (where_holds (bytes_eq word (codes "select")) (query, nexts.Item) IsBehind (λ _. is))
reached_behind query nexts.Item word is =
    either_holds (bytes_eq word (codes "count")) _ _ IsBehind
    (where_holds (may_aggregate query) (with_item query items.Count, nexts.BehindItem) IsBehind
    (λ _. more_items query items.Count tt is))
    (first_holds _ _ IsBehind
    (next_holds (aggregate_named word) (aggregate_after query) IsBehind (λ aggregate _.
    where_holds (may_aggregate query) (query, nexts.Of aggregate) IsBehind (λ _. is)))
    (next_holds (column_among query.tables word) (plain_after query) IsBehind (λ column found.
    where_holds (may_be_plain query column) (with_item query (items.Column column), nexts.BehindItem) IsBehind
    (λ _. more_items query (items.Column column) (one_of query.tables word column found) is))))
reached_behind query (nexts.Of aggregate) word is =
    next_holds (option_and_then (aggregate_of aggregate) (column_among query.tables word))
    (λ item. Some (with_item query item, nexts.BehindItem)) IsBehind
    (λ item found. option_and_then_some (aggregate_of aggregate) (column_among query.tables word) item found
    (λ column named made.
    let right = aggregate_of-right query.tables aggregate column (one_of query.tables word column named) in
    more_items query item (some_holds (aggregate_of aggregate column) item (IsItem query.tables) made right) is))
reached_behind query nexts.BehindItem word is =
    either_holds (bytes_eq word (codes ",")) _ _ IsBehind (is.0, is.1)
    (where_holds (bytes_eq word (codes "order")) (query, nexts.Key) IsBehind (λ _. all_read query is.0 is.2))
reached_behind query nexts.Key word is = next_holds (number_of 64 word) (key_after query) IsBehind
    (λ place _. where_holds (nat_le 1 place && nat_le place (length query.items)) (query, nexts.BehindKey place)
    IsBehind (λ within. let parts = and_parts _ _ within in (is, leb-true _ _ parts.0, leb-true _ _ parts.1)))
reached_behind query (nexts.BehindKey place) word is =
    either_holds (bytes_eq word (codes ",")) _ _ IsBehind (more_keys query place false is.1 is.2 is.0)
    (where_holds (bytes_eq word (codes "desc")) (with_key query place true, nexts.BehindDescending) IsBehind
    (λ _. more_keys query place true is.1 is.2 is.0))
reached_behind query nexts.BehindDescending word is =
    where_holds (bytes_eq word (codes ",")) (query, nexts.Key) IsBehind (λ _. is)

-- ---- whole texts

-- behind a fault nothing counts
pub fault-stays : (place : ℕ) (tokens : List Token) → fold take_token (Err place) tokens ≡ Err place
fault-stays place [] = refl
fault-stays place (token ∷ later) = fault-stays place later

-- what was read of a text is right
pub reached_at : (tokens : List Token) (query : QueryState) (next : Next) (behind : QueryState × Next)
    → IsReached query next → fold take_token (Ok (query, next)) tokens ≡ Ok behind → IsBehind behind
reached_at [] query next behind is read = subst IsBehind (cc read) is
reached_at (token ∷ later) query next behind is read =
    by_answer (after query next token.word) (reached_behind query next token.word is) read
    (λ draft right. reached_at later draft.0 draft.1 behind right)
  where
    by_answer : (answer : Option (QueryState × Next)) → IfSome answer IsBehind
        → fold take_token (or_fault token.place answer) later ≡ Ok behind
        → ((draft : QueryState × Next) → IsBehind draft → fold take_token (Ok draft) later ≡ Ok behind
        → IsBehind behind) → IsBehind behind
    by_answer None right read further = absurd (cc (sym (fault-stays token.place later) ∙ read))
    by_answer (Some draft) right read further = further draft right read

-- a query at the end of a text is right
pub ended-right : (query : QueryState) (next : Next) (end : QueryState) → IsReached query next
    → ended (query, next) ≡ Some end → IsQuery end
ended-right query nexts.BehindItem end is ends = subst IsQuery (cc ends) (all_read query is.0 is.2)
ended-right query (nexts.BehindKey place) end is ends =
    subst IsQuery (cc ends) (more_keys query place false is.1 is.2 is.0)
ended-right query nexts.BehindDescending end is ends = subst IsQuery (cc ends) is
ended-right query nexts.From end is ends = absurd (cc ends)
ended-right query next end is ends = absurd (cc ends)
