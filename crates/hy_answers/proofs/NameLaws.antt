-- The columns that a query names: each was read, once, and its values are those of the lists.
use Rattle.std.proofs.Common.{◌≡◌, ◌==◌, ◌∙◌, ◌&&◌, ◌||◌, Bool, true, false, All, IsSome, Some, List, [], ◌∷◌, ◌++◌, fold, if◌then◌else◌, length, map, refl, sym, ap, subst, arith}
use Rattle.std.proofs.lemmas.Bool.{and_parts, false≢true}
use Rattle.std.proofs.lemmas.List.Folds.{list_any-append}
use borrow.Author.Tests.{eqb-true, eq-eqb}
use Rattle.std.specs.List.{AllByRecursion, flat_map, list_all, list_any}
use Rattle.hy_answers.specs.inside.Pieces.{AllRows, with_rows}
use Rattle.hy_columns.specs.declared.values.ColumnValues.{ColumnValues}
use Rattle.hy_rows.specs.declared.value.Value.{Value}
use Rattle.hy_query.specs.Rows.{Row}
use Rattle.hy_rows.specs.declared.catalogue.Table.{Table}
use Rattle.hy_columns.specs.Columns.{column_at, values_of}
use Rattle.hy_query.specs.declared.column.Column.{Column}
use Rattle.hy_query.specs.declared.column.Kind.{Kind}
use Rattle.hy_query.specs.declared.query.Condition.{Condition}
use Rattle.hy_query.specs.declared.query.Operand.{Operand}
use Rattle.hy_query.specs.declared.query.Operand.TheVariants as operands
use Rattle.hy_query.specs.declared.query.SelectItem.{SelectItem}
use Rattle.hy_query.specs.declared.query.SelectItem.TheVariants as items
use Rattle.hy_query.specs.Columns.{kind_of}
use Rattle.hy_query.specs.Language.{is_column, is_table}
use Rattle.hy_query.specs.Queries.{IsCondition, IsItem, IsOneOf, IsOperand, IsQuery, QueryState}
use Rattle.hy_answers.specs.declared.sources.SourceColumn.{SourceColumn}
use Rattle.hy_answers.specs.inside.Names.{with_name}
use Rattle.hy_answers.specs.inside.Reading.{AreHere, AreLater, chosen, names_in_condition, names_in_item, names_in_operand, names_of}
use Rattle.hy_answers.specs.inside.Sources.{is_read, values_for}
use Rattle.hy_answers.proofs.EachLaws.{each-append, each-at, each-joined, each-of, each-push}
use Rattle.hy_answers.proofs.ListLaws.{list_any-map}
use Rattle.hy_answers.proofs.TestLaws.{or-true}
use Rattle.hy_answers.proofs.TableLaws.{is_table-same, is_table-self}

-- ---- columns

is_column-self : (column : Column) → is_column column column ≡ true
is_column-self column =
    λ i. is_table-self column.table i && eq-eqb column.place column.place refl i

is_column-same : (one other : Column) → is_column one other ≡ true → one ≡ other
is_column-same one other same =
    let parts = and_parts (is_table one.table other.table) (one.place == other.place) same in
    λ i. record {
      table = is_table-same one.table other.table parts.0 i;
      place = eqb-true one.place other.place parts.1 i;
    }

-- ---- their kinds

-- a column of some table
abbrev HasKind : Column → Type 0
HasKind column = IsSome (kind_of column)

some-kind : (column : Column) (kind : Kind) → kind_of column ≡ Some kind → HasKind column
some-kind column kind is = rw is refl

operand-kinds : (tables : List Table) (kind : Kind) (operand : Operand) → IsOperand tables kind operand
    → AllByRecursion HasKind (names_in_operand operand)
operand-kinds tables kind (operands.Column column) is = (some-kind column kind is.1, tt)
operand-kinds tables kind (operands.Value value) is = tt

condition-kinds : (tables : List Table) (condition : Condition) → IsCondition tables condition
    → AllByRecursion HasKind (names_in_condition condition)
condition-kinds tables condition is =
    (some-kind condition.left is.0 is.1.1, operand-kinds tables is.0 condition.right is.2)

item-kinds : (tables : List Table) (item : SelectItem) → IsItem tables item
    → AllByRecursion HasKind (names_in_item item)
item-kinds tables (items.Column column) is = (is.1, tt)
item-kinds tables items.Count is = tt
item-kinds tables (items.Sum column) is = (some-kind column _ is.1, tt)
item-kinds tables (items.Min column) is = (is.1, tt)
item-kinds tables (items.Max column) is = (is.1, tt)

query-kinds : (query : QueryState) → IsQuery query → AllByRecursion HasKind (names_of query)
query-kinds query sound =
    each-append HasKind (flat_map names_in_condition query.conditions)
    (query.groups ++ flat_map names_in_item query.items)
    (each-joined HasKind names_in_condition query.conditions
    (each-of (IsCondition query.tables) (λ condition. AllByRecursion HasKind (names_in_condition condition))
    (condition-kinds query.tables) query.conditions sound.conditions))
    (each-append HasKind query.groups (flat_map names_in_item query.items)
    (each-of (IsOneOf query.tables) HasKind (λ column is. is.1) query.groups sound.groups)
    (each-joined HasKind names_in_item query.items
    (each-of (IsItem query.tables) (λ item. AllByRecursion HasKind (names_in_item item)) (item-kinds query.tables)
    query.items sound.items)))

-- ---- each is noted once

-- whether a column is among some
abbrev has : List Column → Column → Bool
has names column = list_any (λ other. is_column other column) names

module _ (P : Column → Type 0) where
  with_name-each : (names : List Column) (column : Column) → AllByRecursion P names → P column
      → AllByRecursion P (with_name names column)
  with_name-each names column each this =
      by (has names column) each (each-push P names column each this)
    where
      by : (b : Bool) → AllByRecursion P names → AllByRecursion P (names ++ column ∷ [])
          → AllByRecursion P (if b then names else names ++ column ∷ [])
      by true before after = before
      by false before after = after

  names-each : (names more : List Column) → AllByRecursion P names → AllByRecursion P more
      → AllByRecursion P (fold with_name names more)
  names-each names [] each others = each
  names-each names (column ∷ later) each others =
      names-each (with_name names column) later (with_name-each names column each others.0) others.1

with_name-has : (names : List Column) (column : Column) → has (with_name names column) column ≡ true
with_name-has names column = by (has names column) refl
  where
    by : (b : Bool) → has names column ≡ b → has (if b then names else names ++ column ∷ []) column ≡ true
    by true is = is
    by false is =
        list_any-append (λ other. is_column other column) names (column ∷ [])
        ∙ ap (λ b. has names column || (b || false)) (is_column-self column) ∙ or-true (has names column)

with_name-keeps : (names : List Column) (new column : Column) → has names column ≡ true
    → has (with_name names new) column ≡ true
with_name-keeps names new column there = by (has names new)
  where
    by : (b : Bool) → has (if b then names else names ++ new ∷ []) column ≡ true
    by true = there
    by false =
        list_any-append (λ other. is_column other column) names (new ∷ [])
        ∙ ap (λ b. b || (is_column new column || false)) there

names-keep : (names more : List Column) (column : Column) → has names column ≡ true
    → has (fold with_name names more) column ≡ true
names-keep names [] column there = there
names-keep names (new ∷ later) column there =
    names-keep (with_name names new) later column (with_name-keeps names new column there)

names-cover : (names more : List Column) → list_all (has (fold with_name names more)) more ≡ true
names-cover names [] = refl
names-cover names (column ∷ later) =
    λ i. names-keep (with_name names column) later column (with_name-has names column) i
    && names-cover (with_name names column) later i

-- ---- what was read of them

-- the values of a column, by columns and their values
abbrev pub look : List Column → List (List Value) → Column → List Value
look (name ∷ names) (values ∷ later) column = if is_column name column then values else look names later column
look names values column = []

pub values_for-look : (sources : List SourceColumn) (column : Column)
    → values_for sources column
    ≡ look (map (λ (source : SourceColumn). source.column) sources)
    (map (λ (source : SourceColumn). values_of source.values.now) sources) column
values_for-look [] column = refl
values_for-look (source ∷ later) column =
    ap (λ values. if is_column source.column column then values_of source.values.now else values) (values_for-look later column)

-- where each column has the values that some lists have, so has one that is among them
look-known : (lists : AllRows) (names : List Column) (column : Column) → has names column ≡ true
    → look names (map (λ (name : Column). column_at name.place (lists name.table)) names) column
    ≡ column_at column.place (lists column.table)
look-known lists [] column there = absurd (false≢true there)
look-known lists (name ∷ names) column there =
    by (is_column name column) refl there (look-known lists names column)
  where
    by : (b : Bool) → is_column name column ≡ b → (b || has names column) ≡ true
        → (has names column ≡ true
        → look names (map (λ (name : Column). column_at name.place (lists name.table)) names) column
        ≡ column_at column.place (lists column.table))
        → (if b then column_at name.place (lists name.table)
        else look names (map (λ (name : Column). column_at name.place (lists name.table)) names) column)
        ≡ column_at column.place (lists column.table)
    by true is found later =
        ap (λ (this : Column). column_at this.place (lists this.table)) (is_column-same name column is)
    by false is found later = later found

-- what was read here and before is what the lists have, with some rows of the first table
pub chosen-known : (lists : AllRows) (first : Table) (rows : List Row) (names : List Column)
    (later here : List ColumnValues) → AreLater lists first names later → AreHere rows first names here
    → chosen first names later here
    ≡ map (λ (name : Column). column_at name.place (with_rows lists first rows name.table)) names
chosen-known lists first rows [] [] [] read these = refl
chosen-known lists first rows [] (old ∷ later) here read these = absurd read
chosen-known lists first rows [] [] (new ∷ here) read these = absurd these
chosen-known lists first rows (name ∷ names) [] here read these = absurd read
chosen-known lists first rows (name ∷ names) (old ∷ later) [] read these = absurd these
chosen-known lists first rows (name ∷ names) (old ∷ later) (new ∷ here) read these =
    λ i. by (is_table first name.table) refl i ∷ chosen-known lists first rows names later here read.1 these.1 i
  where
    by : (b : Bool) → is_table first name.table ≡ b
        → (if b then values_of new else values_of old)
        ≡ column_at name.place (if b then rows else lists name.table)
    by true is = these.0 is
    by false is = read.0 is

-- a column that isn't of the first table has the values that it had before
pub look-apart : (first : Table) (names : List Column) (later here : List ColumnValues) (column : Column)
    → length later ≡ length names → length here ≡ length names → is_table first column.table ≡ false
    → look names (chosen first names later here) column ≡ look names (chosen first names later later) column
look-apart first [] later here column later_long here_long apart = refl
look-apart first (name ∷ names) [] here column later_long here_long apart = absurd (omega (arith, later_long))
look-apart first (name ∷ names) (old ∷ later) [] column later_long here_long apart = absurd (omega (arith, here_long))
look-apart first (name ∷ names) (old ∷ later) (new ∷ here) column later_long here_long apart =
    by (is_column name column) refl
    (look-apart first names later here column (omega (arith, later_long)) (omega (arith, here_long)) apart)
  where
    away : is_column name column ≡ true → is_table first name.table ≡ false
    away is =
        ap (λ (this : Column). is_table first this.table) (is_column-same name column is) ∙ apart

    chosen_alike : (b : Bool) → b ≡ false
        → (if b then values_of new else values_of old) ≡ (if b then values_of old else values_of old)
    chosen_alike true is = absurd (false≢true (sym is))
    chosen_alike false is = refl

    by : (b : Bool) → is_column name column ≡ b
        → look names (chosen first names later here) column ≡ look names (chosen first names later later) column
        → (if b then (if is_table first name.table then values_of new else values_of old)
        else look names (chosen first names later here) column)
        ≡ (if b then (if is_table first name.table then values_of old else values_of old)
        else look names (chosen first names later later) column)
    by true is same = chosen_alike (is_table first name.table) (away is)
    by false is same = same

-- all columns that a query names were read
pub names-read : (query : QueryState) (names : List Column) (sources : List SourceColumn)
    → names ≡ fold with_name [] (names_of query) → map (λ (source : SourceColumn). source.column) sources ≡ names
    → list_all (is_read sources) (names_of query) ≡ true
names-read query names sources names_are sources_are =
    (λ i. list_all (λ column. ((sym (list_any-map (λ other. is_column other column)
    (λ (source : SourceColumn). source.column) sources)
    ∙ ap (λ list. has list column) (sources_are ∙ names_are)) i)) (names_of query))
    ∙ names-cover [] (names_of query)

-- each has a kind
pub names-kinds : (query : QueryState) (names : List Column) → IsQuery query
    → names ≡ fold with_name [] (names_of query) → All HasKind names
names-kinds query names sound names_are =
    let each : AllByRecursion HasKind names =
    subst (AllByRecursion HasKind) (sym names_are) (names-each HasKind [] (names_of query) tt (query-kinds query sound)) in
    λ k d within. each-at HasKind names k d each within

-- what was read for a query: each column that it names has the values of the lists, with some rows of the first table
pub values-read : (lists : AllRows) (first : Table) (rows : List Row) (query : QueryState) (names : List Column)
    (later here : List ColumnValues) (sources : List SourceColumn) → names ≡ fold with_name [] (names_of query)
    → AreLater lists first names later → AreHere rows first names here
    → map (λ (source : SourceColumn). source.column) sources ≡ names
    → map (λ (source : SourceColumn). values_of source.values.now) sources ≡ chosen first names later here
    → AllByRecursion
    (λ column. values_for sources column ≡ column_at column.place (with_rows lists first rows column.table)) (names_of query)
values-read lists first rows query names later here sources names_are read these columns_are values_are =
    each (names_of query) (ap (λ list. list_all (has list) (names_of query)) names_are ∙ names-cover [] (names_of query))
  where
    one : (column : Column) → has names column ≡ true
        → values_for sources column ≡ column_at column.place (with_rows lists first rows column.table)
    one column there =
        values_for-look sources column
        ∙ (λ i. look (columns_are i) ((values_are ∙ chosen-known lists first rows names later here read these) i) column)
        ∙ look-known (with_rows lists first rows) names column there

    each : (columns : List Column) → list_all (has names) columns ≡ true
        → AllByRecursion
        (λ column. values_for sources column ≡ column_at column.place (with_rows lists first rows column.table)) columns
    each [] there = tt
    each (column ∷ columns) there =
        let parts = and_parts (has names column) (list_all (has names) columns) there in
        (one column parts.0, each columns parts.1)
