-- How many rows are pushed, and how many entries an index has.
use Rattle.std.proofs.Common.{◌≡◌, ℕ, ◌+◌, ◌<◌, ◌≤◌, Bool, true, false, cond, List, [], ◌∷◌, ◌++◌, length, map, filter, take, drop, get_or, Option, Some, refl, ap, ap₂, ◌∙◌, sym, arith}
use Rattle.std.proofs.lemmas.List.{length-append, length-map, take-append-drop}
use Rattle.std.proofs.lemmas.List.Elements.{filter-append}
use Rattle.hy_rows.specs.declared.new_order.NewOrder.{NewOrder}
use Rattle.hy_rows.specs.declared.order.Order.{Order}
use Rattle.hy_indexes.specs.of_store.Stored.{new_order_segment}
use Rattle.hy_rows.specs.Tables.{Lists, Tables, of_warehouse}
use Rattle.hy_layout.specs.Layout.{LayoutState, own_rows}
use Rattle.hy_space.specs.Space.{SpaceState}
use Rattle.hy_indexes.specs.of_index.declared.key.Entry.{Entry}
use Rattle.hy_indexes.specs.of_index.Index.{found, with_entry}
use Rattle.hy_indexes.specs.of_store.declared.keys.CustomerKey.{CustomerKey}
use Rattle.hy_indexes.specs.of_store.Keys.{is_lesser_customer}
use Rattle.hy_indexes.specs.of_store.Pages.{KeepsPagesUpTo}
use Rattle.hy_indexes.specs.of_store.Stored.{Stored}
use Rattle.hy_indexes.specs.of_store.Writes.{stored_in}
use Rattle.hy_layout.specs.Finds.{IsOrder}
use Rattle.hy_fill.specs.Frames.{most_of}
use Rattle.hy_fill.specs.inside.Filling.{StaysWithin, with_more, with_new_orders}
use Rattle.hy_fill.specs.inside.LastOrders.{is_later, with_order}
use Rattle.hy_indexes.proofs.KeyOrders.{order-of_customers}
use Rattle.hy_fill.proofs.RowLaws.{passed-more}

-- of the first rows, no more pass than of all
passed-within : {Row : Type 0} (keep : Row → Bool) (rows : List Row) (count : ℕ) → length (filter keep (take count rows)) ≤ length (filter keep rows)
passed-within keep rows count =
    let all : filter keep (take count rows) ++ filter keep (drop count rows) ≡ filter keep rows =
    sym (filter-append keep (take count rows) (drop count rows)) ∙ ap (filter keep) (take-append-drop count rows) in
    omega (arith, ap length all, length-append (filter keep (take count rows)) (filter keep (drop count rows)))

-- the rows that pass so far, and one row more if it passes, are no more than pass in all
pub passed-next : {Row : Type 0} (keep : Row → Bool) (rows : List Row) (index : ℕ) (row : Row) → filter keep (take index rows) ++ filter keep (row ∷ []) ≡ filter keep (take (index + 1) rows)
    → length (filter keep (take index rows)) + length (filter keep (row ∷ [])) ≤ length (filter keep rows)
passed-next keep rows index row more =
    omega (arith, ap length more, length-append (filter keep (take index rows)) (filter keep (row ∷ [])), passed-within keep rows (index + 1))

-- an entry more at most
module _ {Key : Type 0} (is_less : Key → Key → Bool) (order : IsOrder is_less) where
  sides : (key : Key) (entries : List (Entry Key))
      → length (filter (λ entry. is_less entry.key key) entries) + length (filter (λ entry. is_less key entry.key) entries) ≤ length entries
  sides key [] = omega arith
  sides key (entry ∷ entries) =
      let rest = sides key entries in
      elim (is_less entry.key key) as (λ below. is_less entry.key key ≡ below
      → length (cond below (entry ∷ filter (λ entry. is_less entry.key key) entries) (filter (λ entry. is_less entry.key key) entries))
      + length (filter (λ entry. is_less key entry.key) (entry ∷ entries)) ≤ length (entry ∷ entries)) [
        | true ↦ λ is. rw (order.one_way entry.key key is) (omega (arith, rest))
        | false ↦ λ is.
            elim (is_less key entry.key) as (λ above. length (filter (λ entry. is_less entry.key key) entries)
            + length (cond above (entry ∷ filter (λ entry. is_less key entry.key) entries) (filter (λ entry. is_less key entry.key) entries)) ≤ length (entry ∷ entries)) [
              | true ↦ omega (arith, rest)
              | false ↦ omega (arith, rest)
            ]
      ] refl

  pub length-with_entry : (key : Key) (slot : ℕ) (entries : List (Entry Key)) → length (with_entry is_less key slot entries) ≤ length entries + 1
  length-with_entry key slot entries =
      let below = filter (λ (entry : Entry Key). is_less entry.key key) entries in
      let above = filter (λ (entry : Entry Key). is_less key entry.key) entries in
      omega (arith, length-append below ((record { key = key; slot = slot }) ∷ above), sides key entries)

-- pages after a row that belongs to a warehouse
pub keeps-own : {Row : Type 0} (n segment count : ℕ) (is_own : Row → Bool) (row : Row) (old new : SpaceState) → is_own row ≡ true
    → KeepsPagesUpTo n segment (count + 1) old new → KeepsPagesUpTo n segment (count + length (filter is_own (row ∷ []))) old new
keeps-own n segment count is_own row old new is keeps most room =
    let one : length (filter is_own (row ∷ [])) ≡ 1 = ap (λ b. length (cond b (row ∷ []) [])) is in
    keeps most (omega (arith, room, one))

-- pages after more and more rows or entries of one segment
pub keeps-then : (n segment count all : ℕ) (first old new : SpaceState) → count ≤ all → KeepsPagesUpTo n segment all first old → KeepsPagesUpTo n segment count old new
    → KeepsPagesUpTo n segment all first new
keeps-then n segment count all first old new within before now most room had = now most (omega (arith, within, room)) (before most room had)

-- pages after the rows or entries of one segment
pub stays-within : (n segment count : ℕ) (tables : Tables) (old new : SpaceState) → count ≤ most_of tables segment → KeepsPagesUpTo n segment count old new
    → StaysWithin n tables old new
stays-within n segment count tables old new within keeps had = keeps (most_of tables) within had

-- pages after one row more of those that are pushed
pub rows-then : {Row : Type 0} (n segment : ℕ) (rows_in : Tables → List Row) (with_rows : Tables → List Row → Tables)
    → ((tables : Tables) (rows : List Row) → rows_in (with_rows tables rows) ≡ rows)
    → (is_own : Row → Bool) (rows : List Row) (index : ℕ) (row other : Row) → index < length rows → row ≡ get_or rows index other
    → (first old new : SpaceState) → stored_in n old ≡ with_more rows_in with_rows (filter is_own (take index rows)) (stored_in n first)
    → KeepsPagesUpTo n segment (length (rows_in (stored_in n first).tables) + length (filter is_own rows)) first old
    → KeepsPagesUpTo n segment (length (rows_in (stored_in n old).tables) + length (filter is_own (row ∷ []))) old new
    → KeepsPagesUpTo n segment (length (rows_in (stored_in n first).tables) + length (filter is_own rows)) first new
rows-then {Row = Row} n segment rows_in with_rows own is_own rows index row other within is first old new before keeps step =
    let start : Tables = (stored_in n first).tables in
    let so_far : List Row = filter is_own (take index rows) in
    let had : length (rows_in (stored_in n old).tables) ≡ length (rows_in start) + length so_far =
    ap (λ (s : Stored). length (rows_in s.tables)) before ∙ ap length (own start (rows_in start ++ so_far)) ∙ length-append (rows_in start) so_far in
    keeps-then n segment (length (rows_in (stored_in n old).tables) + length (filter is_own (row ∷ []))) (length (rows_in start) + length (filter is_own rows)) first old new
    (omega (arith, had, passed-next is_own rows index row (passed-more is_own rows index row other within is))) keeps step

-- the same in NEW-ORDER
pub new_orders-then : (n : ℕ) (is_own : NewOrder → Bool) (rows : List NewOrder) (index : ℕ) (row other : NewOrder) → index < length rows → row ≡ get_or rows index other
    → (first old new : SpaceState) → stored_in n old ≡ with_new_orders (filter is_own (take index rows)) (stored_in n first)
    → KeepsPagesUpTo n new_order_segment (length (stored_in n first).new_order_slots + length (filter is_own rows)) first old
    → KeepsPagesUpTo n new_order_segment (length (stored_in n old).new_order_slots + length (filter is_own (row ∷ []))) old new
    → KeepsPagesUpTo n new_order_segment (length (stored_in n first).new_order_slots + length (filter is_own rows)) first new
new_orders-then n is_own rows index row other within is first old new before keeps step =
    let slots : List (Option NewOrder) = (stored_in n first).new_order_slots in
    let so_far : List NewOrder = filter is_own (take index rows) in
    let had : length (stored_in n old).new_order_slots ≡ length slots + length (map Some so_far) =
    ap (λ (s : Stored). length s.new_order_slots) before ∙ length-append slots (map Some so_far) in
    keeps-then n new_order_segment (length (stored_in n old).new_order_slots + length (filter is_own (row ∷ []))) (length slots + length (filter is_own rows)) first old new
    (omega (arith, had, length-map {A = NewOrder} {B = Option NewOrder} so_far Some, passed-next is_own rows index row (passed-more is_own rows index row other within is))) keeps step

-- an order more
pub length-with_order : (orders : List Order) (entry : Entry CustomerKey) (entries : List (Entry CustomerKey)) → length (with_order orders entry entries) ≤ length entries + 1
length-with_order orders entry entries =
    elim (is_later orders entry (found is_lesser_customer entry.key entries))
    as (λ later. length (cond later entries (with_entry is_lesser_customer entry.key entry.slot entries)) ≤ length entries + 1) [
      | true ↦ omega arith
      | false ↦ length-with_entry is_lesser_customer order-of_customers entry.key entry.slot entries
    ]

-- ---- one table after another

-- the rows that are passed on are the layout's own
pub own-passed : {Row : Type 0} (rows_in : Tables → List Row) (is_of : ℕ → Row → Bool)
    → ((number : ℕ) (all : Tables) → rows_in (of_warehouse number all) ≡ filter (is_of number) (rows_in all))
    → (layout : LayoutState) (lists : Lists) (tables : Tables) (number : ℕ) (rows : List Row)
    → lists ≡ layout.load → tables ≡ lists.tables → number ≡ layout.warehouse → rows ≡ rows_in tables
    → filter (is_of number) rows ≡ rows_in (own_rows layout)
own-passed rows_in is_of own_in layout lists tables number rows load parts same list =
    ap₂ (λ (n : ℕ) (all : List _). filter (is_of n) all) same
    (list ∙ ap rows_in (parts ∙ ap (λ (l : Lists). l.tables) load))
    ∙ sym (own_in layout.warehouse layout.load.tables)

-- a table without rows was given these, or that was refused: no more pages either way
pub filled-within : {Slot Row : Type 0} (n segment : ℕ) (own : Tables) (old new : SpaceState) (had : List Slot) (rows owned : List Row)
    → rows ≡ owned → had ≡ [] → most_of own segment ≡ length owned
    → KeepsPagesUpTo n segment (length had + length rows) old new → StaysWithin n own old new
filled-within n segment own old new had rows owned same none counted keeps =
    stays-within n segment (length had + length rows) own old new (omega (arith, ap length none, ap length same, counted)) keeps
