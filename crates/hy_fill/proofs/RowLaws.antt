-- Rows of a load, added one by one.
use Rattle.std.proofs.Common.{◌≡◌, ℕ, ◌+◌, ◌<◌, Bool, List, [], ◌∷◌, ◌++◌, length, map, filter, take, Some, sym, ap, ap₂, ◌∙◌, get_or, append_assoc}
use Rattle.std.proofs.lemmas.List.{map-append, take_more}
use Rattle.std.proofs.lemmas.List.Elements.{filter-append}
use Rattle.hy_rows.specs.declared.new_order.NewOrder.{NewOrder}
use Rattle.hy_rows.specs.Tables.{Tables}
use Rattle.hy_indexes.specs.of_store.Stored.{Stored}
use Rattle.hy_fill.specs.inside.Filling.{with_more, with_new_orders}

-- of one row more, those that pass
pub passed-more : {Row : Type 0} (keep : Row → Bool) (rows : List Row) (index : ℕ) (row other : Row)
    → index < length rows → row ≡ get_or rows index other
    → filter keep (take index rows) ++ filter keep (row ∷ []) ≡ filter keep (take (index + 1) rows)
passed-more keep rows index row other within is =
    ap (λ last. filter keep (take index rows) ++ filter keep (last ∷ [])) is
    ∙ sym (filter-append keep (take index rows) (get_or rows index other ∷ []))
    ∙ ap (filter keep) (sym (take_more rows index other within))

-- rows behind rows behind those of a table
pub pushed-more : {Row : Type 0} (rows_in : Tables → List Row) (with_rows : Tables → List Row → Tables)
    → ((tables : Tables) (rows : List Row) → rows_in (with_rows tables rows) ≡ rows)
    → ((tables : Tables) (rows others : List Row) → with_rows (with_rows tables rows) others ≡ with_rows tables others)
    → (s one other : Stored) (rows more : List Row)
    → one ≡ with_more rows_in with_rows rows s → other ≡ with_more rows_in with_rows more one
    → other ≡ with_more rows_in with_rows (rows ++ more) s
pushed-more {Row = Row} rows_in with_rows own last s one other rows more first second =
    let before : List Row = rows_in s.tables in
    second
    ∙ ap (with_more rows_in with_rows more) first
    ∙ ap (λ (tables : Tables). record s { tables = tables })
    (last s.tables (before ++ rows) (rows_in (with_rows s.tables (before ++ rows)) ++ more)
    ∙ ap (with_rows s.tables) (ap (λ (all : List Row). all ++ more) (own s.tables (before ++ rows))
    ∙ append_assoc before rows more))

-- the same in NEW-ORDER, with its slots
pub new_orders-more : (s one other : Stored) (rows more : List NewOrder)
    → one ≡ with_new_orders rows s → other ≡ with_new_orders more one → other ≡ with_new_orders (rows ++ more) s
new_orders-more s one other rows more first second =
    second
    ∙ ap (with_new_orders more) first
    ∙ ap₂ (λ all slots. record s { tables = record s.tables { new_orders = all }; new_order_slots = slots })
    (append_assoc s.tables.new_orders rows more)
    (append_assoc s.new_order_slots (map Some rows) (map Some more)
    ∙ ap (λ slots. s.new_order_slots ++ slots) (sym (map-append Some rows more)))
