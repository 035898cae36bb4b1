use Rattle.std.proofs.Common.{◌≡◌, ◌==◌, ◌∙◌, ℕ, List, [], filter, sym, ap₂, subst}
use Rattle.std.proofs.lemmas.Bool.{eqb-true}
use Rattle.hy_rows.specs.declared.new_order.NewOrder.{NewOrder}
use Rattle.hy_rows.specs.declared.order.Order.{Order}
use Rattle.hy_rows.specs.declared.order_line.OrderLine.{OrderLine}
use Rattle.hy_schema.specs.Loads.{IsLoad}
use Rattle.hy_layout.specs.Layout.{own_rows}
use Rattle.hy_commands.specs.Invariant.{IsSoundWarehouse, line_key, new_order_key, order_key}
use Rattle.hy_indexes.specs.of_store.declared.keys.LineKey.{LineKey}
use Rattle.hy_indexes.specs.of_store.declared.keys.OrderKey.{OrderKey}
use Rattle.hy_indexes.specs.of_store.declared.keys.WaitingKey.{WaitingKey}
use Rattle.hy_layout.specs.Finds.{IsIn}
use Rattle.hy_indexes.specs.Indexes.{line_key_at, order_key_at, waiting_key_at}
use Rattle.hy_fill.proofs.EntryLaws.{unique-apart}
use Rattle.hy_layout.proofs.MemberLaws.{filter-in}
use Rattle.hy_fill.proofs.fill.know_keys.Goals as goal

-- rows that pass the test of a warehouse's number have the same number
same-warehouse : {Row : Type 0} (warehouse_of : Row → ℕ) (number : ℕ) (rows : List Row) (one other : Row)
    → IsIn one (filter (λ row. warehouse_of row == number) rows)
    → IsIn other (filter (λ row. warehouse_of row == number) rows) → warehouse_of one ≡ warehouse_of other
same-warehouse warehouse_of number rows one other here there =
    eqb-true (warehouse_of one) number (filter-in (λ row. warehouse_of row == number) one rows here).1
    ∙ sym (eqb-true (warehouse_of other) number (filter-in (λ row. warehouse_of row == number) other rows there).1)

-- the loaded rows are those of a sound warehouse
sound : (c : goal.After-conditions_are_kept)
    → IsSoundWarehouse c.args.layout.now.load.items c.args.layout.now.warehouse (own_rows c.args.layout.now)
sound c =
    c.conditions_are_kept.ensures c.args.layout.now.load c.args.layout.now.warehouse []
    (subst IsLoad c.load.ensures c.sound.ensures) c.know_places.ensures.warehouse

pub returns-clause-orders : goal.returns-clause-orders
returns-clause-orders c =
    let number : ℕ = c.args.layout.now.warehouse in
    let rows : List Order = c.args.layout.now.load.tables.orders in
    unique-apart order_key_at order_key (own_rows c.args.layout.now).orders (sound c).orders.unique_orders
    (λ one other here there same.
    ap₂ (λ (w : ℕ) (k : OrderKey). (w, k.district, k.order))
    (same-warehouse (λ (row : Order). row.warehouse) number rows one other here there) same)

pub returns-clause-waiting : goal.returns-clause-waiting
returns-clause-waiting c =
    let number : ℕ = c.args.layout.now.warehouse in
    let rows : List NewOrder = c.args.layout.now.load.tables.new_orders in
    unique-apart waiting_key_at new_order_key (own_rows c.args.layout.now).new_orders (sound c).orders.unique_new_orders
    (λ one other here there same.
    ap₂ (λ (w : ℕ) (k : WaitingKey). (w, k.district, k.order))
    (same-warehouse (λ (row : NewOrder). row.warehouse) number rows one other here there) same)

pub returns-clause-lines : goal.returns-clause-lines
returns-clause-lines c =
    let number : ℕ = c.args.layout.now.warehouse in
    let rows : List OrderLine = c.args.layout.now.load.tables.order_lines in
    unique-apart line_key_at line_key (own_rows c.args.layout.now).order_lines (sound c).orders.unique_lines
    (λ one other here there same.
    ap₂ (λ (w : ℕ) (k : LineKey). (w, k.district, k.order, k.number))
    (same-warehouse (λ (row : OrderLine). row.warehouse) number rows one other here there) same)
