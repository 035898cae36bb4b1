use Rattle.std.proofs.Common.{inl, inr}
use Rattle.std.specs.Prelude.{⊤}
use Rattle.hy_rows.specs.declared.catalogue.Table.TheVariants as table
use Rattle.hy_schema.specs.Loads.{IsNewOrderAt, IsOrderLineAt}
use Rattle.hy_loads.specs.Checks.{IsRefusalOf, IsRowRefusal}
use Rattle.hy_loads.proofs.RefusalLaws.{HasFault-orders, IfErr-this, IfErr-weaker, IsRefusalOf-row}
use Rattle.hy_loads.proofs.ThereLaws.{HasItems-right, HasWarehouses-right}
use Rattle.hy_loads.proofs.load.check_orders.Goals as goal

-- the first fault is one of NEW-ORDER
pub returns-in_err-check_list-2-clause-fault : goal.returns-in_err-check_list-2-clause-fault
returns-in_err-check_list-2-clause-fault c =
    let lists = c.args.lists.now in
    let tables = lists.tables in
    let ends = c.args.ends in
    let orders =
    rw (c.requires.districts, c.requires.rows, c.list-order_rows.ensures) at c.in_ok-check_list.ensures.right in
    let why = rw (c.list-order_rows.ensures, c.list-rows.ensures) at c.in_err-check_list-2.ensures.fault in
    IfErr-this _ _ (IsRefusalOf ends lists) c.from_residual-in_err-check_list-2.ensures.1
    (IsRefusalOf-row table.NewOrder ends.new_orders (IsNewOrderAt tables.orders tables.new_orders) ⊤ tables.new_orders
    ends lists _
    (λ fault here.
    HasFault-orders ends lists fault c.requires.base (inr (c.in_ok-check_list.ensures.end, orders, inl here)))
    why)

-- the orders, the warehouses and the items are known
pub check_list-requires-3-clause-holds : goal.check_list-requires-3-clause-holds
check_list-requires-3-clause-holds c = record {
  orders = c.in_ok-check_list.ensures.seen;
  warehouses = rw c.list.ensures (HasWarehouses-right c.args.lists.now.tables.warehouses c.requires.base.warehouses);
  items = rw c.list-2.ensures (HasItems-right c.args.lists.now.items c.requires.base.items);
}

-- the first fault is one of ORDER-LINE
pub returns-clause-fault : goal.returns-clause-fault
returns-clause-fault c =
    let lists = c.args.lists.now in
    let tables = lists.tables in
    let ends = c.args.ends in
    let orders =
    rw (c.requires.districts, c.requires.rows, c.list-order_rows.ensures) at c.in_ok-check_list.ensures.right in
    let new_orders = rw (c.list-order_rows.ensures, c.list-rows.ensures) at c.in_ok-check_list-2.ensures.right in
    let why =
    rw (c.list-order_rows.ensures, c.list.ensures, c.list-2.ensures, c.list-3.ensures) at c.check_list-3.ensures.fault in
    let right = IsOrderLineAt tables.warehouses lists.items tables.orders tables.order_lines in
    IfErr-weaker c.check_list-3.result (IsRowRefusal table.OrderLine ends.order_lines right ⊤ tables.order_lines)
    (IsRefusalOf ends lists)
    (λ refusal.
    IsRefusalOf-row table.OrderLine ends.order_lines right ⊤ tables.order_lines ends lists refusal
    (λ fault here.
    HasFault-orders ends lists fault c.requires.base (inr (
      c.in_ok-check_list.ensures.end,
      orders,
      inr (c.in_ok-check_list-2.ensures.end, new_orders, inl here),
    ))))
    why
