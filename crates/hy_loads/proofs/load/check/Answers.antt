use Rattle.std.proofs.Common.{◌≡◌, inl, inr, length, Some, refl, sym, ap, ◌∙◌}
use Rattle.std.specs.Prelude.{⊤}
use Rattle.hy_rows.specs.Tables.{Lists}
use Rattle.hy_schema.specs.Conditions.{first_broken}
use Rattle.hy_schema.specs.declared.refusal.LoadFault.TheVariants as faults
use Rattle.hy_rows.specs.declared.catalogue.Table.TheVariants as table
use Rattle.hy_schema.specs.Loads.{IsHistoryAt}
use Rattle.hy_loads.specs.Checks.{IsRefusalOf}
use Rattle.hy_loads.proofs.RefusalLaws.{HasFault-orders, IfErr-this, IsRefusalOf-row}
use Rattle.hy_loads.proofs.ThereLaws.{HasDistricts-right}
use Rattle.hy_loads.proofs.load.check.Goals as goal

-- the districts and the customers are known
pub check_orders-requires-clause-customers : goal.check_orders-requires-clause-customers
check_orders-requires-clause-customers c =
    let tables = c.args.lists.now.tables in
    record {
      districts =
          rw (c.list.ensures, c.list-2.ensures)
          (HasDistricts-right (length tables.warehouses) tables.districts c.in_ok-check_base.ensures.right.districts);
      customers = rw c.list-3.ensures c.in_ok-check_base.ensures.keys;
    }

pub check_list-requires-clause-holds : goal.check_list-requires-clause-holds
check_list-requires-clause-holds c =
    let tables = c.args.lists.now.tables in
    record {
      districts =
          rw (c.list.ensures, c.list-2.ensures)
          (HasDistricts-right (length tables.warehouses) tables.districts c.in_ok-check_base.ensures.right.districts);
      customers = rw c.list-3.ensures c.in_ok-check_base.ensures.keys;
    }

-- the first fault is one of HISTORY
pub returns-in_err-check_list-clause-fault : goal.returns-in_err-check_list-clause-fault
returns-in_err-check_list-clause-fault c =
    let lists = c.args.lists.now in
    let tables = lists.tables in
    let ends = c.args.ends in
    let orders = c.in_ok-check_orders.ensures.right in
    let why = rw (c.list-2.ensures, c.list-3.ensures, c.list-rows.ensures) at c.in_err-check_list.ensures.fault in
    IfErr-this _ _ (IsRefusalOf ends lists) c.from_residual-in_err-check_list.ensures.1
    (IsRefusalOf-row table.History ends.history (IsHistoryAt tables.districts tables.customers) ⊤ tables.history ends
    lists _
    (λ fault here.
    HasFault-orders ends lists fault c.in_ok-check_base.ensures.right (inr (
      orders.orders_end,
      orders.orders,
      inr (orders.new_orders_end, orders.new_orders, inr (orders.order_lines_end, orders.order_lines, inl here)),
    )))
    why)

-- the rows are right, and break a condition
pub returns-clause-fault : goal.returns-clause-fault
returns-clause-fault c =
    let lists = c.args.lists.now in
    let ends = c.args.ends in
    let orders = c.in_ok-check_orders.ensures.right in
    let history = rw (c.list-2.ensures, c.list-3.ensures, c.list-rows.ensures) at c.in_ok-check_list.ensures.right in
    let fault = faults.Condition c.in-Some.number in
    let broken : first_broken lists.tables ≡ Some c.in-Some.number =
    sym (ap (λ (all : Lists). first_broken all.tables) c.lists.view_is)
    ∙ sym c.in_ok-first_broken.ensures ∙ c.in-Some.is in
    inr (
      fault,
      refl,
      HasFault-orders ends lists fault c.in_ok-check_base.ensures.right (inr (
        orders.orders_end,
        orders.orders,
        inr (
          orders.new_orders_end,
          orders.new_orders,
          inr (
            orders.order_lines_end,
            orders.order_lines,
            inr (c.in_ok-check_list.ensures.end, history, (c.in-Some.number, refl, broken)),
          ),
        ),
      )),
    )
