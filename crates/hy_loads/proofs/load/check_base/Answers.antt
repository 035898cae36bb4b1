use Rattle.std.proofs.Common.{inl, inr, length}
use Rattle.hy_rows.specs.declared.catalogue.Table.TheVariants as table
use Rattle.hy_schema.specs.Loads.{HasAllCustomers, HasAllStock, HasSome, IsCustomerAt, IsItemAt, IsStockAt}
use Rattle.hy_loads.specs.Checks.{IsRefusalOf, IsRowRefusal}
use Rattle.hy_loads.proofs.RefusalLaws.{IfErr-this, IfErr-weaker, IsRefusalOf-row}
use Rattle.hy_loads.proofs.ThereLaws.{few_warehouses}
use Rattle.hy_loads.proofs.load.check_base.Goals as goal

-- there are few warehouses
pub check_list-requires-2-clause-holds : goal.check_list-requires-2-clause-holds
check_list-requires-2-clause-holds c = few_warehouses c.list-rows.result.now c.in_ok-check_list.ensures.right

-- the first fault is one of CUSTOMER
pub returns-in_err-check_list-3-clause-fault : goal.returns-in_err-check_list-3-clause-fault
returns-in_err-check_list-3-clause-fault c =
    let lists = c.args.lists.now in
    let tables = lists.tables in
    let ends = c.args.ends in
    let count = length tables.warehouses in
    let warehouses = rw c.list-rows.ensures at c.in_ok-check_list.ensures.right in
    let districts = rw (c.list-rows.ensures, c.list-rows-2.ensures) at c.in_ok-check_list-2.ensures.right in
    let why = rw (c.list-rows.ensures, c.list-rows-3.ensures) at c.in_err-check_list-3.ensures.fault in
    IfErr-this _ _ (IsRefusalOf ends lists) c.from_residual-in_err-check_list-3.ensures.1
    (IsRefusalOf-row table.Customer ends.customers (IsCustomerAt count tables.customers)
    (HasAllCustomers count tables.customers) tables.customers ends lists _
    (λ fault here.
    inr (c.in_ok-check_list.ensures.end, warehouses, inr (c.in_ok-check_list-2.ensures.end, districts, inl here)))
    why)

-- the first fault is one of ITEM
pub returns-in_err-check_list-4-clause-fault : goal.returns-in_err-check_list-4-clause-fault
returns-in_err-check_list-4-clause-fault c =
    let lists = c.args.lists.now in
    let tables = lists.tables in
    let ends = c.args.ends in
    let warehouses = rw c.list-rows.ensures at c.in_ok-check_list.ensures.right in
    let districts = rw (c.list-rows.ensures, c.list-rows-2.ensures) at c.in_ok-check_list-2.ensures.right in
    let customers = rw (c.list-rows.ensures, c.list-rows-3.ensures) at c.in_ok-check_list-3.ensures.right in
    let why = rw c.list-rows-4.ensures at c.in_err-check_list-4.ensures.fault in
    IfErr-this _ _ (IsRefusalOf ends lists) c.from_residual-in_err-check_list-4.ensures.1
    (IsRefusalOf-row table.Item ends.items IsItemAt (HasSome lists.items) lists.items ends lists _
    (λ fault here.
    inr (
      c.in_ok-check_list.ensures.end,
      warehouses,
      inr (
        c.in_ok-check_list-2.ensures.end,
        districts,
        inr (c.in_ok-check_list-3.ensures.end, customers, inl here),
      ),
    ))
    why)

-- the first fault is one of STOCK
pub returns-clause-fault : goal.returns-clause-fault
returns-clause-fault c =
    let lists = c.args.lists.now in
    let tables = lists.tables in
    let ends = c.args.ends in
    let count = length tables.warehouses in
    let items = length lists.items in
    let warehouses = rw c.list-rows.ensures at c.in_ok-check_list.ensures.right in
    let districts = rw (c.list-rows.ensures, c.list-rows-2.ensures) at c.in_ok-check_list-2.ensures.right in
    let customers = rw (c.list-rows.ensures, c.list-rows-3.ensures) at c.in_ok-check_list-3.ensures.right in
    let item_rows = rw c.list-rows-4.ensures at c.in_ok-check_list-4.ensures.right in
    let why =
    rw (c.list-rows.ensures, c.list-rows-4.ensures, c.list-rows-5.ensures) at c.check_list-5.ensures.fault in
    let right = IsStockAt count items in
    let Whole = HasAllStock count items tables.stock in
    IfErr-weaker c.check_list-5.result (IsRowRefusal table.Stock ends.stock right Whole tables.stock)
    (IsRefusalOf ends lists)
    (λ refusal.
    IsRefusalOf-row table.Stock ends.stock right Whole tables.stock ends lists refusal
    (λ fault here.
    inr (
      c.in_ok-check_list.ensures.end,
      warehouses,
      inr (
        c.in_ok-check_list-2.ensures.end,
        districts,
        inr (
          c.in_ok-check_list-3.ensures.end,
          customers,
          inr (
            c.in_ok-check_list-4.ensures.end,
            item_rows,
            inl here,
          ),
        ),
      ),
    )))
    why
