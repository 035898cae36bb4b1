use Rattle.std.proofs.Common.{◌≡◌, ◌-◌, ◌<◌, ◌∙◌, sym, subst, rules}
use Rattle.std.proofs.lemmas.Bool.{eqb-true}
use Rattle.hy_commands.proofs.ListLaws.{find-passes}
use Rattle.hy_rows.specs.Finding.{is_warehouse}
use Rattle.hy_commands.specs.Growth.{IsDistrictUpTo, IsWarehouseUpTo}
use Rattle.hy_indexes.specs.of_store.Writes.{stored_in}
use Rattle.hy_writers.specs.Limits.{most_applied}
use Rattle.hy_writers.proofs.PaymentLaws.{home-paid}
use Rattle.hy_writers.proofs.WritesLaws.{all-at, writes-then}
use Rattle.hy_writers.proofs.payment.pay_home.Goals as goal

-- src/payment.rt:161:30
pub warehouse_after-requires-clause-row : goal.warehouse_after-requires-clause-row
warehouse_after-requires-clause-row g c =
    let tables = (stored_in g.row.N c.args.space.now).tables in
    all-at (IsWarehouseUpTo most_applied) tables.warehouses 0 c.own_warehouse-warehouse.result c.requires.can.bounds.warehouses
    c.own_warehouse-warehouse.ensures.here

-- src/payment.rt:166:10
pub district_after-requires-clause-row : goal.district_after-requires-clause-row
district_after-requires-clause-row g c =
    let tables = (stored_in g.row.N c.args.space.now).tables in
    all-at (IsDistrictUpTo most_applied) tables.districts (c.args.payment.now.district - 1) c.own_district-district.result
    c.requires.can.bounds.districts c.own_district-district.ensures.here

-- the warehouse's row has the number
pub history_for-requires-clause-home : goal.history_for-requires-clause-home
history_for-requires-clause-home g c =
    let number = c.args.layout.now.warehouse in
    let row = c.own_warehouse-warehouse.result in
    let passes = find-passes (is_warehouse number) (stored_in g.row.N c.args.space.now).tables.warehouses row
    c.own_warehouse-warehouse.ensures.found in
    let same : row.id ≡ number = eqb-true row.id number passes in
    subst (λ n. n < 256) (same ∙ sym c.requires.can.begun.home) (search rules)

-- src/payment.rt:162:5
pub returns-in_err-put_row-2-clause-writes : goal.returns-in_err-put_row-2-clause-writes
returns-in_err-put_row-2-clause-writes g c = writes-then c.put_row.ensures.writes c.put_row-2.ensures.writes

-- src/payment.rt:168:5
pub returns-in_err-push_row-clause-writes : goal.returns-in_err-push_row-clause-writes
returns-in_err-push_row-clause-writes g c =
    writes-then (writes-then c.put_row.ensures.writes c.put_row-2.ensures.writes) c.push_row.ensures.writes

-- src/payment.rt:137:1
pub returns-clause-paid : goal.returns-clause-paid
returns-clause-paid g c =
    let payment = c.args.payment.now in
    record {
      store = c.in_ok-push_row.ensures.pushed.store;
      changed = home-paid c.args.layout.now.warehouse (payment.district - 1) c.args.customer payment
          c.requires.can.begun (stored_in g.row.N c.args.space.now) (stored_in g.row.N c.put_row.new.space)
          (stored_in g.row.N c.put_row-2.new.space) (stored_in g.row.N c.push_row.new.space)
          c.own_warehouse-warehouse.result c.warehouse_after.result
          c.own_district-district.result c.district_after.result c.history_for.result c.own_warehouse-warehouse.ensures
          c.own_district-district.ensures c.warehouse_after.ensures c.district_after.ensures c.history_for.ensures
          c.in_ok-put_row.ensures.put.changed c.in_ok-put_row-2.ensures.put.changed
          c.in_ok-push_row.ensures.pushed.changed;
    }

-- src/payment.rt:137:1
pub returns-clause-writes : goal.returns-clause-writes
returns-clause-writes g c =
    writes-then (writes-then c.put_row.ensures.writes c.put_row-2.ensures.writes) c.push_row.ensures.writes
