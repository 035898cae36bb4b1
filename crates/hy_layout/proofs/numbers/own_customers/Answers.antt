use Rattle.std.proofs.Common.{◌≤◌, ◌==◌, nat_lt, sym, rules}
use Rattle.std.specs.Prelude.{nat_le}
use Rattle.hy_layout.proofs.NumberLaws.{lt-wider, own-between}
use Rattle.hy_layout.proofs.PartLaws.{points-in_order, points-part}
use Rattle.hy_layout.proofs.numbers.own_customers.Goals as goal

pub slice_bounds-result-count : goal.slice_bounds-result-count
slice_bounds-result-count c =
    points-in_order (λ row. nat_lt row.warehouse c.args.warehouse) (λ row. nat_le row.warehouse c.args.warehouse)
    c.args.rows.now c.before_warehouse-first.result c.up_to_warehouse-behind.result
    (λ row. lt-wider row.warehouse c.args.warehouse) c.before_warehouse-first.ensures.point
    c.up_to_warehouse-behind.ensures.point c.before_warehouse-first.ensures.bound

pub slice_bounds-result-start : goal.slice_bounds-result-start
slice_bounds-result-start c =
    let in_order : c.before_warehouse-first.result ≤ c.up_to_warehouse-behind.result = points-in_order
    (λ row. nat_lt row.warehouse c.args.warehouse) (λ row. nat_le row.warehouse c.args.warehouse)
    c.args.rows.now c.before_warehouse-first.result c.up_to_warehouse-behind.result
    (λ row. lt-wider row.warehouse c.args.warehouse) c.before_warehouse-first.ensures.point
    c.up_to_warehouse-behind.ensures.point c.before_warehouse-first.ensures.bound in
    search rules

pub returns : goal.returns
returns c =
    let in_order : c.before_warehouse-first.result ≤ c.up_to_warehouse-behind.result = points-in_order
    (λ row. nat_lt row.warehouse c.args.warehouse) (λ row. nat_le row.warehouse c.args.warehouse)
    c.args.rows.now c.before_warehouse-first.result c.up_to_warehouse-behind.result
    (λ row. lt-wider row.warehouse c.args.warehouse) c.before_warehouse-first.ensures.point
    c.up_to_warehouse-behind.ensures.point c.before_warehouse-first.ensures.bound in
    sym (points-part (λ row. nat_lt row.warehouse c.args.warehouse) (λ row. nat_le row.warehouse c.args.warehouse)
    (λ row. row.warehouse == c.args.warehouse) c.args.rows.now c.before_warehouse-first.result
    c.up_to_warehouse-behind.result (λ row. own-between row.warehouse c.args.warehouse)
    c.before_warehouse-first.ensures.point c.up_to_warehouse-behind.ensures.point in_order)
