-- The rows between the two places are those of the district.
use Rattle.std.proofs.Common.{◌≤◌, ◌==◌, ℕ, List, filter, length, nat_lt, sym, ap, ◌∙◌, subst, rules}
use Rattle.std.specs.Prelude.{nat_le}
use Rattle.std.specs.List.Sorted.{IsNonDecreasingBy}
use Rattle.hy_rows.specs.declared.customer.Customer.{Customer}
use Rattle.hy_layout.proofs.NumberLaws.{lt-wider, own-between}
use Rattle.hy_layout.proofs.PartLaws.{points-in_order, points-part}
use Rattle.hy_sound.specs.inside.Places.{district_place, stands_at}
use Rattle.hy_sound.proofs.CustomerLaws.{places-rise}
use Rattle.hy_sound.proofs.customers.customers_of.Goals as goal

pub before_place-first-requires : goal.before_place-first-requires
before_place-first-requires c =
    subst (λ (rows : List Customer). IsNonDecreasingBy stands_at rows) (sym c.list-rows.ensures)
    (places-rise (length c.args.load.now.tables.warehouses) c.args.load.now.tables.customers
    c.sound.ensures.customers.each)

pub up_to_place-behind-requires : goal.up_to_place-behind-requires
up_to_place-behind-requires c =
    subst (λ (rows : List Customer). IsNonDecreasingBy stands_at rows) (sym c.list-rows.ensures)
    (places-rise (length c.args.load.now.tables.warehouses) c.args.load.now.tables.customers
    c.sound.ensures.customers.each)

pub slice_bounds-result-count : goal.slice_bounds-result-count
slice_bounds-result-count c =
    let place : ℕ = district_place c.args.warehouse c.args.district in
    let rows : List Customer = c.list-rows.result.now in
    let in_order : c.before_place-first.result ≤ c.up_to_place-behind.result =
    points-in_order (λ row. nat_lt (stands_at row) place) (λ row. nat_le (stands_at row) place)
    rows c.before_place-first.result c.up_to_place-behind.result (λ row. lt-wider (stands_at row) place)
    c.before_place-first.ensures.point c.up_to_place-behind.ensures.point c.before_place-first.ensures.bound in
    in_order

pub slice_bounds-result-start : goal.slice_bounds-result-start
slice_bounds-result-start c =
    let place : ℕ = district_place c.args.warehouse c.args.district in
    let rows : List Customer = c.list-rows.result.now in
    let in_order : c.before_place-first.result ≤ c.up_to_place-behind.result =
    points-in_order (λ row. nat_lt (stands_at row) place) (λ row. nat_le (stands_at row) place)
    rows c.before_place-first.result c.up_to_place-behind.result (λ row. lt-wider (stands_at row) place)
    c.before_place-first.ensures.point c.up_to_place-behind.ensures.point c.before_place-first.ensures.bound in
    search rules

pub returns : goal.returns
returns c =
    let place : ℕ = district_place c.args.warehouse c.args.district in
    let rows : List Customer = c.list-rows.result.now in
    let in_order : c.before_place-first.result ≤ c.up_to_place-behind.result =
    points-in_order (λ row. nat_lt (stands_at row) place) (λ row. nat_le (stands_at row) place)
    rows c.before_place-first.result c.up_to_place-behind.result (λ row. lt-wider (stands_at row) place)
    c.before_place-first.ensures.point c.up_to_place-behind.ensures.point c.before_place-first.ensures.bound in
    sym (points-part (λ row. nat_lt (stands_at row) place) (λ row. nat_le (stands_at row) place)
    (λ row. stands_at row == place) rows c.before_place-first.result c.up_to_place-behind.result
    (λ row. own-between (stands_at row) place) c.before_place-first.ensures.point c.up_to_place-behind.ensures.point in_order)
    ∙ ap (filter (λ (row : Customer). stands_at row == place)) c.list-rows.ensures
