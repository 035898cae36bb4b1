use Rattle.std.proofs.Common.{◌≡◌, ◌+◌, ◌-◌, ◌/◌, ◌≤◌, List, length, take, drop, Some, None, slice_get, ap, sym, subst, ◌∙◌, arith, rules}
use Rattle.std.specs.Prelude.{MatchOption}
use Rattle.std.specs.Ordering.{is_le, is_lt}
use Rattle.hy_layout.specs.inside.Places.{compare_name, is_called}
use Rattle.hy_layout.specs.declared.names.NamedCustomer.{NamedCustomer}
use Rattle.hy_layout.proofs.NameOrders.{called-between, name-wider}
use Rattle.hy_layout.proofs.PartLaws.{get-gives, points-in_order, points-part}
use Rattle.hy_layout.proofs.names.middle_named.Goals as goal

pub slice_bounds-found-count : goal.slice_bounds-found-count
slice_bounds-found-count c =
    points-in_order (λ customer. is_lt (compare_name c.args.district c.args.name.now customer))
    (λ customer. is_le (compare_name c.args.district c.args.name.now customer)) c.args.names.now
    c.first_named-first.result c.behind_named-behind.result (name-wider c.args.district c.args.name.now)
    c.first_named-first.ensures.point c.behind_named-behind.ensures.point c.first_named-first.ensures.bound

pub slice_bounds-found-start : goal.slice_bounds-found-start
slice_bounds-found-start c =
    let in_order : c.first_named-first.result ≤ c.behind_named-behind.result = points-in_order
    (λ customer. is_lt (compare_name c.args.district c.args.name.now customer))
    (λ customer. is_le (compare_name c.args.district c.args.name.now customer)) c.args.names.now
    c.first_named-first.result c.behind_named-behind.result (name-wider c.args.district c.args.name.now)
    c.first_named-first.ensures.point c.behind_named-behind.ensures.point c.first_named-first.ensures.bound in
    search rules

pub returns : goal.returns
returns c =
    let in_order : c.first_named-first.result ≤ c.behind_named-behind.result = points-in_order
    (λ customer. is_lt (compare_name c.args.district c.args.name.now customer))
    (λ customer. is_le (compare_name c.args.district c.args.name.now customer)) c.args.names.now
    c.first_named-first.result c.behind_named-behind.result (name-wider c.args.district c.args.name.now)
    c.first_named-first.ensures.point c.behind_named-behind.ensures.point c.first_named-first.ensures.bound in
    let part = points-part (λ customer. is_lt (compare_name c.args.district c.args.name.now customer))
    (λ customer. is_le (compare_name c.args.district c.args.name.now customer))
    (is_called c.args.district c.args.name.now) c.args.names.now c.first_named-first.result
    c.behind_named-behind.result (called-between c.args.district c.args.name.now) c.first_named-first.ensures.point
    c.behind_named-behind.ensures.point in_order in
    let found : List NamedCustomer = take (c.behind_named-behind.result - c.first_named-first.result)
    (drop c.first_named-first.result c.args.names.now) in
    let same : (length found - 1) / 2 ≡ (length found + 1) / 2 - 1 = omega arith in
    subst (λ customers. MatchOption c.get.result (slice_get customers ((length customers + 1) / 2 - 1) ≡ None)
    (λ customer. slice_get customers ((length customers + 1) / 2 - 1) ≡ Some customer.now)) (sym part)
    (subst (λ place. MatchOption c.get.result (slice_get found place ≡ None) (λ customer. slice_get found place
    ≡ Some customer.now)) (ap (λ n. n / 2) c.saturating_sub.ensures ∙ same)
    (get-gives found (c.saturating_sub.result / 2) c.get.result c.get.ensures.lookup))
