-- The keys of the store's indexes have one order each.
use Rattle.hy_layout.proofs.KeyOrders.{both-equal, order-total, same-number}
use Rattle.std.proofs.Common.{ℕ, ap, ap₂, ◌∙◌}
use Rattle.std.specs.Ordering.{nat_cmp, ordering_then}
use Rattle.std.proofs.lemmas.Cmp.{nat_cmp_total, on_total, then_total}
use Rattle.hy_store.specs.declared.keys.CustomerKey.{CustomerKey}
use Rattle.hy_store.specs.declared.keys.LineKey.{LineKey}
use Rattle.hy_store.specs.declared.keys.OrderKey.{OrderKey}
use Rattle.hy_store.specs.declared.keys.WaitingKey.{WaitingKey}
use Rattle.hy_store.specs.Keys.{is_lesser_customer, is_lesser_line, is_lesser_order, is_lesser_waiting}
use Rattle.hy_layout.specs.Finds.{IsOrder}

pub order-of_orders : IsOrder is_lesser_order
order-of_orders = order-total
    (λ (one : OrderKey) (other : OrderKey). ordering_then (nat_cmp one.order other.order) (nat_cmp one.district other.district))
    (then_total (on_total (λ (key : OrderKey). key.order) nat_cmp_total) (on_total (λ (key : OrderKey). key.district) nat_cmp_total))
    (λ one other is.
    let both = both-equal (nat_cmp one.order other.order) (nat_cmp one.district other.district) is in
    ap₂ (λ (o : ℕ) (d : ℕ). record { order = o; district = d })
    (same-number one.order other.order both.0) (same-number one.district other.district both.1))

pub order-of_customers : IsOrder is_lesser_customer
order-of_customers = order-total
    (λ (one : CustomerKey) (other : CustomerKey). ordering_then (nat_cmp one.district other.district) (nat_cmp one.customer other.customer))
    (then_total (on_total (λ (key : CustomerKey). key.district) nat_cmp_total) (on_total (λ (key : CustomerKey). key.customer) nat_cmp_total))
    (λ one other is.
    let both = both-equal (nat_cmp one.district other.district) (nat_cmp one.customer other.customer) is in
    ap₂ (λ (d : ℕ) (c : ℕ). record { district = d; customer = c })
    (same-number one.district other.district both.0) (same-number one.customer other.customer both.1))

pub order-of_waiting : IsOrder is_lesser_waiting
order-of_waiting = order-total
    (λ (one : WaitingKey) (other : WaitingKey). ordering_then (nat_cmp one.district other.district) (nat_cmp one.order other.order))
    (then_total (on_total (λ (key : WaitingKey). key.district) nat_cmp_total) (on_total (λ (key : WaitingKey). key.order) nat_cmp_total))
    (λ one other is.
    let both = both-equal (nat_cmp one.district other.district) (nat_cmp one.order other.order) is in
    ap₂ (λ (d : ℕ) (o : ℕ). record { district = d; order = o })
    (same-number one.district other.district both.0) (same-number one.order other.order both.1))

pub order-of_lines : IsOrder is_lesser_line
order-of_lines = order-total
    (λ (one : LineKey) (other : LineKey). ordering_then (nat_cmp one.order other.order)
    (ordering_then (nat_cmp one.district other.district) (nat_cmp one.number other.number)))
    (then_total (on_total (λ (key : LineKey). key.order) nat_cmp_total)
    (then_total (on_total (λ (key : LineKey). key.district) nat_cmp_total) (on_total (λ (key : LineKey). key.number) nat_cmp_total)))
    (λ one other is.
    let first = both-equal (nat_cmp one.order other.order)
    (ordering_then (nat_cmp one.district other.district) (nat_cmp one.number other.number)) is in
    let both = both-equal (nat_cmp one.district other.district) (nat_cmp one.number other.number) first.1 in
    ap₂ (λ (o : ℕ) (d : ℕ). record { order = o; district = d; number = one.number })
    (same-number one.order other.order first.0) (same-number one.district other.district both.0)
    ∙ ap (λ (n : ℕ). record { order = other.order; district = other.district; number = n })
    (same-number one.number other.number both.1))
