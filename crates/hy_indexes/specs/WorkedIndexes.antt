-- Indexes over two orders, which the checker computes.
use Rattle.std.specs.Prelude.{◌≡◌, ℕ, zero, suc, ◌≤◌, List, [], ◌∷◌, Some, slice_get}
use Rattle.std.proofs.Common.{refl, sym, ap, subst, inl, inr, arith}
use Rattle.hy_rows.specs.declared.order.Order.{Order}
use Rattle.hy_store.specs.Entry.{Entry}
use Rattle.hy_store.specs.declared.keys.CustomerKey.{CustomerKey}
use Rattle.hy_store.specs.declared.keys.OrderKey.{OrderKey}
use Rattle.hy_indexes.specs.Finds.{IsIndexOf}
use Rattle.hy_indexes.specs.Indexes.{AreLastOrders, buyer_key_at, order_key_at}

-- an order by its warehouse, district, number and customer
abbrev pub order : ℕ → ℕ → ℕ → ℕ → Order
order warehouse district number customer = record {
  id = number;
  district = district;
  warehouse = warehouse;
  customer = customer;
  entry_date = 1;
  carrier = 0;
  line_count = 5;
  all_local = 1;
}

-- the entry of an order by its number and district, and that of a customer by district and number
abbrev pub of_order : ℕ → ℕ → ℕ → Entry OrderKey
of_order number district slot = record { key = record { order = number; district = district }; slot = slot }

abbrev pub of_customer : ℕ → ℕ → ℕ → Entry CustomerKey
of_customer district customer slot =
    record { key = record { district = district; customer = customer }; slot = slot }

-- two orders of one customer
abbrev two : List Order
two = order 1 2 7 30 ∷ order 1 2 9 30 ∷ []

is-most : (place : ℕ) (other : Order) → slice_get two place ≡ Some other → other.id ≤ 9
is-most zero other here = let is : order 1 2 7 30 ≡ other = cc in let id = ap (λ (r : Order). r.id) is in omega (arith, id)
is-most (suc zero) other here =
    let is : order 1 2 9 30 ≡ other = cc in let id = ap (λ (r : Order). r.id) is in omega (arith, id)
is-most (suc (suc place)) other here = absurd (cc)

places-known : (place : ℕ) (row : Order) → slice_get two place ≡ Some row → buyer_key_at row ≡ buyer_key_at (order 1 2 7 30)
places-known zero row here = let is : order 1 2 7 30 ≡ row = cc in ap buyer_key_at (sym is)
places-known (suc zero) row here = let is : order 1 2 9 30 ≡ row = cc in ap buyer_key_at (sym is)
places-known (suc (suc place)) row here = absurd (cc)

last_of_two : AreLastOrders two (of_customer 2 30 1 ∷ [])
last_of_two = record {
  there = λ entry there. elim there [
    | inl same ↦ subst (λ (e : Entry CustomerKey). (row : Order) × (slice_get two e.slot ≡ Some row)
        × (buyer_key_at row ≡ e.key) × ((place : ℕ) (other : Order) → slice_get two place ≡ Some other
        → buyer_key_at other ≡ e.key → other.id ≤ row.id)) same
        (order 1 2 9 30, refl, refl, λ place other here key. is-most place other here)
    | inr none ↦ absurd none
  ];
  all = λ place row here. (1, inl (ap (λ (k : CustomerKey). record { key = k; slot = 1 }) (sym (places-known place row here))));
}

-- the first of the two isn't the last, and an index lacks no order
first_is_refused : AreLastOrders two (of_customer 2 30 0 ∷ []) → ⊥
first_is_refused last =
    let found = last.there (of_customer 2 30 0) (inl refl) in
    let is : order 1 2 7 30 ≡ found.0 = (let h : Some (order 1 2 7 30) ≡ Some found.0 = found.1 in cc) in
    let id = ap (λ (r : Order). r.id) is in
    let least = found.3 1 (order 1 2 9 30) refl refl in
    omega (arith, id, least)

missing_is_refused : IsIndexOf order_key_at (slice_get two) (of_order 7 2 0 ∷ []) → ⊥
missing_is_refused index = elim (index.all 1 (order 1 2 9 30) refl) [
  | inl same ↦ let numbers = ap (λ (e : Entry OrderKey). e.slot) same in omega (arith, numbers)
  | inr none ↦ none
]
