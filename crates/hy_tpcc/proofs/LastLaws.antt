-- The last order of a customer: that with the greatest number.
use Rattle.std.proofs.Common.{◌≡◌, ℕ, ◌<◌, ◌≤◌, inl, inr, Bool, true, false, cond, List, [], ◌∷◌, Option, None, Some, refl, sym, ap, ap₂, subst, ◌∙◌, arith}
use Rattle.std.specs.Prelude.{nat_lt, slice_get, fold, ⊤}
use Rattle.std.proofs.lemmas.Bool.{cases_eq}
use Rattle.std.proofs.lemmas.Bool.Decides.{nat_tests}
use Rattle.hy_rows.specs.declared.customer.Customer.{Customer}
use Rattle.hy_rows.specs.declared.item.Item.{Item}
use Rattle.hy_rows.specs.declared.order.Order.{Order}
use Rattle.hy_rows.specs.Tables.{Tables}
use Rattle.hy_schema.specs.Related.{is_order_by, orders_by}
use Rattle.hy_writers.specs.of_index.declared.key.Entry.{Entry}
use Rattle.hy_writers.specs.of_index.Index.{found}
use Rattle.hy_commands.specs.Invariant.{IsOwnOrder, IsSoundWarehouse, order_key}
use Rattle.hy_commands.specs.OrderStatus.{last_order, later_of}
use Rattle.hy_commands.proofs.ListLaws.{filter-none}
use Rattle.hy_commands.proofs.OnceLaws.{passes-three, tells-three}
use Rattle.hy_writers.specs.of_store.declared.keys.CustomerKey.{CustomerKey}
use Rattle.hy_writers.specs.of_store.Keys.{is_lesser_customer}
use Rattle.hy_layout.specs.Finds.{IsIn}
use Rattle.hy_writers.specs.of_indexes.Indexes.{AreLastOrders, buyer_key_at}
use Rattle.hy_writers.proofs.of_indexes.IndexLaws.{found-in, found-none}
use Rattle.hy_writers.proofs.of_indexes.KeyOrders.{order-of_customers}
use Rattle.hy_layout.proofs.MemberLaws.{filter-in, in-filter, in-place, place-in}
use Rattle.hy_layout.proofs.PlaceLaws.{unique-places}
use Rattle.hy_writers.proofs.WaitingLaws.{all-in}
use Rattle.hy_writers.proofs.WritesLaws.{all-at}

some-is : {Row : Type 0} (one other : Row) → Some one ≡ Some other → one ≡ other
some-is one other same = cc

fails : {Row : Type 0} (test : Row → Bool) (row : Row) → (test row ≡ true → ⊥) → test row ≡ false
fails test row never = elim (test row) as (λ b. test row ≡ b → b ≡ false) [
  | true ↦ λ is. absurd (never is)
  | false ↦ λ is. refl
] refl

-- ---- the order with the greatest number, where it is the only one with it

module _ (best : Order) where
  stays : (rows : List Order) → ((row : Order) → IsIn row rows → row.id ≤ best.id)
      → fold later_of (Some best) rows ≡ Some best
  stays [] greatest = refl
  stays (row ∷ rows) greatest =
      let below = greatest row (inl refl) in
      let not_less : nat_lt best.id row.id ≡ false = grind (arith, nat_tests, below) in
      ap (λ b. fold later_of (cond b (Some row) (Some best)) rows) not_less
      ∙ stays rows (λ other there. greatest other (inr there))

  abbrev IsBehind : Option Order → Type 0
  IsBehind None = ⊤
  IsBehind (Some before) = before.id < best.id

  later-best : (before : Option Order) (row : Order) → IsBehind before → row ≡ best → later_of before row ≡ Some best
  later-best None row behind is = ap Some is
  later-best (Some before) row behind is =
      let ids = ap (λ (o : Order). o.id) is in
      let less : nat_lt before.id row.id ≡ true = grind (arith, nat_tests, behind, ids) in
      ap (λ b. cond b (Some row) (Some before)) less ∙ ap Some is

  later-behind : (before : Option Order) (row : Order) → IsBehind before → row.id < best.id
      → IsBehind (later_of before row)
  later-behind None row behind less = less
  later-behind (Some before) row behind less =
      elim (nat_lt before.id row.id) as (λ b. IsBehind (cond b (Some row) (Some before))) [
        | true ↦ less
        | false ↦ behind
      ]

  comes : (rows : List Order) (before : Option Order) → IsBehind before → IsIn best rows
      → ((row : Order) → IsIn row rows → row.id ≤ best.id)
      → ((row : Order) → IsIn row rows → row.id ≡ best.id → row ≡ best) → fold later_of before rows ≡ Some best
  comes [] before behind there greatest only = absurd there
  comes (row ∷ rows) before behind there greatest only =
      let rest : (other : Order) → IsIn other rows → other.id ≤ best.id = λ other later. greatest other (inr later) in
      elim (cases_eq row.id best.id) [
        | inl same ↦
            ap (λ found. fold later_of found rows) (later-best before row behind (only row (inl refl) same))
            ∙ stays rows rest
        | inr differs ↦ elim there [
          | inl is ↦ absurd (differs (ap (λ (o : Order). o.id) is))
          | inr later ↦
              comes rows (later_of before row)
              (later-behind before row behind
              (let below = greatest row (inl refl) in grind (arith, nat_tests, below, differs)))
              later rest (λ other behind. only other (inr behind))
        ]
      ]

-- ---- by the index

module _ (items : List Item) (number : ℕ) (tables : Tables) (sound : IsSoundWarehouse items number tables)
    (entries : List (Entry CustomerKey)) (last : AreLastOrders tables.orders entries) (customer : Customer)
    (home : customer.warehouse ≡ number) where
  abbrev key : CustomerKey
  key = record { district = customer.district; customer = customer.id }

  by-key : (row : Order) → is_order_by customer row ≡ true → buyer_key_at row ≡ key
  by-key row is =
      let same = tells-three row.warehouse row.district row.customer customer.warehouse customer.district customer.id is in
      ap₂ (λ (d : ℕ) (c : ℕ). record { district = d; customer = c }) same.1 same.2

  pub last-none : found is_lesser_customer key entries ≡ None → last_order (orders_by customer tables.orders) ≡ None
  last-none none =
      ap last_order (filter-none (is_order_by customer) tables.orders
      (all-in (λ row. is_order_by customer row ≡ false) tables.orders (λ row there.
      fails (is_order_by customer) row (λ is.
      let at = place-in tables.orders row there in
      let entry = last.all at.0 row at.1 in
      found-none is_lesser_customer order-of_customers key entries none
      (record { key = buyer_key_at row; slot = entry.0 }) entry.1 (by-key row is)))))

  pub last-there : (place : ℕ) → found is_lesser_customer key entries ≡ Some place
      → (row : Order) × (slice_get tables.orders place ≡ Some row) × (buyer_key_at row ≡ key)
      × ((other : ℕ) (another : Order) → slice_get tables.orders other ≡ Some another → buyer_key_at another ≡ key
      → another.id ≤ row.id)
  last-there place is =
      last.there (record { key = key; slot = place })
      (found-in is_lesser_customer order-of_customers key entries place is)

  module _ (place : ℕ) (order : Order) (is : found is_lesser_customer key entries ≡ Some place)
      (here : slice_get tables.orders place ≡ Some order) where
    own : IsOwnOrder number tables.customers order
    own = all-at (IsOwnOrder number tables.customers) tables.orders place order sound.orders.orders here

    pub last-home : order.warehouse ≡ number
    last-home = own.warehouse

    pub last-district : order.district ≤ 10
    last-district = let between = own.district in grind (arith, nat_tests, between)

    is-last : (last-there place is).0 ≡ order
    is-last = some-is ((last-there place is).0) order (sym ((last-there place is).1) ∙ here)

    last-key : buyer_key_at order ≡ key
    last-key = ap buyer_key_at (sym is-last) ∙ (last-there place is).2

    only-last : (row : Order) → IsIn row (orders_by customer tables.orders) → row.id ≡ order.id → row ≡ order
    only-last row there ids =
        let kept = filter-in (is_order_by customer) row tables.orders there in
        let at = place-in tables.orders row kept.0 in
        let same = tells-three row.warehouse row.district row.customer customer.warehouse customer.district customer.id kept.1 in
        let warehouses : order.warehouse ≡ row.warehouse = last-home ∙ sym home ∙ sym same.0 in
        let districts : order.district ≡ row.district = ap (λ (k : CustomerKey). k.district) last-key ∙ sym same.1 in
        let keys : order_key order ≡ order_key row =
        ap₂ (λ (w : ℕ) (d : ℕ). (w, d, order.id)) warehouses districts
        ∙ ap (λ (i : ℕ). (row.warehouse, row.district, i)) (sym ids) in
        let places : at.0 ≡ place =
        unique-places order_key tables.orders sound.orders.unique_orders place at.0 order row here at.1 keys in
        some-is row order (sym at.1 ∙ ap (slice_get tables.orders) places ∙ here)

    pub last-found : last_order (orders_by customer tables.orders) ≡ Some order
    last-found =
        comes order (orders_by customer tables.orders) None tt
        (in-filter (is_order_by customer) order tables.orders (in-place tables.orders place order here)
        (passes-three order.warehouse order.district order.customer customer.warehouse customer.district customer.id
        (last-home ∙ sym home) (ap (λ (k : CustomerKey). k.district) last-key)
        (ap (λ (k : CustomerKey). k.customer) last-key)))
        (λ row there.
        let kept = filter-in (is_order_by customer) row tables.orders there in
        let at = place-in tables.orders row kept.0 in
        subst (λ (o : Order). row.id ≤ o.id) is-last ((last-there place is).3 at.0 row at.1 (by-key row kept.1)))
        only-last
