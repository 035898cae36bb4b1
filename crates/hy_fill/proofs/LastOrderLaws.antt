-- The last order of each customer, found by one order after another.
use Rattle.std.proofs.Common.{◌≡◌, ℕ, ◌<◌, ◌≤◌, ◌⊎◌, inl, inr, true, false, cond, List, [], ◌∷◌, ◌++◌, length, Some, None, refl, sym, ap, subst, ◌∙◌, arith}
use Rattle.std.specs.Prelude.{nat_lt, slice_get}
use Rattle.std.proofs.lemmas.Bool.{ltb-false, ltb-true}
use Rattle.std.proofs.lemmas.Option.{slice_get_within}
use Rattle.hy_rows.specs.declared.order.Order.{Order}
use Rattle.hy_indexes.specs.of_index.declared.key.Entry.{Entry}
use Rattle.hy_indexes.specs.of_index.Index.{found, with_entry}
use Rattle.hy_indexes.specs.of_store.declared.keys.CustomerKey.{CustomerKey}
use Rattle.hy_indexes.specs.of_store.Keys.{is_lesser_customer}
use Rattle.hy_layout.specs.Finds.{IsIn}
use Rattle.hy_indexes.specs.Finds.{IsIndexOf}
use Rattle.hy_indexes.specs.Indexes.{AreLastOrders, buyer_key_at}
use Rattle.hy_fill.specs.inside.LastOrders.{AreLastOf, is_later, number_at, number_of, with_order}
use Rattle.hy_fill.proofs.EntryLaws.{same-or-not}
use Rattle.hy_indexes.proofs.IndexLaws.{found-in, found-none, in-with_entry, new-in, with_entry-in}
use Rattle.hy_indexes.proofs.KeyOrders.{order-of_customers}
use Rattle.hy_layout.proofs.MemberLaws.{in-append, in-left, in-right}

module _ (orders : List Order) where
  -- ---- places of orders

  pub slot-within : (entries : List (Entry CustomerKey)) → IsIndexOf buyer_key_at (slice_get orders) entries
      → (entry : Entry CustomerKey) → IsIn entry entries → entry.slot < length orders
  slot-within entries index entry there =
      let row = index.there entry there in slice_get_within orders entry.slot row.0 row.1

  pub found-within : (all given now : List (Entry CustomerKey)) → IsIndexOf buyer_key_at (slice_get orders) all
      → ((entry : Entry CustomerKey) → IsIn entry given → IsIn entry all) → AreLastOf orders given now
      → (key : CustomerKey) (slot : ℕ) → found is_lesser_customer key now ≡ Some slot → slot < length orders
  found-within all given now index within last key slot is =
      slot-within all index (record { key = key; slot = slot }) (within (record { key = key; slot = slot })
      (last.there (record { key = key; slot = slot }) (found-in is_lesser_customer order-of_customers key now slot is)).0)

  -- ---- an order more

  given-more : (given : List (Entry CustomerKey)) (entry other : Entry CustomerKey) → IsIn other (given ++ entry ∷ [])
      → IsIn other given ⊎ (entry ≡ other)
  given-more given entry other there = elim (in-append other given (entry ∷ []) there) [
    | inl old ↦ inl old
    | inr new ↦ elim new [
      | inl is ↦ inr is
      | inr none ↦ absurd none
    ]
  ]

  -- the customer has one with a greater number
  last-stays : (given now : List (Entry CustomerKey)) (entry : Entry CustomerKey) (slot : ℕ) → AreLastOf orders given now
      → found is_lesser_customer entry.key now ≡ Some slot → number_at orders entry.slot ≤ number_at orders slot
      → AreLastOf orders (given ++ entry ∷ []) now
  last-stays given now entry slot last is less = record {
    there = λ had there.
        let was = last.there had there in (
          in-left had given (entry ∷ []) was.0,
          λ other also keys. elim (given-more given entry other also) [
            | inl old ↦ was.1 other old keys
            | inr new ↦
                let at = found-in is_lesser_customer order-of_customers entry.key now slot is in
                let one = last.there (record { key = entry.key; slot = slot }) at in
                let key : entry.key ≡ had.key = ap (λ (e : Entry CustomerKey). e.key) new ∙ keys in
                let bound = was.1 (record { key = entry.key; slot = slot }) one.0 key in
                subst (λ (e : Entry CustomerKey). number_at orders e.slot ≤ number_at orders had.slot) new
                (omega (arith, less, bound))
          ],
        );
    all = λ other also. elim (given-more given entry other also) [
      | inl old ↦ last.all other old
      | inr new ↦ (
        slot,
        subst (λ (e : Entry CustomerKey). IsIn (record { key = e.key; slot = slot }) now) new
            (found-in is_lesser_customer order-of_customers entry.key now slot is),
      )
    ];
  }

  -- no order of the customer has a greater number
  last-new : (given now : List (Entry CustomerKey)) (entry : Entry CustomerKey) → AreLastOf orders given now
      → ((other : Entry CustomerKey) → IsIn other given → other.key ≡ entry.key
      → number_at orders other.slot ≤ number_at orders entry.slot)
      → AreLastOf orders (given ++ entry ∷ []) (with_entry is_lesser_customer entry.key entry.slot now)
  last-new given now entry last greatest = record {
    there = λ had there.
        elim (with_entry-in is_lesser_customer order-of_customers entry.key entry.slot now had there) [
          | inl same ↦ (
            in-right had given (entry ∷ []) (inl (sym same)),
            λ other also keys.
                elim (given-more given entry other also) [
                  | inl old ↦ subst (λ (e : Entry CustomerKey). number_at orders other.slot ≤ number_at orders e.slot)
                      (sym same) (greatest other old (keys ∙ ap (λ (e : Entry CustomerKey). e.key) same))
                  | inr new ↦
                      let slots : number_at orders other.slot ≡ number_at orders had.slot =
                      ap (λ (e : Entry CustomerKey). number_at orders e.slot) (sym new ∙ sym same) in
                      omega (arith, slots)
                ],
          )
          | inr kept ↦
              let was = last.there had kept.0 in (
                in-left had given (entry ∷ []) was.0,
                λ other also keys. elim (given-more given entry other also) [
                  | inl old ↦ was.1 other old keys
                  | inr new ↦ absurd (kept.1 (sym keys ∙ ap (λ (e : Entry CustomerKey). e.key) (sym new)))
                ],
              )
        ];
    all = λ other also. elim (given-more given entry other also) [
      | inl old ↦
          let was = last.all other old in
          elim (same-or-not is_lesser_customer order-of_customers other.key entry.key) [
            | inl keys ↦ (
              entry.slot,
              subst (λ (k : CustomerKey). IsIn (record { key = k; slot = entry.slot })
                  (with_entry is_lesser_customer entry.key entry.slot now)) (sym keys)
                  (new-in is_lesser_customer order-of_customers entry.key entry.slot now),
            )
            | inr differ ↦ (
              was.0,
              in-with_entry is_lesser_customer order-of_customers entry.key entry.slot now
                  (record { key = other.key; slot = was.0 }) was.1 differ,
            )
          ]
      | inr new ↦ (
        entry.slot,
        subst (λ (e : Entry CustomerKey). IsIn (record { key = e.key; slot = entry.slot })
            (with_entry is_lesser_customer entry.key entry.slot now)) new
            (new-in is_lesser_customer order-of_customers entry.key entry.slot now),
      )
    ];
  }

  pub last-given : (given now : List (Entry CustomerKey)) (entry : Entry CustomerKey) → AreLastOf orders given now
      → AreLastOf orders (given ++ entry ∷ []) (with_order orders entry now)
  last-given given now entry last =
      elim (found is_lesser_customer entry.key now)
      as (λ o. found is_lesser_customer entry.key now ≡ o → AreLastOf orders (given ++ entry ∷ [])
      (cond (is_later orders entry o) now (with_entry is_lesser_customer entry.key entry.slot now))) [
        | None ↦ λ is. last-new given now entry last (λ other there keys.
            let had = last.all other there in
            absurd (found-none is_lesser_customer order-of_customers entry.key now is
            (record { key = other.key; slot = had.0 }) had.1 keys))
        | Some slot ↦ λ is.
            elim (nat_lt (number_at orders entry.slot) (number_at orders slot))
            as (λ b. nat_lt (number_at orders entry.slot) (number_at orders slot) ≡ b → AreLastOf orders (given ++ entry ∷ [])
            (cond b now (with_entry is_lesser_customer entry.key entry.slot now))) [
              | true ↦ λ later. last-stays given now entry slot last is
                  (let less = ltb-true (number_at orders entry.slot) (number_at orders slot) later in omega (arith, less))
              | false ↦ λ earlier. last-new given now entry last (λ other there keys.
                  let one = last.there (record { key = entry.key; slot = slot })
                  (found-in is_lesser_customer order-of_customers entry.key now slot is) in
                  let bound = one.1 other there keys in
                  let most = ltb-false (number_at orders entry.slot) (number_at orders slot) earlier in
                  omega (arith, bound, most))
            ] refl
      ] refl

  -- ---- all orders

  number-is : (place : ℕ) (row : Order) → slice_get orders place ≡ Some row → number_at orders place ≡ row.id
  number-is place row here = ap number_of here

  pub last-all : (given now : List (Entry CustomerKey)) → IsIndexOf buyer_key_at (slice_get orders) given
      → AreLastOf orders given now → AreLastOrders orders now
  last-all given now index last = record {
    there = λ entry there.
        let was = last.there entry there in
        let row = index.there entry was.0 in (
          row.0,
          row.1,
          row.2,
          λ place other here key.
              let bound = was.1 (record { key = buyer_key_at other; slot = place }) (index.all place other here) key in
              let one = number-is place other here in
              let two = number-is entry.slot row.0 row.1 in
              omega (arith, bound, one, two),
        );
    all = λ place row here. last.all (record { key = buyer_key_at row; slot = place }) (index.all place row here);
  }
