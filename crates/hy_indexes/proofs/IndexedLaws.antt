-- The indexes of a store after one more order.
use Rattle.std.proofs.Common.{◌≡◌, ◌≢◌, ℕ, zero, suc, ◌<◌, inl, inr, List, [], ◌∷◌, ◌++◌, length, Option, Some, None, refl, sym, ap, subst, ◌∙◌, arith}
use Rattle.std.specs.Prelude.{slice_get}
use Rattle.std.proofs.lemmas.Bool.{cases_eq}
use Rattle.hy_rows.specs.declared.order.Order.{Order}
use Rattle.hy_store.specs.of_relation.Relation.{row_in}
use Rattle.hy_store.specs.Entry.{Entry}
use Rattle.hy_store.specs.Index.{with_entry}
use Rattle.hy_store.specs.declared.keys.CustomerKey.{CustomerKey}
use Rattle.hy_store.specs.Keys.{is_lesser_customer}
use Rattle.hy_layout.specs.Finds.{IsIn}
use Rattle.hy_indexes.specs.Indexes.{AreLastOrders, buyer_key_at}
use Rattle.hy_indexes.proofs.IndexLaws.{in-with_entry, new-in, with_entry-in}
use Rattle.hy_indexes.proofs.KeyOrders.{order-of_customers}
use Rattle.hy_layout.proofs.PlaceLaws.{get-past, get-push_last, get-push_other}

some-is : {Row : Type 0} (one other : Row) → Some one ≡ Some other → one ≡ other
some-is one other same = cc

-- ---- slots

pub slot-push_last : {Row : Type 0} (slots : List (Option Row)) (row : Row)
    → row_in (slots ++ Some row ∷ []) (length slots) ≡ Some row
slot-push_last [] row = refl
slot-push_last (slot ∷ slots) row = slot-push_last slots row

pub slot-push_other : {Row : Type 0} (slots : List (Option Row)) (row : Row) (other : ℕ) → other ≢ length slots
    → row_in (slots ++ Some row ∷ []) other ≡ row_in slots other
slot-push_other [] row zero differs = absurd (differs refl)
slot-push_other [] row (suc other) differs = refl
slot-push_other (slot ∷ slots) row zero differs = refl
slot-push_other (slot ∷ slots) row (suc other) differs =
    slot-push_other slots row other (λ same. differs (ap suc same))

pub slot-past : {Row : Type 0} (slots : List (Option Row)) → row_in slots (length slots) ≡ None
slot-past [] = refl
slot-past (slot ∷ slots) = slot-past slots

-- ---- an order more

pub last_orders-added : (orders : List Order) (entries : List (Entry CustomerKey)) (row : Order)
    → AreLastOrders orders entries
    → ((place : ℕ) (other : Order) → slice_get orders place ≡ Some other → other.district ≡ row.district
    → other.id < row.id)
    → AreLastOrders (orders ++ row ∷ []) (with_entry is_lesser_customer (buyer_key_at row) (length orders) entries)
last_orders-added orders entries row last greatest = record {
  there = λ entry there.
      elim (with_entry-in is_lesser_customer order-of_customers (buyer_key_at row) (length orders) entries entry there) [
        | inl same ↦ (
          row,
          ap (λ (e : Entry CustomerKey). slice_get (orders ++ row ∷ []) e.slot) same ∙ get-push_last orders row,
          ap (λ (e : Entry CustomerKey). e.key) (sym same),
          λ place other here key. elim (cases_eq place (length orders)) [
            | inl at ↦
                let row_is : other ≡ row =
                some-is other row (sym here ∙ ap (slice_get (orders ++ row ∷ [])) at ∙ get-push_last orders row) in
                let ids : other.id ≡ row.id = ap (λ (r : Order). r.id) row_is in
                omega (arith, ids)
            | inr differs ↦
                let keys : buyer_key_at other ≡ buyer_key_at row =
                key ∙ ap (λ (e : Entry CustomerKey). e.key) same in
                let less = greatest place other (sym (get-push_other orders row place differs) ∙ here)
                (ap (λ (k : CustomerKey). k.district) keys) in
                omega (arith, less)
          ],
        )
        | inr kept ↦
            let was = last.there entry kept.0 in
            let differs : entry.slot ≢ length orders =
            λ same. absurd (let h = ap (slice_get orders) same ∙ get-past orders in let w = was.1 in cc) in (
              was.0,
              get-push_other orders row entry.slot differs ∙ was.1,
              was.2,
              λ place other here key. elim (cases_eq place (length orders)) [
                | inl at ↦
                    let row_is : other ≡ row =
                    some-is other row (sym here ∙ ap (slice_get (orders ++ row ∷ [])) at ∙ get-push_last orders row) in
                    absurd (kept.1 (sym key ∙ ap buyer_key_at row_is))
                | inr away ↦ was.3 place other (sym (get-push_other orders row place away) ∙ here) key
              ],
            )
      ];
  all = λ place other here. elim (cases_eq place (length orders)) [
    | inl at ↦
        let row_is : other ≡ row =
        some-is other row (sym here ∙ ap (slice_get (orders ++ row ∷ [])) at ∙ get-push_last orders row) in (
          length orders,
          subst (λ (r : Order). IsIn (record { key = buyer_key_at r; slot = length orders })
              (with_entry is_lesser_customer (buyer_key_at row) (length orders) entries)) (sym row_is)
              (new-in is_lesser_customer order-of_customers (buyer_key_at row) (length orders) entries),
        )
    | inr away ↦
        let was = last.all place other (sym (get-push_other orders row place away) ∙ here) in
        same_or_other other was
  ];
}
  where
    same_or_other : (other : Order) → (slot : ℕ) × IsIn (record { key = buyer_key_at other; slot = slot }) entries
        → (slot : ℕ) × IsIn (record { key = buyer_key_at other; slot = slot })
        (with_entry is_lesser_customer (buyer_key_at row) (length orders) entries)
    same_or_other other was = elim (cases_eq other.district row.district) [
      | inl districts ↦ elim (cases_eq other.customer row.customer) [
        | inl customers ↦
            let keys : buyer_key_at row ≡ buyer_key_at other = rw (districts, customers) refl in (
              length orders,
              subst (λ (k : CustomerKey). IsIn (record { key = k; slot = length orders })
                  (with_entry is_lesser_customer (buyer_key_at row) (length orders) entries)) keys
                  (new-in is_lesser_customer order-of_customers (buyer_key_at row) (length orders) entries),
            )
        | inr differ ↦ (
          was.0,
          in-with_entry is_lesser_customer order-of_customers (buyer_key_at row) (length orders)
              entries (record { key = buyer_key_at other; slot = was.0 }) was.1
              (λ same. differ (ap (λ (k : CustomerKey). k.customer) same)),
        )
      ]
      | inr differ ↦ (
        was.0,
        in-with_entry is_lesser_customer order-of_customers (buyer_key_at row) (length orders)
            entries (record { key = buyer_key_at other; slot = was.0 }) was.1
            (λ same. differ (ap (λ (k : CustomerKey). k.district) same)),
      )
    ]
