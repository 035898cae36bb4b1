-- The oldest undelivered order of a district, by the index of undelivered orders.
use Rattle.std.proofs.Common.{◌≡◌, ◌≢◌, ℕ, zero, suc, ◌<◌, ◌≤◌, ◌==◌, ◌&&◌, inl, inr, Bool, true, false, cond, not, List, [], ◌∷◌, length, map, filter, Option, Some, None, refl, sym, ap, subst, ◌∙◌, arith}
use Rattle.std.specs.Prelude.{slice_set, All}
use Rattle.std.proofs.lemmas.Bool.{cases_eq, eq-eqb, eqb-true}
use Rattle.std.proofs.lemmas.List.Elements.{All-cons, All-head, All-nil, All-tail}
use Rattle.hy_rows.specs.declared.new_order.NewOrder.{NewOrder}
use Rattle.hy_rows.specs.Spelling.{live_rows}
use Rattle.hy_schema.specs.Conditions.{least}
use Rattle.hy_schema.specs.Related.{new_orders_of}
use Rattle.hy_relation.specs.Relation.{row_in}
use Rattle.hy_indexes.specs.of_index.declared.key.Entry.{Entry}
use Rattle.hy_indexes.specs.of_index.Index.{IsInOrder, first_from}
use Rattle.hy_commands.proofs.NumberLaws.{least-above, least-each}
use Rattle.hy_commands.proofs.OnceLaws.{tells-two}
use Rattle.hy_indexes.specs.of_store.declared.keys.WaitingKey.{WaitingKey}
use Rattle.hy_indexes.specs.of_store.Keys.{is_lesser_waiting}
use Rattle.hy_layout.specs.Finds.{IsIn}
use Rattle.hy_indexes.specs.Finds.{IsIndexOf}
use Rattle.hy_indexes.specs.Indexes.{waiting_key_at}
use Rattle.hy_indexes.proofs.IndexLaws.{first_from-none, first_from-some}
use Rattle.hy_indexes.proofs.KeyOrders.{order-of_waiting}
use Rattle.hy_writers.proofs.LexLaws.{from-waiting, waiting-behind, waiting-from}
use Rattle.hy_layout.proofs.MemberLaws.{filter-in, in-filter}

-- ---- lists

pub all-in : {Item : Type 0} (P : Item → Type 0) (items : List Item) → ((item : Item) → IsIn item items → P item)
    → All P items
all-in P [] each = All-nil P
all-in P (item ∷ items) each = All-cons P item items (each item (inl refl)) (all-in P items (λ other there. each other (inr there)))

pub in-all : {Item : Type 0} (P : Item → Type 0) (items : List Item) (item : Item) → All P items → IsIn item items
    → P item
in-all P [] item all there = absurd there
in-all P (first ∷ items) item all there = elim there [
  | inl same ↦ subst P same (All-head P first items all)
  | inr behind ↦ in-all P items item (All-tail P first items all) behind
]

pub in-map : {Item Value : Type 0} (value : Item → Value) (items : List Item) (item : Item) → IsIn item items
    → IsIn (value item) (map value items)
in-map value [] item there = there
in-map value (first ∷ items) item there = elim there [
  | inl same ↦ inl (ap value same)
  | inr behind ↦ inr (in-map value items item behind)
]

pub map-in : {Item Value : Type 0} (value : Item → Value) (items : List Item) (found : Value)
    → IsIn found (map value items) → (item : Item) × IsIn item items × (value item ≡ found)
map-in value [] found there = absurd there
map-in {Item = Item} value (first ∷ items) found there = elim there [
  | inl same ↦ (first, inl refl, same)
  | inr behind ↦
      let rest = map-in value items found behind in
      (rest.0, inr rest.1, rest.2)
]

-- ---- rows of slots

pub live-in : {Row : Type 0} (slots : List (Option Row)) (slot : ℕ) (row : Row) → row_in slots slot ≡ Some row
    → IsIn row (live_rows slots)
live-in [] slot row here = absurd (cc)
live-in (Some first ∷ slots) zero row here = inl (cc)
live-in (None ∷ slots) zero row here = absurd (cc)
live-in (Some first ∷ slots) (suc slot) row here = inr (live-in slots slot row here)
live-in (None ∷ slots) (suc slot) row here = live-in slots slot row here

pub in-live : {Row : Type 0} (slots : List (Option Row)) (row : Row) → IsIn row (live_rows slots)
    → (slot : ℕ) × (row_in slots slot ≡ Some row)
in-live [] row there = absurd there
in-live (Some first ∷ slots) row there = elim there [
  | inl same ↦ (0, ap Some same)
  | inr behind ↦
      let rest = in-live slots row behind in
      (suc rest.0, rest.1)
]
in-live (None ∷ slots) row there =
    let rest = in-live slots row there in
    (suc rest.0, rest.1)

-- the row of one slot, which alone passes a test, is taken out
pub live-erased : {Row : Type 0} (test : Row → Bool) (slots : List (Option Row)) (slot : ℕ) (row : Row)
    → row_in slots slot ≡ Some row → test row ≡ true
    → ((other : ℕ) (another : Row) → row_in slots other ≡ Some another → test another ≡ true → other ≡ slot)
    → live_rows (slice_set slots slot None) ≡ filter (λ row. not (test row)) (live_rows slots)
live-erased test [] slot row here passes only = absurd (cc)
live-erased test (Some first ∷ slots) zero row here passes only =
    let same : first ≡ row = cc in
    let first_passes : test first ≡ true = subst (λ x. test x ≡ true) (sym same) passes in
    sym (ap (λ b. cond (not b) (first ∷ filter (λ row. not (test row)) (live_rows slots))
    (filter (λ row. not (test row)) (live_rows slots))) first_passes
    ∙ all-kept test slots (λ other another there also.
    let same : suc other ≡ zero = only (suc other) another there also in absurd (omega (arith, same))))
  where
    all-kept : {Row : Type 0} (test : Row → Bool) (slots : List (Option Row))
        → ((other : ℕ) (another : Row) → row_in slots other ≡ Some another → test another ≡ true → ⊥)
        → filter (λ row. not (test row)) (live_rows slots) ≡ live_rows slots
    all-kept test [] none = refl
    all-kept test (None ∷ slots) none = all-kept test slots (λ other another there. none (suc other) another there)
    all-kept {Row = Row} test (Some first ∷ slots) none =
        elim (test first) as (λ b. test first ≡ b
        → cond (not b) (first ∷ filter (λ row. not (test row)) (live_rows slots))
        (filter (λ row. not (test row)) (live_rows slots)) ≡ first ∷ live_rows slots) [
          | true ↦ λ passes. absurd (none 0 first refl passes)
          | false ↦ λ fails. ap (λ rest. first ∷ rest) (all-kept test slots (λ other another there. none (suc other) another there))
        ] refl
live-erased test (None ∷ slots) zero row here passes only = absurd (cc)
live-erased {Row = Row} test (Some first ∷ slots) (suc slot) row here passes only =
    elim (test first) as (λ b. test first ≡ b → first ∷ live_rows (slice_set slots slot None)
    ≡ cond (not b) (first ∷ filter (λ row. not (test row)) (live_rows slots))
    (filter (λ row. not (test row)) (live_rows slots))) [
      | true ↦ λ also. absurd (let same : zero ≡ suc slot = only 0 first refl also in omega (arith, same))
      | false ↦ λ fails. ap (λ rest. first ∷ rest) (live-erased test slots slot row here passes
          (λ other another there also.
          let same : suc other ≡ suc slot = only (suc other) another there also in omega (arith, same)))
    ] refl
live-erased test (None ∷ slots) (suc slot) row here passes only =
    live-erased test slots slot row here passes
    (λ other another there also.
    let same : suc other ≡ suc slot = only (suc other) another there also in omega (arith, same))

and-false : (b : Bool) → (b && false) ≡ false
and-false true = refl
and-false false = refl

pub not-eqb : (a b : ℕ) → a ≢ b → (a == b) ≡ false
not-eqb a b differs = elim (a == b) as (λ t. (a == b) ≡ t → t ≡ false) [
  | true ↦ λ same. absurd (differs (eqb-true a b same))
  | false ↦ λ no. refl
] refl

-- ---- the oldest one

module _ (number district : ℕ) (slots : List (Option NewOrder)) (entries : List (Entry WaitingKey))
    (own : All (λ row. row.warehouse ≡ number) (live_rows slots))
    (in_order : IsInOrder is_lesser_waiting entries) (index : IsIndexOf waiting_key_at (row_in slots) entries) where
  abbrev first_key : WaitingKey
  first_key = record { district = district; order = 0 }

  abbrev oldest_of : ℕ
  oldest_of = least (map (λ (row : NewOrder). row.order) (new_orders_of number district (live_rows slots)))

  is_own : NewOrder → Bool
  is_own row = (row.warehouse == number) && (row.district == district)

  listed : (row : NewOrder) → IsIn row (live_rows slots) → row.district ≡ district
      → (slot : ℕ) × IsIn (record { key = waiting_key_at row; slot = slot }) entries
  listed row there same =
      let at = in-live slots row there in
      (at.0, index.all at.0 row at.1)

  pub oldest-found : (entry : Entry WaitingKey) → first_from is_lesser_waiting first_key entries ≡ Some entry
      → entry.key.district ≡ district
      → (row : NewOrder) × (row_in slots entry.slot ≡ Some row) × (waiting_key_at row ≡ entry.key)
      × (row.warehouse ≡ number) × (oldest_of ≡ entry.key.order)
  oldest-found entry is same =
      let first = first_from-some is_lesser_waiting order-of_waiting first_key entries entry in_order is in
      let row_there = index.there entry first.0 in
      let row : NewOrder = row_there.0 in
      let live = live-in slots entry.slot row row_there.1 in
      let home : row.warehouse ≡ number = in-all (λ (r : NewOrder). r.warehouse ≡ number) (live_rows slots) row own live in
      let orders : row.order ≡ entry.key.order = ap (λ (k : WaitingKey). k.order) row_there.2 in
      let districts : row.district ≡ district = ap (λ (k : WaitingKey). k.district) row_there.2 ∙ same in
      let passes : ((row.warehouse == number) && (row.district == district)) ≡ true =
      rw (eq-eqb row.warehouse number home, eq-eqb row.district district districts) refl in
      let numbers : List ℕ = map (λ (row : NewOrder). row.order) (new_orders_of number district (live_rows slots)) in
      let member : IsIn entry.key.order numbers =
      subst (λ n. IsIn n numbers) orders (in-map (λ (row : NewOrder). row.order)
      (new_orders_of number district (live_rows slots)) row
      (in-filter (λ (r : NewOrder). (r.warehouse == number) && (r.district == district)) row (live_rows slots) live passes)) in
      let low : oldest_of ≤ entry.key.order = in-all (λ n. least numbers ≤ n) numbers entry.key.order (least-each numbers) member in
      let high : entry.key.order ≤ oldest_of = least-above entry.key.order numbers (some-there numbers entry.key.order member)
      (all-in (λ n. entry.key.order ≤ n) numbers (λ n there.
      let found = map-in (λ (row : NewOrder). row.order) (new_orders_of number district (live_rows slots)) n there in
      let kept = filter-in (λ (r : NewOrder). (r.warehouse == number) && (r.district == district)) found.0 (live_rows slots) found.1 in
      let columns = tells-two (found.0).warehouse (found.0).district number district kept.1 in
      let other = listed found.0 kept.0 columns.1 in
      let behind = first.2 (record { key = waiting_key_at found.0; slot = other.0 }) other.1
      (from-waiting district (waiting_key_at found.0) columns.1) in
      elim behind [
        | inl here ↦
            let is : (found.0).order ≡ entry.key.order = ap (λ (e : Entry WaitingKey). e.key.order) here in
            let value = found.2 in omega (arith, is, value)
        | inr less ↦ elim (waiting-behind entry.key (waiting_key_at found.0) less) [
          | inl below ↦ absurd (let at = columns.1 in omega (arith, below, at, same))
          | inr later ↦ let value = found.2 in let l = later.1 in omega (arith, l, value)
        ]
      ])) in
      (row, row_there.1, row_there.2, home, omega (arith, low, high))
    where
      some-there : (numbers : List ℕ) (n : ℕ) → IsIn n numbers → 0 < length numbers
      some-there [] n there = absurd there
      some-there (first ∷ numbers) n there = omega arith

  none-of : ((row : NewOrder) → IsIn row (live_rows slots) → row.district ≡ district → ⊥) → oldest_of ≡ 0
  none-of none = ap (λ rows. least (map (λ (row : NewOrder). row.order) rows)) (empty (live_rows slots) none)
    where
      empty : (rows : List NewOrder) → ((row : NewOrder) → IsIn row rows → row.district ≡ district → ⊥)
          → new_orders_of number district rows ≡ []
      empty [] none = refl
      empty (row ∷ rows) none =
          elim (cases_eq row.district district) [
            | inl same ↦ absurd (none row (inl refl) same)
            | inr differs ↦
                ap (λ b. cond ((row.warehouse == number) && b) (row ∷ new_orders_of number district rows)
                (new_orders_of number district rows)) (not-eqb row.district district differs)
                ∙ ap (λ b. cond b (row ∷ new_orders_of number district rows) (new_orders_of number district rows))
                (and-false (row.warehouse == number))
                ∙ empty rows (λ other there. none other (inr there))
          ]

  pub oldest-none : first_from is_lesser_waiting first_key entries ≡ None → oldest_of ≡ 0
  oldest-none is = none-of (λ row there same.
      let other = listed row there same in
      let below = first_from-none is_lesser_waiting order-of_waiting first_key entries is
      (record { key = waiting_key_at row; slot = other.0 }) other.1 in
      let from = from-waiting district (waiting_key_at row) same in absurd (cc))

  pub oldest-behind : (entry : Entry WaitingKey) → first_from is_lesser_waiting first_key entries ≡ Some entry
      → entry.key.district ≢ district → oldest_of ≡ 0
  oldest-behind entry is differs = none-of (λ row there same.
      let first = first_from-some is_lesser_waiting order-of_waiting first_key entries entry in_order is in
      let other = listed row there same in
      elim (first.2 (record { key = waiting_key_at row; slot = other.0 }) other.1
      (from-waiting district (waiting_key_at row) same)) [
        | inl here ↦ differs (ap (λ (e : Entry WaitingKey). e.key.district) (sym here) ∙ same)
        | inr less ↦
            let at = waiting-from district entry.key first.1 in
            elim (waiting-behind entry.key (waiting_key_at row) less) [
              | inl below ↦ absurd (omega (arith, below, at, same))
              | inr later ↦ differs (later.0 ∙ same)
            ]
      ])
