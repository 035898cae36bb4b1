-- The rows of a load: the customers of a warehouse stand in order, the stock of item k at place k - 1 of a warehouse's
-- own, and item k at place k - 1.
use Rattle.std.proofs.Common.{◌≡◌, ℕ, zero, suc, ◌+◌, ◌-◌, ◌*◌, ◌/◌, ◌%◌, ◌<◌, ◌≤◌, ◌==◌, inl, inr, Bool, true, false, cond, IfSome, List, [], ◌∷◌, length, filter, map, take, drop, get_or, Option, Some, None, Bor, refl, sym, ap, ap₂, subst, ◌∙◌, arith}
use Rattle.std.specs.Prelude.{⊤, MatchOption, is_some, slice_get}
use Rattle.std.specs.List.{find, list_any}
use Rattle.std.specs.List.Sorted.{IsNonDecreasingBy}
use Rattle.std.proofs.Math.Nat.{div-add-mod, mul-le-mul_left}
use Rattle.std.proofs.lemmas.Bool.{eq-eqb, eqb-true}
use Rattle.std.proofs.lemmas.Bool.Decides.{nat_tests}
use Rattle.std.proofs.lemmas.List.Sorted.{IsNonDecreasingBy-from_all_adjacent}
use Rattle.std.proofs.lemmas.Nat.{div-mul-add, mod-mul-add}
use Rattle.std.proofs.lemmas.Option.{slice_get-get_or}
use Rattle.hy_rows.proofs.BetweenLaws.{bounds}
use Rattle.hy_rows.proofs.RangeLaws.{allowed-at}
use Rattle.hy_rows.specs.Catalogue.{columns_of}
use Rattle.hy_rows.specs.Rows.{customer_values}
use Rattle.hy_rows.specs.declared.catalogue.Table.TheVariants as table
use Rattle.hy_rows.specs.Ranges.{IsBetween}
use Rattle.hy_rows.specs.Rows.{IsCustomerInRange}
use Rattle.hy_rows.specs.Tables.{Lists}
use Rattle.hy_rows.specs.declared.customer.Customer.{Customer}
use Rattle.hy_rows.specs.declared.item.Item.{Item}
use Rattle.hy_rows.specs.declared.stock.Stock.{Stock}
use Rattle.hy_schema.specs.Loads.{IsCustomerAfter, IsCustomerAt, IsItemAt, IsLoad, row_before}
use Rattle.hy_schema.specs.Loads as loads
use Rattle.hy_schema.specs.Related.{is_item}
use Rattle.hy_commands.specs.Invariant.{stock_key}
use Rattle.hy_commands.proofs.ListLaws.{found-any}
use Rattle.hy_layout.specs.Finds.{IsOnly}
use Rattle.hy_layout.specs.Layout.{IsStockAt}
use Rattle.hy_layout.specs.inside.Places.{AreInOrder, IsNext}
use Rattle.hy_layout.proofs.PartLaws.{filter-part, get-part, not-below, row-at}
use Rattle.hy_layout.proofs.PlaceLaws.{find-none, find-only, get-map, map-get}

-- ---- tests of numbers

other-below : (a b : ℕ) → a < b → (a == b) ≡ false
other-below a b less = grind (arith, nat_tests)

other-above : (a b : ℕ) → b < a → (a == b) ≡ false
other-above a b less = grind (arith, nat_tests)

below-other : (a b : ℕ) → a ≤ b → (a == b) ≡ false → a < b
below-other a b most differs = grind (arith, nat_tests)

pub not-passed : (b : Bool) → (b ≡ true → ⊥) → b ≡ false
not-passed b fails = elim b as (λ t. b ≡ t → t ≡ false) [
  | true ↦ λ is. absurd (fails is)
  | false ↦ λ is. refl
] refl

-- quotients of the places before a multiple, behind it, and up to the next one
quotient-below : (place items before : ℕ) → place < before * items → place / items < before
quotient-below place items before below = not-below before (suc (place / items)) (λ no.
    let whole = div-add-mod place items in
    let product : items * before ≤ items * (place / items) = mul-le-mul_left items (omega arith) in
    omega (arith, whole, product, below))

quotient-at : (place items before : ℕ) → before * items ≤ place → place < before * items + items → place / items ≡ before
quotient-at place items before from below =
    let same : place ≡ before * items + (place - before * items) = omega (arith, from) in
    ap (λ n. n / items) same ∙ div-mul-add before items (place - before * items) (omega (arith, from, below))

quotient-above : (place items before : ℕ) → 0 < items → before * items + items ≤ place → before < place / items
quotient-above place items before some from = not-below (place / items) (suc before) (λ no.
    let whole = div-add-mod place items in
    let product : items * (place / items) ≤ items * before = mul-le-mul_left items (omega arith) in
    omega (arith, whole, product, from, some))

-- ---- what holds at a place that is there
at-row : {Row : Type 0} (P : Row → Type 0) (rows : List Row) (place : ℕ) (row : Row) → IfSome (slice_get rows place) P
    → slice_get rows place ≡ Some row → P row
at-row P rows place row holds there = subst (λ o. IfSome o P) there holds

row_before-suc : {Row : Type 0} (rows : List Row) (place : ℕ) → row_before rows (suc place) ≡ slice_get rows place
row_before-suc rows place =
    let some : (suc place == 0) ≡ false = grind (arith, nat_tests) in
    let same : suc place - 1 ≡ place = omega arith in
    rw (some, same) refl

-- ---- warehouses rise along the customers
after-rises : (before row : Customer) → IsCustomerAfter (Some before) row → before.warehouse ≤ row.warehouse
after-rises before row after = elim after [
  | inl same ↦ omega (arith, same.0)
  | inr (inl same, first) ↦ omega (arith, same.0)
  | inr (inr next, first) ↦ omega (arith, next.1)
]

after-at : (warehouses : ℕ) (rows : List Customer)
    → ((place : ℕ) → IfSome (slice_get rows place) (IsCustomerAt warehouses rows place))
    → (place : ℕ) (before row : Customer) → slice_get rows place ≡ Some before → slice_get rows (suc place) ≡ Some row
    → IsCustomerInRange row × IsCustomerAfter (Some before) row
after-at warehouses rows each place before row there next =
    let right = at-row (IsCustomerAt warehouses rows (suc place)) rows (suc place) row (each (suc place)) next in
    (right.0, subst (λ o. IsCustomerAfter o row) (row_before-suc rows place ∙ there) right.2)

pub warehouses-rise : (warehouses : ℕ) (rows : List Customer)
    → ((place : ℕ) → IfSome (slice_get rows place) (IsCustomerAt warehouses rows place))
    → IsNonDecreasingBy (λ row. row.warehouse) rows
warehouses-rise warehouses rows each =
    IsNonDecreasingBy-from_all_adjacent (λ row. row.warehouse) rows (λ k d within.
    let same : suc k ≡ k + 1 = omega arith in
    subst (λ n. (get_or rows k d).warehouse ≤ (get_or rows n d).warehouse) same
    (after-rises (get_or rows k d) (get_or rows (suc k) d)
    (after-at warehouses rows each k (get_or rows k d) (get_or rows (suc k) d)
    (slice_get-get_or rows k d (omega (arith, within))) (slice_get-get_or rows (suc k) d (omega (arith, within)))).1))

-- ---- the customers of one warehouse stand in order

-- each row is the next one behind the row before it
abbrev Follows : Customer → List Customer → Type 0
Follows before [] = ⊤
Follows before (row ∷ rows) = IsCustomerInRange row × IsCustomerAfter (Some before) row × Follows row rows

abbrev OwnFollows : Customer → List Customer → Type 0
OwnFollows before [] = ⊤
OwnFollows before (row ∷ rows) = (row.district ≤ 10) × IsNext before row × OwnFollows row rows

abbrev OwnStarts : List Customer → Type 0
OwnStarts [] = ⊤
OwnStarts (row ∷ rows) = (row.district ≡ 1) × (row.id ≡ 1) × OwnFollows row rows

follows-behind : (before : Customer) (rows : List Customer)
    → ((place : ℕ) (one row : Customer) → slice_get (before ∷ rows) place ≡ Some one
    → slice_get (before ∷ rows) (suc place) ≡ Some row → IsCustomerInRange row × IsCustomerAfter (Some one) row)
    → Follows before rows
follows-behind before [] each = tt
follows-behind before (row ∷ rows) each =
    let here = each 0 before row refl refl in
    (here.0, here.1, follows-behind row rows (λ place. each (suc place)))

module _ (number : ℕ) where
  abbrev own : Customer → Bool
  own row = row.warehouse == number

  past : (before : Customer) (rows : List Customer) → number < before.warehouse → Follows before rows
      → filter own rows ≡ []
  past before [] less follows = refl
  past before (row ∷ rows) less follows =
      let rises = after-rises before row follows.1 in
      ap (λ b. cond b (row ∷ filter own rows) (filter own rows)) (other-above row.warehouse number (omega (arith, less, rises)))
      ∙ past row rows (omega (arith, less, rises)) follows.2

  during : (before : Customer) (rows : List Customer) → before.warehouse ≡ number → Follows before rows
      → OwnFollows before (filter own rows)
  during before [] home follows = tt
  during before (row ∷ rows) home follows =
      let last = (bounds 1 10 row.district (allowed-at (columns_of table.Customer) (customer_values row) follows.0 1)).1 in
      elim follows.1 [
        | inl same ↦
            let at : row.warehouse ≡ number = same.0 ∙ home in
            subst (λ b. OwnFollows before (cond b (row ∷ filter own rows) (filter own rows)))
            (sym (eq-eqb row.warehouse number at))
            (last, inl (same.1, same.2), during row rows at follows.2)
        | inr (inl same, first) ↦
            let at : row.warehouse ≡ number = same.0 ∙ home in
            subst (λ b. OwnFollows before (cond b (row ∷ filter own rows) (filter own rows)))
            (sym (eq-eqb row.warehouse number at))
            (last, inr (same.1, first), during row rows at follows.2)
        | inr (inr next, first) ↦
            let above : number < row.warehouse = omega (arith, next.1, home) in
            subst (OwnFollows before)
            (sym (ap (λ b. cond b (row ∷ filter own rows) (filter own rows)) (other-above row.warehouse number above)
            ∙ past row rows above follows.2)) tt
      ]

  ahead : (before : Customer) (rows : List Customer) → before.warehouse < number → Follows before rows
      → OwnStarts (filter own rows)
  ahead before [] below follows = tt
  ahead before (row ∷ rows) below follows =
      elim (own row) as (λ b. own row ≡ b → OwnStarts (cond b (row ∷ filter own rows) (filter own rows))) [
        | true ↦ λ is.
            let at = eqb-true row.warehouse number is in
            elim follows.1 [
              | inl same ↦ absurd (omega (arith, same.0, at, below))
              | inr (inl same, first) ↦ absurd (omega (arith, same.0, at, below))
              | inr (inr next, first) ↦ (next.2, first, during row rows at follows.2)
            ]
        | false ↦ λ fails.
            let most : row.warehouse ≤ number = elim follows.1 [
              | inl same ↦ omega (arith, same.0, below)
              | inr (inl same, first) ↦ omega (arith, same.0, below)
              | inr (inr next, first) ↦ omega (arith, next.1, below)
            ] in
            ahead row rows (below-other row.warehouse number most fails) follows.2
      ] refl

  own-starts : (warehouses : ℕ) (rows : List Customer) → 1 ≤ number
      → ((place : ℕ) → IfSome (slice_get rows place) (IsCustomerAt warehouses rows place))
      → OwnStarts (filter own rows)
  own-starts warehouses [] from each = tt
  own-starts warehouses (row ∷ rows) from each =
      let here = each 0 in
      let before : Customer = record row { warehouse = 0; district = 10 } in
      ahead before (row ∷ rows) (omega (arith, from))
      (here.0, inr (inr (refl, (here.2).0, (here.2).1), (here.2).2), follows-behind row rows (after-at warehouses (row ∷ rows) each))

own-next : (before : Customer) (rows : List Customer) → OwnFollows before rows → (place : ℕ) (one row : Customer)
    → slice_get (before ∷ rows) place ≡ Some one → slice_get (before ∷ rows) (suc place) ≡ Some row → IsNext one row
own-next before [] follows place one row there next = absurd (cc)
own-next before (first ∷ rows) follows zero one row there next =
    let is_one : before ≡ one = cc in
    let is_row : first ≡ row = cc in
    subst (λ b. IsNext b row) is_one (subst (IsNext before) is_row follows.1)
own-next before (first ∷ rows) follows (suc place) one row there next = own-next first rows follows.2 place one row there next

own-last : (before : Customer) (rows : List Customer) → OwnFollows before rows → (place : ℕ) (row : Customer)
    → slice_get rows place ≡ Some row → row.district ≤ 10
own-last before [] follows place row there = absurd (cc)
own-last before (first ∷ rows) follows zero row there =
    let is_row : first ≡ row = cc in subst (λ (r : Customer). r.district ≤ 10) is_row follows.0
own-last before (first ∷ rows) follows (suc place) row there = own-last first rows follows.2 place row there

in-order : (rows : List Customer) → OwnStarts rows → AreInOrder rows
in-order [] starts = record {
  first = tt;
  next = λ place before row there next. absurd (cc);
  last = λ place row there. absurd (cc);
}
in-order (first ∷ rows) starts = record {
  first = (starts.0, starts.1);
  next = λ place before row there next.
      let same : place + 1 ≡ suc place = omega arith in
      own-next first rows starts.2 place before row there (subst (λ p. slice_get (first ∷ rows) p ≡ Some row) same next);
  last = λ place row there. first-last place row there;
}
  where
    first-last : (place : ℕ) (row : Customer) → slice_get (first ∷ rows) place ≡ Some row → row.district ≤ 10
    first-last zero row there =
        let is_row : first ≡ row = cc in subst (λ (r : Customer). r.district ≤ 10) is_row (omega (arith, starts.0))
    first-last (suc place) row there = own-last first rows starts.2 place row there

pub own-in_order : (number warehouses : ℕ) (rows : List Customer) → 1 ≤ number
    → ((place : ℕ) → IfSome (slice_get rows place) (IsCustomerAt warehouses rows place))
    → AreInOrder (filter (λ row. row.warehouse == number) rows)
own-in_order number warehouses rows from each =
    in-order (filter (λ row. row.warehouse == number) rows) (own-starts number warehouses rows from each)

-- ---- the stock of a warehouse
module _ (number : ℕ) (load : Lists) (is_load : IsLoad load)
    (between : IsBetween 1 (length load.tables.warehouses) number) where
  abbrev items : ℕ
  items = length load.items

  abbrev stock : List Stock
  stock = load.tables.stock

  abbrev low : ℕ
  low = (number - 1) * items

  stock-at : (place : ℕ) (row : Stock) → slice_get stock place ≡ Some row
      → (row.warehouse ≡ place / items + 1) × (row.item ≡ place % items + 1)
  stock-at place row there =
      let right = at-row (loads.IsStockAt (length load.tables.warehouses) items place) stock place row (is_load.stock.each place) there in
      (right.1, right.2)

  some-items : 0 < items
  some-items = is_load.items.whole

  from-one : 1 ≤ number
  from-one = (bounds 1 (length load.tables.warehouses) number between).0

  own-part : filter (λ row. row.warehouse == number) stock ≡ take items (drop low stock)
  own-part = filter-part (λ row. row.warehouse == number) stock low items
      (λ place row there below.
      let at = stock-at place row there in
      let quotient = quotient-below place items (number - 1) below in
      other-below row.warehouse number (omega (arith, at.0, quotient)))
      (λ place row there from below.
      let at = stock-at place row there in
      let quotient = quotient-at place items (number - 1) from below in
      eq-eqb row.warehouse number (omega (arith, at.0, quotient, from-one)))
      (λ place row there from.
      let at = stock-at place row there in
      let quotient = quotient-above place items (number - 1) some-items from in
      other-above row.warehouse number (omega (arith, at.0, quotient, from-one)))

  -- the stock of an item among the warehouse's own
  stock-there : (item : ℕ) → IsBetween 1 items item
      → (row : Stock) × (slice_get (filter (λ row. row.warehouse == number) stock) (item - 1) ≡ Some row)
      × (stock_key row ≡ (number, item))
  stock-there item is_item =
      let ends = bounds 1 items item is_item in
      let last = (bounds 1 (length load.tables.warehouses) number between).1 in
      let within : item - 1 < items = omega (arith, ends.0, ends.1) in
      let place : ℕ = low + (item - 1) in
      let room : items * number ≤ items * length load.tables.warehouses = mul-le-mul_left items last in
      let product : items * number ≡ items * (number - 1 + 1) = ap (λ n. items * n) (omega (arith, from-one)) in
      let found = row-at stock place (omega (arith, room, product, within, is_load.stock.whole)) in
      let at = stock-at place found.0 found.1 in
      let warehouse : (found.0).warehouse ≡ number =
      at.0 ∙ ap (λ n. n + 1) (div-mul-add (number - 1) items (item - 1) within) ∙ omega (arith, from-one) in
      let is : (found.0).item ≡ item =
      at.1 ∙ ap (λ n. n + 1) (mod-mul-add (number - 1) items (item - 1) within) ∙ omega (arith, ends.0) in (
        found.0,
        ap (λ rows. slice_get rows (item - 1)) own-part ∙ get-part stock low items (item - 1) within ∙ found.1,
        ap₂ (λ (w : ℕ) (i : ℕ). (w, i)) warehouse is,
      )

  -- and among rows with the same keys
  pub stock-kept : (rows : List Stock)
      → map stock_key rows ≡ map stock_key (filter (λ row. row.warehouse == number) stock) → (item : ℕ)
      → IsBetween 1 items item → IsStockAt number item rows (item - 1)
  stock-kept rows same item is_item =
      let found = stock-there item is_item in
      let kept = map-get stock_key rows (item - 1) (stock_key found.0)
      (ap (λ keys. slice_get keys (item - 1)) same
      ∙ get-map stock_key (filter (λ row. row.warehouse == number) stock) (item - 1) found.0 found.1) in
      record {
        row = kept.0;
        here = kept.1;
        key = kept.2 ∙ found.2;
      }

-- ---- items

item-only : (items : List Item) → ((place : ℕ) → IfSome (slice_get items place) (IsItemAt place)) → (place : ℕ) (row : Item)
    → slice_get items place ≡ Some row → IsOnly (is_item (place + 1)) items place row
item-only items each place row there = record {
  here = there;
  passes = eq-eqb row.id (place + 1) (at-row (IsItemAt place) items place row (each place) there).1;
  only = λ other another also passes.
      let is = eqb-true another.id (place + 1) passes in
      let at = (at-row (IsItemAt other) items other another (each other) also).1 in
      omega (arith, is, at);
}

pub item-found : (items : List Item) → ((place : ℕ) → IfSome (slice_get items place) (IsItemAt place)) → (number : ℕ)
    (result : Option (Bor Item)) → 1 ≤ number
    → MatchOption result (slice_get items (number - 1) ≡ None) (λ item. slice_get items (number - 1) ≡ Some item.now)
    → MatchOption result (list_any (is_item number) items ≡ false) (λ item. find (is_item number) items ≡ Some item.now)
item-found items each number None from is =
    sym (found-any (is_item number) items)
    ∙ ap is_some (find-none (is_item number) items (λ place row there.
    not-passed (is_item number row) (λ passes.
    let id = (at-row (IsItemAt place) items place row (each place) there).1 in
    let same : number - 1 ≡ place = omega (arith, id, eqb-true row.id number passes) in
    let none : slice_get items place ≡ None = ap (slice_get items) (sym same) ∙ is in
    cc)))
item-found items each number (Some item) from is =
    let same : number - 1 + 1 ≡ number = omega (arith, from) in
    find-only (is_item number) items (number - 1) item.now
    (subst (λ n. IsOnly (is_item n) items (number - 1) item.now) same (item-only items each (number - 1) item.now is))

pub item-none : (items : List Item) → ((place : ℕ) → IfSome (slice_get items place) (IsItemAt place))
    → list_any (is_item 0) items ≡ false
item-none items each =
    sym (found-any (is_item 0) items)
    ∙ ap is_some (find-none (is_item 0) items (λ place row there.
    not-passed (is_item 0 row) (λ passes.
    let id = (at-row (IsItemAt place) items place row (each place) there).1 in
    omega (arith, id, eqb-true row.id 0 passes))))
