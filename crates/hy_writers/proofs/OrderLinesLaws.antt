-- The lines of an order are those that its entries name, in the order of their numbers.
use Rattle.std.proofs.Common.{◌≡◌, ◌≢◌, ℕ, ◌+◌, ◌<◌, ◌&&◌, inl, inr, true, false, cond, List, [], ◌∷◌, ◌++◌, map, filter, Some, refl, sym, ap, ap₂, subst, ◌∙◌, arith}
use Rattle.std.specs.Prelude.{nat_lt, slice_get, All, option_to_list}
use Rattle.std.specs.Cmp.{both_ways}
use Rattle.std.proofs.lemmas.Bool.{cases_eq, cases_lt}
use Rattle.std.proofs.lemmas.Bool.Decides.{nat_tests}
use Rattle.hy_rows.specs.declared.order.Order.{Order}
use Rattle.hy_rows.specs.declared.order_line.OrderLine.{OrderLine}
use Rattle.hy_schema.specs.Keys.{AreUnique}
use Rattle.hy_schema.specs.Related.{is_line_of, lines_of}
use Rattle.hy_indexes.specs.of_index.declared.key.Entry.{Entry}
use Rattle.hy_indexes.specs.of_index.Index.{IsInOrder, between, is_below, is_from}
use Rattle.hy_commands.specs.Invariant.{line_key}
use Rattle.hy_commands.specs.OrderStatus.{is_lesser_line}
use Rattle.hy_commands.specs.Sorting.{sorted}
use Rattle.hy_commands.proofs.ListLaws.{unique-head, unique-tail}
use Rattle.hy_commands.proofs.OnceLaws.{passes-three, tells-three}
use Rattle.hy_indexes.specs.of_store.declared.keys.LineKey.{LineKey}
use Rattle.hy_indexes.specs.of_store.Keys.{is_lesser_line as is_lesser_key}
use Rattle.hy_layout.specs.Finds.{IsIn}
use Rattle.hy_indexes.specs.Finds.{IsIndexOf}
use Rattle.hy_indexes.specs.Indexes.{line_key_at}
use Rattle.hy_indexes.proofs.IndexLaws.{between-in, in-between}
use Rattle.hy_indexes.proofs.KeyOrders.{order-of_lines}
use Rattle.hy_layout.proofs.MemberLaws.{filter-in, in-filter, in-place, place-in}
use Rattle.hy_writers.specs.Deliveries.{is_listed, lines_at}
use Rattle.hy_writers.proofs.LexLaws.{between-line, line-between, line-number}
use Rattle.hy_writers.proofs.LineLaws.{at-line, in-listed, line-at, listed-in}
use Rattle.hy_layout.proofs.SortedLaws.{AreApart, IsRising, rising-filter, rising-pairs, sorted-is}
use Rattle.hy_writers.proofs.WaitingLaws.{in-all, in-map, map-in}

some-is : {Row : Type 0} (one other : Row) → Some one ≡ Some other → one ≡ other
some-is one other same = cc

-- the keys from which the lines of an order are, and below which
abbrev pub first_line : Order → LineKey
first_line order = record { order = order.id; district = order.district; number = 0 }

abbrev pub behind_lines : Order → LineKey
behind_lines order = record { order = order.id; district = order.district + 1; number = 0 }

abbrev pub line_places : Order → List (Entry LineKey) → List ℕ
line_places order entries =
    map (λ (entry : Entry LineKey). entry.slot) (between is_lesser_key (first_line order) (behind_lines order) entries)

one_way : (one other : OrderLine) → is_lesser_line one other ≡ true → is_lesser_line other one ≡ false
one_way one other less = grind (arith, nat_tests, less)

along : (one other third : OrderLine) → is_lesser_line one other ≡ true → is_lesser_line other third ≡ true
    → is_lesser_line one third ≡ true
along one other third less next = grind (arith, nat_tests, less, next)

module _ (number : ℕ) (order : Order) (rows : List OrderLine) (entries : List (Entry LineKey))
    (own : All (λ row. row.warehouse ≡ number) rows) (home : order.warehouse ≡ number)
    (in_order : IsInOrder is_lesser_key entries) (index : IsIndexOf line_key_at (slice_get rows) entries) where
  abbrev own_entries : List (Entry LineKey)
  own_entries = between is_lesser_key (first_line order) (behind_lines order) entries

  -- a line of the order has an entry among them, and such an entry has a line of the order
  passes : (place : ℕ) (row : OrderLine) → slice_get rows place ≡ Some row → row.order ≡ order.id
      → row.district ≡ order.district → is_line_of order row ≡ true
  passes place row here orders districts =
      passes-three row.warehouse row.district row.order order.warehouse order.district order.id
      (in-all (λ (r : OrderLine). r.warehouse ≡ number) rows row own (in-place rows place row here) ∙ sym home) districts orders

  listed : (place : ℕ) (row : OrderLine) → slice_get rows place ≡ Some row → is_line_of order row ≡ true
      → IsIn (record { key = line_key_at row; slot = place }) own_entries
  listed place row here is =
      let same = tells-three row.warehouse row.district row.order order.warehouse order.district order.id is in
      let ends = between-line order.id order.district (line_key_at row) same.2 same.1 in
      in-between is_lesser_key order-of_lines (first_line order) (behind_lines order) entries
      (record { key = line_key_at row; slot = place }) (index.all place row here) ends.0 ends.1

  named : (entry : Entry LineKey) → IsIn entry own_entries
      → (row : OrderLine) × (slice_get rows entry.slot ≡ Some row) × (line_key_at row ≡ entry.key)
      × (row.order ≡ order.id) × (row.district ≡ order.district)
  named entry there =
      let ends = between-in is_lesser_key order-of_lines (first_line order) (behind_lines order) entries entry there in
      let row = index.there entry ends.0 in
      let same = line-between order.id order.district entry.key ends.1 ends.2 in
      (row.0, row.1, row.2, ap (λ (k : LineKey). k.order) row.2 ∙ same.0, ap (λ (k : LineKey). k.district) row.2 ∙ same.1)

  pub listed-lines : (place : ℕ) (row : OrderLine) → slice_get rows place ≡ Some row
      → is_line_of order row ≡ is_listed place (line_places order entries)
  listed-lines place row here = both_ways (is_line_of order row) (is_listed place (line_places order entries))
      (λ is. in-listed place (line_places order entries)
      (in-map (λ (entry : Entry LineKey). entry.slot) own_entries (record { key = line_key_at row; slot = place })
      (listed place row here is)))
      (λ is.
      let found = map-in (λ (entry : Entry LineKey). entry.slot) own_entries place
      (listed-in place (line_places order entries) is) in
      let line = named found.0 found.1 in
      let same : line.0 ≡ row = some-is line.0 row (sym line.1 ∙ ap (slice_get rows) found.2 ∙ here) in
      passes place row here (ap (λ (r : OrderLine). r.order) (sym same) ∙ line.3)
      (ap (λ (r : OrderLine). r.district) (sym same) ∙ line.4))

  -- ---- in the order of their numbers

  rising-lines : (some : List (Entry LineKey)) → IsRising (λ (one : Entry LineKey) (other : Entry LineKey). is_lesser_key one.key other.key) some
      → ((entry : Entry LineKey) → IsIn entry some → IsIn entry own_entries)
      → IsRising is_lesser_line (lines_at rows (map (λ (entry : Entry LineKey). entry.slot) some))
  rising-lines [] rising within = tt
  rising-lines (entry ∷ some) rising within =
      let line = named entry (within entry (inl refl)) in
      let rest = rising-lines some rising.1 (λ other there. within other (inr there)) in
      subst (λ found. IsRising is_lesser_line (option_to_list found ++ lines_at rows (map (λ (entry : Entry LineKey). entry.slot) some)))
      (sym line.1) (
        λ row there.
            let at = line-at rows (map (λ (entry : Entry LineKey). entry.slot) some) row there in
            let found = map-in (λ (entry : Entry LineKey). entry.slot) some at.0 at.1 in
            let other = named found.0 (within found.0 (inr found.1)) in
            let same : other.0 ≡ row = some-is other.0 row (sym other.1 ∙ ap (slice_get rows) found.2 ∙ at.2) in
            let less : is_lesser_key entry.key (found.0).key ≡ true = rising.0 found.0 found.1 in
            let keys : is_lesser_key (line_key_at line.0) (line_key_at other.0) ≡ true =
            ap₂ (λ (a : LineKey) (b : LineKey). is_lesser_key a b) line.2 other.2 ∙ less in
            let numbers : (line.0).number < (other.0).number =
            line-number (line_key_at line.0) (line_key_at other.0) (line.3 ∙ sym other.3) (line.4 ∙ sym other.4) keys in
            subst (λ (r : OrderLine). nat_lt (line.0).number r.number ≡ true) same (grind (arith, nat_tests, numbers)),
        rest,
      )

  apart-lines : (some : List OrderLine) → AreUnique (map line_key some)
      → AreApart is_lesser_line (filter (is_line_of order) some)
  apart-lines [] unique = tt
  apart-lines (first ∷ some) unique =
      let rest = apart-lines some (unique-tail (line_key first) (map line_key some) unique) in
      elim (is_line_of order first) as (λ b. is_line_of order first ≡ b
      → AreApart is_lesser_line (cond b (first ∷ filter (is_line_of order) some) (filter (is_line_of order) some))) [
        | true ↦ λ is. (
          λ row there.
              let kept = filter-in (is_line_of order) row some there in
              let one = tells-three first.warehouse first.district first.order order.warehouse order.district order.id is in
              let other = tells-three row.warehouse row.district row.order order.warehouse order.district order.id kept.1 in
              let differs : line_key first ≢ line_key row =
              in-all (λ key. line_key first ≢ key) (map line_key some) (line_key row)
              (unique-head (line_key first) (map line_key some) unique) (in-map line_key some row kept.0) in
              elim (cases_lt first.number row.number) [
                | inl less ↦ inl (grind (arith, nat_tests, less))
                | inr from ↦ elim (cases_eq first.number row.number) [
                  | inl same ↦ absurd (differs (rw (one.0, one.1, one.2, other.0, other.1, other.2, same) refl))
                  | inr away ↦ inr (grind (arith, nat_tests, from, away))
                ]
              ],
          rest,
        )
        | false ↦ λ is. rest
      ] refl

  pub lines-sorted : AreUnique (map line_key rows)
      → sorted is_lesser_line (lines_of order rows) ≡ lines_at rows (line_places order entries)
  lines-sorted unique =
      sorted-is is_lesser_line one_way along (lines_of order rows) (lines_at rows (line_places order entries))
      (apart-lines rows unique)
      (rising-lines own_entries
      (rising-filter (λ (one : Entry LineKey) (other : Entry LineKey). is_lesser_key one.key other.key)
      (λ entry. is_from is_lesser_key (first_line order) entry && is_below is_lesser_key (behind_lines order) entry) entries
      (rising-pairs (λ (one : Entry LineKey) (other : Entry LineKey). is_lesser_key one.key other.key) entries in_order))
      (λ entry there. there))
      (λ row there.
      let kept = filter-in (is_line_of order) row rows there in
      let at = place-in rows row kept.0 in
      at-line rows (line_places order entries) at.0 row
      (in-map (λ (entry : Entry LineKey). entry.slot) own_entries (record { key = line_key_at row; slot = at.0 })
      (listed at.0 row at.1 kept.1)) at.1)
      (λ row there.
      let at = line-at rows (line_places order entries) row there in
      let found = map-in (λ (entry : Entry LineKey). entry.slot) own_entries at.0 at.1 in
      let line = named found.0 found.1 in
      let same : line.0 ≡ row = some-is line.0 row (sym line.1 ∙ ap (slice_get rows) found.2 ∙ at.2) in
      in-filter (is_line_of order) row rows (in-place rows at.0 row at.2)
      (passes at.0 row at.2 (ap (λ (r : OrderLine). r.order) (sym same) ∙ line.3)
      (ap (λ (r : OrderLine). r.district) (sym same) ∙ line.4)))
