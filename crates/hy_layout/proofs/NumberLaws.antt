-- Where customers stand by number.
use Rattle.std.proofs.Common.{◌≡◌, ℕ, zero, suc, ◌+◌, ◌-◌, ◌<◌, ◌≤◌, ◌==◌, ◌&&◌, inl, inr, true, false, IfSome, List, [], ◌∷◌, ◌++◌, below_more, length, map, get_or, Some, sym, ap, subst, ◌∙◌, arith}
use Rattle.std.specs.Prelude.{nat_le, nat_lt, not, slice_get}
use Rattle.std.specs.List.Sorted.{IsNonDecreasingBy, IsPartitionPoint}
use Rattle.std.proofs.lemmas.Bool.Decides.{nat_tests}
use Rattle.std.proofs.lemmas.List.{get_or_append_left, get_or-append_right}
use Rattle.std.proofs.lemmas.List.Sorted.{IsNonDecreasingBy-from_all_adjacent}
use Rattle.std.proofs.lemmas.Option.{slice_get-get_or, slice_get_within}
use Rattle.hy_rows.specs.declared.customer.Customer.{Customer}
use Rattle.hy_layout.specs.declared.names.NamedCustomer.{NamedCustomer}
use Rattle.hy_layout.specs.inside.Places.{AreInOrder, AreStarts, IsEndOf, IsNext, IsPlaceOf, named}
use Rattle.hy_layout.proofs.PartLaws.{not-below, point-before, point-behind, row-at}
use Rattle.hy_layout.proofs.PlaceLaws.{get-map, map-get}

-- what a test of an order says
le-is : (a b : ℕ) → nat_le a b ≡ true → a ≤ b
le-is a b is = grind (arith, nat_tests)

le-not : (a b : ℕ) → nat_le a b ≡ false → b < a
le-not a b is = grind (arith, nat_tests)

pub lt-wider : (a b : ℕ) → nat_lt a b ≡ true → nat_le a b ≡ true
lt-wider a b is = grind (arith, nat_tests)

pub own-between : (a b : ℕ) → (a == b) ≡ not (nat_lt a b) && nat_le a b
own-between a b = grind (arith, nat_tests)

pub end-of : (rows : List Customer) (district count : ℕ) → count ≤ length rows
    → IsPartitionPoint (λ row. nat_le row.district district ≡ true) (λ row. nat_le row.district district ≡ false) rows count
    → IsEndOf rows district count
end-of rows district count bound point = record {
  bound = bound;
  before = λ place row there below. le-is row.district district
      (point-before (λ row. nat_le row.district district ≡ true) (λ row. nat_le row.district district ≡ false) rows count point place row there below);
  behind = λ place row there from. le-not row.district district
      (point-behind (λ row. nat_le row.district district ≡ true) (λ row. nat_le row.district district ≡ false) rows count point place row there from);
}

-- districts rise along the rows
next-rises : (before row : Customer) → IsNext before row → before.district ≤ row.district
next-rises before row next = elim next [
  | inl same ↦ omega (arith, same.0)
  | inr new ↦ omega (arith, new.0)
]

pub districts-rise : (rows : List Customer) → AreInOrder rows → IsNonDecreasingBy (λ row. row.district) rows
districts-rise rows in_order =
    IsNonDecreasingBy-from_all_adjacent (λ row. row.district) rows (λ k d within.
    next-rises (get_or rows k d) (get_or rows (k + 1) d)
    (in_order.next k (get_or rows k d) (get_or rows (k + 1) d) (slice_get-get_or rows k d (omega arith))
    (slice_get-get_or rows (k + 1) d within)))

-- one end more
pub ends-push : (rows : List Customer) (starts pushed : List ℕ) (end count : ℕ) → length starts ≡ count
    → pushed ≡ starts ++ end ∷ [] → ((k : ℕ) → k < count → IsEndOf rows k (get_or starts k 0))
    → IsEndOf rows count end → (k : ℕ) → k < count + 1 → IsEndOf rows k (get_or pushed k 0)
ends-push rows starts pushed end count all is before here =
    below_more (λ k. IsEndOf rows k (get_or pushed k 0)) count
    (λ k below. subst (IsEndOf rows k)
    (sym (ap (λ l. get_or l k 0) is ∙ get_or_append_left starts (end ∷ []) 0 k (omega (arith, below, all)))) (before k below))
    (subst (IsEndOf rows count)
    (sym (ap (λ l. get_or l count 0) is ∙ get_or-append_right starts (end ∷ []) count count 0 all (omega arith)
    ∙ ap (λ k. get_or (end ∷ []) k 0) (let none : count - count ≡ 0 = omega arith in none))) here)

module _ (rows : List Customer) (in_order : AreInOrder rows) (starts : List ℕ)
    (ends : (district : ℕ) → district < 11 → IsEndOf rows district (get_or starts district 0)) where
  abbrev start : ℕ → ℕ
  start district = get_or starts district 0

  first-start : (row : Customer) → slice_get rows 0 ≡ Some row → row.district ≡ 1 → start 0 ≡ 0
  first-start row there is =
      let none : start 0 ≤ 0 = not-below 0 (start 0)
      (λ some. let low = (ends 0 (omega arith)).before 0 row there some in omega (arith, low, is)) in
      omega (arith, none)

  stands : (place : ℕ) (row : Customer) → slice_get rows place ≡ Some row
      → (1 ≤ row.district) × (1 ≤ row.id) × (place + 1 ≡ start (row.district - 1) + row.id)
  stands zero row there =
      let is = subst (λ o. IfSome o (λ row. (row.district ≡ 1) × (row.id ≡ 1))) there in_order.first in
      let none = first-start row there is.0 in
      let same : start (row.district - 1) ≡ start 0 = ap start (omega (arith, is.0)) in
      (omega (arith, is.0), omega (arith, is.1), omega (arith, is.1, same, none))
  stands (suc place) row there =
      let within = slice_get_within rows (suc place) row there in
      let before : Customer = get_or rows place row in
      let before_there : slice_get rows place ≡ Some before = slice_get-get_or rows place row (omega (arith, within)) in
      let rest = stands place before before_there in
      let same_place : suc place ≡ place + 1 = omega arith in
      elim (in_order.next place before row before_there (subst (λ p. slice_get rows p ≡ Some row) same_place there)) [
        | inl same ↦
            let at : start (row.district - 1) ≡ start (before.district - 1) = ap (λ d. start (d - 1)) same.0 in
            (omega (arith, same.0, rest.0), omega (arith, same.1), omega (arith, same.1, at, rest.2))
        | inr new ↦
            let last = in_order.last (suc place) row there in
            let end = ends before.district (omega (arith, last, new.0)) in
            let past : suc place ≤ start before.district = not-below (start before.district) (suc place)
            (λ from. let no = end.behind place before before_there (omega (arith, from)) in omega (arith, no)) in
            let still : start before.district ≤ suc place = not-below (suc place) (start before.district)
            (λ below. let no = end.before (suc place) row there below in omega (arith, no, new.0)) in
            let at : start (row.district - 1) ≡ start before.district = ap start (omega (arith, new.0)) in
            (omega (arith, new.0), omega (arith, new.1), omega (arith, past, still, at, new.1))
      ]

  stands-named : (place : ℕ) (row : Customer) → slice_get rows place ≡ Some row → IsPlaceOf starts row.district row.id place
  stands-named place row there =
      let is = stands place row there in
      let last = in_order.last place row there in
      let past : suc place ≤ start row.district = not-below (start row.district) (suc place) (λ from.
      let no = (ends row.district (omega (arith, last))).behind place row there (omega (arith, from)) in omega (arith, no)) in
      record {
        first = is.0;
        last = last;
        positive = is.1;
        is_place = is.2;
        within = omega (arith, past);
      }

  starts-rise : (district : ℕ) → district < 10 → start district ≤ start (district + 1)
  starts-rise district below =
      let here = ends district (omega arith) in
      let next = ends (district + 1) (omega arith) in
      not-below (start (district + 1)) (start district) (λ less.
      let found = row-at rows (start (district + 1)) (omega (arith, less, here.bound)) in
      let low = here.before (start (district + 1)) found.0 found.1 less in
      let high = next.behind (start (district + 1)) found.0 found.1 (omega arith) in
      omega (arith, low, high))

  -- the numbers of rows up to each district are starts
  pub starts-by_ends : length starts ≡ 11 → AreStarts (map named rows) starts
  starts-by_ends count = record {
    count = count;
    rising = starts-rise;
    each = λ place customer there.
        let found = map-get named rows place customer there in
        subst (λ (c : NamedCustomer). IsPlaceOf starts c.district c.id place) found.2 (stands-named place found.0 found.1);
    all = λ district place from upto low high.
        let here = ends district (omega (arith, upto)) in
        let before = ends (district - 1) (omega (arith, upto)) in
        let found = row-at rows place (omega (arith, high, here.bound)) in
        let above = before.behind place found.0 found.1 low in
        let below = here.before place found.0 found.1 high in
        (named found.0, get-map named rows place found.0 found.1, omega (arith, above, below, from));
  }
