-- Which customer is meant, and where it stands.
use Rattle.std.proofs.Common.{◌≡◌, ◌≢◌, ℕ, ◌+◌, ◌-◌, ◌/◌, ◌<◌, ◌==◌, ◌&&◌, inl, inr, Bool, true, false, cond, List, [], ◌∷◌, length, filter, map, get_or, swap, Option, Some, None, IsPermutation, refl, sym, ap, ap₂, subst, ◌∙◌, arith}
use Rattle.std.specs.Prelude.{MatchOption, slice_get}
use Rattle.std.specs.Option.{option_map}
use Rattle.std.specs.List.{Contains}
use Rattle.std.specs.Str.{bytes_eq}
use Rattle.std.proofs.lemmas.Bool.{eq-eqb, eqb-true}
use Rattle.std.proofs.lemmas.List.Edits.{length-swap}
use Rattle.std.proofs.lemmas.List.Kept.{AllPairs-filter}
use Rattle.std.proofs.lemmas.List.Sorted.{Contains-permutation, IsPermutation-keeps, IsPermutation-sym, sorted_far}
use Rattle.std.proofs.lemmas.Option.{get_or_from_slice_get, slice_get-get_or, slice_get-map, slice_get_within}
use Rattle.std.proofs.lemmas.Slice.Eq.{bytes_eq-Decides}
use Rattle.indexmap.proofs.ReorderLemmas.{exchange, exchange-twice, exchange-within, get_or-swap}
use Rattle.hy_rows.specs.Finding.{is_customer}
use Rattle.hy_rows.specs.Tables.{Lists, Tables}
use Rattle.hy_rows.specs.declared.customer.Customer.{Customer}
use Rattle.hy_schema.specs.Keys.{customer_key}
use Rattle.hy_commands.specs.Customers.{customer_meant, identity_of, is_earlier, is_named, middle_of}
use Rattle.hy_commands.specs.Sorting.{sorted}
use Rattle.hy_commands.specs.declared.command.Who.TheVariants as who
use Rattle.hy_commands.proofs.ListLaws.{length-map, map-map}
use Rattle.hy_commands.proofs.OnceLaws.{passes-three}
use Rattle.hy_layout.specs.Finds.{IsIn}
use Rattle.hy_layout.specs.Layout.{IsMeantAt, KeepsPlaces, own_rows}
use Rattle.hy_layout.specs.declared.names.NamedCustomer.{NamedCustomer}
use Rattle.hy_layout.specs.inside.Places.{AreNames, AreStarts, IsLaidOut, IsNoPlace, IsPlaceOf, is_called, is_lesser, named}
use Rattle.hy_layout.proofs.LoadLaws.{not-passed}
use Rattle.hy_layout.proofs.MemberLaws.{filter-in, in-filter, in-place, place-in}
use Rattle.hy_layout.proofs.NameOrders.{lesser-earlier, lesser-order, lesser-weak}
use Rattle.hy_layout.proofs.PlaceLaws.{find-none, find-only, get-map, map-get}
use Rattle.hy_layout.proofs.SortedLaws.{AreApart, IsRising, apart-different, rising-filter, rising-pairs, sorted-in, sorted-is, sorted-map}

three-parts : (a b c : Bool) → a && b && c ≡ true → (a ≡ true) × (b ≡ true) × (c ≡ true)
three-parts true true c is = (refl, refl, is)
three-parts true false c is = absurd (cc)
three-parts false b c is = absurd (cc)

-- ---- the names of a warehouse
in-contains : {Item : Type 0} (items : List Item) (item : Item) → IsIn item items → Contains items item
in-contains items item there =
    let found = place-in items item there in (
      found.0,
      slice_get_within items found.0 item found.1,
      get_or_from_slice_get items found.0 item item found.1,
    )

contains-in : {Item : Type 0} (items : List Item) (item : Item) → Contains items item → IsIn item items
contains-in items item is =
    in-place items is.0 item (slice_get-get_or items is.0 item is.1 ∙ ap Some is.2)

in-permutation : {Item : Type 0} (items others : List Item) (item : Item) → IsPermutation items others → IsIn item items
    → IsIn item others
in-permutation items others item same there =
    contains-in others item (Contains-permutation items others item same (in-contains items item there))

-- no customer stands twice
abbrev AreDistinct : List NamedCustomer → Type 0
AreDistinct customers = (one other : ℕ) (d : NamedCustomer) → one < length customers → other < length customers
    → get_or customers one d ≡ get_or customers other d → one ≡ other

distinct-swap : (customers : List NamedCustomer) (i j : ℕ) → i < length customers → j < length customers
    → AreDistinct customers → AreDistinct (swap customers i j)
distinct-swap customers i j i_within j_within distinct = λ one other d one_within other_within same.
    let size : length (swap customers i j) ≡ length customers = length-swap customers i j in
    let moved = distinct (exchange i j one) (exchange i j other) d
    (exchange-within i j (length customers) one i_within j_within (omega (arith, size, one_within)))
    (exchange-within i j (length customers) other i_within j_within (omega (arith, size, other_within)))
    (sym (get_or-swap customers i j d i_within j_within one) ∙ same ∙ get_or-swap customers i j d i_within j_within other) in
    sym (exchange-twice i j one) ∙ ap (exchange i j) moved ∙ exchange-twice i j other

module _ (customers names : List NamedCustomer) (starts : List ℕ) (by_number : AreStarts customers starts)
    (by_name : AreNames customers names) where
  distinct : AreDistinct customers
  distinct one other d one_within other_within same =
      let here = by_number.each one (get_or customers one d) (slice_get-get_or customers one d one_within) in
      let there = by_number.each other (get_or customers other d) (slice_get-get_or customers other d other_within) in
      let equal = ap (λ (c : NamedCustomer). get_or starts (c.district - 1) 0 + c.id) same in
      omega (arith, here.is_place, there.is_place, equal)

  distinct-names : AreDistinct names
  distinct-names = IsPermutation-keeps customers AreDistinct distinct distinct-swap names by_name.same

  names-rising : IsRising is_lesser names
  names-rising = rising-pairs is_lesser names (λ i j d before within.
      let one : NamedCustomer = get_or names i d in
      let other : NamedCustomer = get_or names j d in
      let back : is_lesser other one ≡ false = sorted_far is_lesser lesser-weak names by_name.in_order i j d (omega (arith, before)) within in
      not-false (is_lesser one other) (λ no.
      let same = lesser-order.same one other no back in
      let equal = distinct-names i j d (omega (arith, before, within)) within same in
      omega (arith, equal, before)))
    where
      not-false : (b : Bool) → (b ≡ false → ⊥) → b ≡ true
      not-false b passes = elim b as (λ t. b ≡ t → t ≡ true) [
        | true ↦ λ is. refl
        | false ↦ λ is. absurd (passes is)
      ] refl

  module _ (district : ℕ) (name : List ℕ) where
    abbrev called : List NamedCustomer → List NamedCustomer
    called items = filter (is_called district name) items

    called-apart : AreApart is_lesser (called customers)
    called-apart = apart-different is_lesser lesser-order (called customers)
        (AllPairs-filter (λ one other. one ≢ other) (is_called district name) customers (λ i j d before within same.
        let equal = distinct i j d (omega (arith, before, within)) within same in omega (arith, equal, before)))

    sorted-called : sorted is_lesser (called customers) ≡ called names
    sorted-called = sorted-is is_lesser lesser-order.one_way lesser-order.along (called customers) (called names)
        called-apart (rising-filter is_lesser (is_called district name) names names-rising)
        (λ item there.
        let parts = filter-in (is_called district name) item customers there in
        in-filter (is_called district name) item names (in-permutation customers names item by_name.same parts.0) parts.1)
        (λ item there.
        let parts = filter-in (is_called district name) item names there in
        in-filter (is_called district name) item customers
        (in-permutation names customers item (IsPermutation-sym customers names by_name.same) parts.0) parts.1)

-- ---- the customers of a warehouse now
named-called : (warehouse district : ℕ) (name : List ℕ) (rows : List Customer)
    → ((row : Customer) → IsIn row rows → row.warehouse ≡ warehouse)
    → map named (filter (is_named warehouse district name) rows) ≡ filter (is_called district name) (map named rows)
named-called warehouse district name [] home = refl
named-called warehouse district name (row ∷ rows) home =
    let rest = named-called warehouse district name rows (λ other there. home other (inr there)) in
    let own : is_named warehouse district name row ≡ is_called district name (named row) =
    ap (λ b. b && (row.district == district) && bytes_eq row.last name)
    (eq-eqb row.warehouse warehouse (home row (inl refl))) in
    ap (λ b. map named (cond b (row ∷ filter (is_named warehouse district name) rows) (filter (is_named warehouse district name) rows))) own
    ∙ (elim (is_called district name (named row)) as (λ b.
    map named (cond b (row ∷ filter (is_named warehouse district name) rows) (filter (is_named warehouse district name) rows))
    ≡ cond b (named row ∷ filter (is_called district name) (map named rows)) (filter (is_called district name) (map named rows))) [
      | true ↦ ap (λ others. named row ∷ others) rest
      | false ↦ rest
    ])

key-is : (row : Customer) (warehouse district : ℕ) → row.warehouse ≡ warehouse → row.district ≡ district
    → customer_key row ≡ (warehouse, district, row.id)
key-is row warehouse district own home = ap₂ (λ (w : ℕ) (d : ℕ). (w, d, row.id)) own home

no-map : {Row Other : Type 0} (f : Row → Other) (row : Option Row) → option_map f row ≡ None → row ≡ None
no-map f None none = refl
no-map f (Some row) none = absurd (cc)

module _ (warehouse : ℕ) (rows : List Customer) (customers names : List NamedCustomer) (starts : List ℕ)
    (by_number : AreStarts customers starts) (by_name : AreNames customers names) (same : map named rows ≡ customers)
    (home : (row : Customer) → IsIn row rows → row.warehouse ≡ warehouse) where
  stands-now : (place : ℕ) (row : Customer) → slice_get rows place ≡ Some row → IsPlaceOf starts row.district row.id place
  stands-now place row there =
      by_number.each place (named row)
      (subst (λ l. slice_get l place ≡ Some (named row)) same (get-map named rows place row there))

  -- ---- by number

  is-number : (district number : ℕ) (row : Customer) → is_customer warehouse district number row ≡ true
      → (row.district ≡ district) × (row.id ≡ number)
  is-number district number row passes =
      let parts = three-parts (row.warehouse == warehouse) (row.district == district) (row.id == number) passes in
      (eqb-true row.district district parts.1, eqb-true row.id number parts.2)

  at-number : (district number place : ℕ) (row : Customer) → row.district ≡ district → row.id ≡ number
      → IsPlaceOf starts row.district row.id place → IsPlaceOf starts district number place
  at-number district number place row d n is =
      subst (λ k. IsPlaceOf starts k number place) d (subst (λ k. IsPlaceOf starts row.district k place) n is)

  number-none : (district number : ℕ) → IsNoPlace starts district number
      → customer_meant warehouse district (who.Number number) rows ≡ None
  number-none district number none =
      find-none (is_customer warehouse district number) rows (λ place row there.
      not-passed (is_customer warehouse district number row) (λ passes.
      let is = is-number district number row passes in
      none place (at-number district number place row is.0 is.1 (stands-now place row there))))

  number-some : (district number place : ℕ) → IsPlaceOf starts district number place
      → IsMeantAt warehouse district (who.Number number) rows place
  number-some district number place is =
      let found = by_number.all district place is.first is.last (omega (arith, is.is_place, is.positive)) is.within in
      let kept = map-get named rows place found.0 (ap (λ l. slice_get l place) same ∙ found.1) in
      let row : Customer = kept.0 in
      let d : row.district ≡ district = ap (λ (c : NamedCustomer). c.district) kept.2 ∙ found.2 in
      let w : row.warehouse ≡ warehouse = home row (in-place rows place row kept.1) in
      let at = stands-now place row kept.1 in
      let start = ap (λ k. get_or starts (k - 1) 0) d in
      let n : row.id ≡ number = omega (arith, at.is_place, is.is_place, start) in
      record {
        row = row;
        here = kept.1;
        meant = find-only (is_customer warehouse district number) rows place row (record {
          here = kept.1;
          passes = passes-three row.warehouse row.district row.id warehouse district number w d n;
          only = λ other another there passes.
              let also = is-number district number another passes in
              let stands = at-number district number other another also.0 also.1 (stands-now other another there) in
              omega (arith, stands.is_place, is.is_place);
        });
        key = key-is row warehouse district w d;
      }

  pub by-number : (district number : ℕ) (result : Option ℕ)
      → MatchOption result (IsNoPlace starts district number) (IsPlaceOf starts district number)
      → MatchOption result (customer_meant warehouse district (who.Number number) rows ≡ None)
      (IsMeantAt warehouse district (who.Number number) rows)
  by-number district number None is = number-none district number is
  by-number district number (Some place) is = number-some district number place is

  -- ---- by last name

  module _ (district : ℕ) (name : List ℕ) where
    abbrev with_name : List Customer
    with_name = filter (is_named warehouse district name) rows

    abbrev run : List NamedCustomer
    run = filter (is_called district name) names

    is-with_name : (row : Customer) → IsIn row with_name → (row.district ≡ district) × (row.last ≡ name)
    is-with_name row there =
        let passes = (filter-in (is_named warehouse district name) row rows there).1 in
        let parts = three-parts (row.warehouse == warehouse) (row.district == district) (bytes_eq row.last name) passes in
        (eqb-true row.district district parts.1, (bytes_eq-Decides row.last name).0 parts.2)

    run-now : map named (sorted is_earlier with_name) ≡ run
    run-now =
        sorted-map is_earlier named is_lesser with_name (λ one other here there.
        let first = is-with_name one here in
        let second = is-with_name other there in
        lesser-earlier one other (first.0 ∙ sym second.0) (first.1 ∙ sym second.1))
        ∙ ap (sorted is_lesser) (named-called warehouse district name rows home ∙ ap (filter (is_called district name)) same)
        ∙ sorted-called customers names starts by_number by_name district name

    same-length : length run ≡ length (sorted is_earlier with_name)
    same-length = ap length (sym run-now) ∙ length-map named (sorted is_earlier with_name)

    middle-now : slice_get run ((length run + 1) / 2 - 1) ≡ option_map named (middle_of (sorted is_earlier with_name))
    middle-now =
        ap (λ n. slice_get run ((n + 1) / 2 - 1)) same-length
        ∙ ap (λ l. slice_get l ((length (sorted is_earlier with_name) + 1) / 2 - 1)) (sym run-now)
        ∙ slice_get-map named (sorted is_earlier with_name) ((length (sorted is_earlier with_name) + 1) / 2 - 1)

    pub by-name-none : slice_get run ((length run + 1) / 2 - 1) ≡ None
        → customer_meant warehouse district (who.Last name) rows ≡ None
    by-name-none none = no-map named (middle_of (sorted is_earlier with_name)) (sym middle-now ∙ none)

    by-name-at : (customer : NamedCustomer) → slice_get run ((length run + 1) / 2 - 1) ≡ Some customer
        → (place : ℕ) × IsPlaceOf starts district customer.id place × IsMeantAt warehouse district (who.Last name) rows place
    by-name-at customer is =
        let kept = some-map (middle_of (sorted is_earlier with_name)) (sym middle-now ∙ is) in
        let row : Customer = kept.0 in
        let there = sorted-in is_earlier row with_name
        (in-place (sorted is_earlier with_name) ((length (sorted is_earlier with_name) + 1) / 2 - 1) row kept.1) in
        let parts = is-with_name row there in
        let here = place-in rows row (filter-in (is_named warehouse district name) row rows there).0 in
        let n : row.id ≡ customer.id = ap (λ (c : NamedCustomer). c.id) kept.2 in
        let w : row.warehouse ≡ warehouse = home row (in-place rows here.0 row here.1) in (
          here.0,
          at-number district customer.id here.0 row parts.0 n (stands-now here.0 row here.1),
          record {
            row = row;
            here = here.1;
            meant = kept.1;
            key = key-is row warehouse district w parts.0;
          },
        )
      where
        some-map : (row : Option Customer) → option_map named row ≡ Some customer
            → (found : Customer) × (row ≡ Some found) × (named found ≡ customer)
        some-map None is = absurd (cc)
        some-map (Some row) is = (row, refl, cc)

    pub by-name-some : (customer : NamedCustomer) → slice_get run ((length run + 1) / 2 - 1) ≡ Some customer
        → (result : Option ℕ)
        → MatchOption result (IsNoPlace starts district customer.id) (IsPlaceOf starts district customer.id)
        → MatchOption result (customer_meant warehouse district (who.Last name) rows ≡ None)
        (IsMeantAt warehouse district (who.Last name) rows)
    by-name-some customer is None none =
        let at = by-name-at customer is in
        absurd (none at.0 at.1)
    by-name-some customer is (Some place) stands =
        let at = by-name-at customer is in
        let equal : at.0 ≡ place = (let first = (at.1).is_place in let second = stands.is_place in omega (arith, first, second)) in
        subst (IsMeantAt warehouse district (who.Last name) rows) equal at.2

-- ---- rows that stand where they stood
pub kept-named : (rows loaded : List Customer) → map identity_of rows ≡ map identity_of loaded
    → map named rows ≡ map named loaded
kept-named rows loaded same = sym (map-map identity_of named rows) ∙ ap (map named) same ∙ map-map identity_of named loaded

pub kept-home : (warehouse : ℕ) (rows load : List Customer)
    → map identity_of rows ≡ map identity_of (filter (λ row. row.warehouse == warehouse) load)
    → (row : Customer) → IsIn row rows → row.warehouse ≡ warehouse
kept-home warehouse rows load same row there =
    let at = place-in rows row there in
    let found = map-get identity_of (filter (λ row. row.warehouse == warehouse) load) at.0 (identity_of row)
    (ap (λ l. slice_get l at.0) (sym same) ∙ get-map identity_of rows at.0 row at.1) in
    let own = filter-in (λ row. row.warehouse == warehouse) found.0 load
    (in-place (filter (λ row. row.warehouse == warehouse) load) at.0 found.0 found.1) in
    ap (λ (r : Customer). r.warehouse) (sym found.2) ∙ eqb-true (found.0).warehouse warehouse own.1

module _ (load : Lists) (warehouse : ℕ) (starts : List ℕ) (names : List NamedCustomer)
    (laid_out : IsLaidOut load warehouse starts names) (tables : Tables)
    (keeps : KeepsPlaces (own_rows (record { load = load; warehouse = warehouse })) tables) where
  abbrev loaded : List Customer
  loaded = filter (λ row. row.warehouse == warehouse) load.tables.customers

  abbrev same_named : map named tables.customers ≡ map named loaded
  same_named = kept-named tables.customers loaded keeps.customers

  abbrev same_home : (row : Customer) → IsIn row tables.customers → row.warehouse ≡ warehouse
  same_home = kept-home warehouse tables.customers load.tables.customers keeps.customers

  pub laid-number : (district number : ℕ) (result : Option ℕ)
      → MatchOption result (IsNoPlace starts district number) (IsPlaceOf starts district number)
      → MatchOption result (customer_meant warehouse district (who.Number number) tables.customers ≡ None)
      (IsMeantAt warehouse district (who.Number number) tables.customers)
  laid-number = by-number warehouse tables.customers (map named loaded) names starts laid_out.by_number laid_out.by_name
      same_named same_home

  pub laid-none : (district : ℕ) (name : List ℕ)
      → slice_get (filter (is_called district name) names) ((length (filter (is_called district name) names) + 1) / 2 - 1) ≡ None
      → customer_meant warehouse district (who.Last name) tables.customers ≡ None
  laid-none = by-name-none warehouse tables.customers (map named loaded) names starts laid_out.by_number
      laid_out.by_name same_named same_home

  pub laid-some : (district : ℕ) (name : List ℕ) (customer : NamedCustomer)
      → slice_get (filter (is_called district name) names) ((length (filter (is_called district name) names) + 1) / 2 - 1)
      ≡ Some customer → (result : Option ℕ)
      → MatchOption result (IsNoPlace starts district customer.id) (IsPlaceOf starts district customer.id)
      → MatchOption result (customer_meant warehouse district (who.Last name) tables.customers ≡ None)
      (IsMeantAt warehouse district (who.Last name) tables.customers)
  laid-some = by-name-some warehouse tables.customers (map named loaded) names starts laid_out.by_number
      laid_out.by_name same_named same_home
