-- What a stable sort leaves is the elements in order, those that tie in the order that they had.
use Rattle.std.proofs.Common.{◌≡◌, ◌∙◌, ◌<◌, ◌≤◌, ◌&&◌, ℕ, zero, suc, Bool, true, false, cond, not, List, [], ◌∷◌, length, get_or, filter, map, refl, sym, ap, inl, inr, arith, suc-le-suc, zero-le}
use Rattle.std.proofs.lemmas.Bool.{and_parts, cases_Bool, cond-false, cond-true, not-true, true≢false}
use Rattle.std.proofs.lemmas.List.Sorted.{sorted_far}
use Rattle.std.specs.Cmp.{IsStrictWeakOrder}
use Rattle.std.specs.List.Sorted.{IsSortedBy, IsStableBy, ties}
use Rattle.hy_query.specs.declared.query.SortKey.{SortKey}
use Rattle.hy_query.specs.Meaning.{comes_before}
use Rattle.hy_query.specs.Rows.{Row}
use Rattle.hy_query.specs.Sorting.{inserted, sorted}

filter-kept : {X : Type 0} (p : X → Bool) (x : X) (xs : List X) → p x ≡ true → filter p (x ∷ xs) ≡ x ∷ filter p xs
filter-kept p x xs h = cond-true _ _ _ h

filter-dropped : {X : Type 0} (p : X → Bool) (x : X) (xs : List X) → p x ≡ false → filter p (x ∷ xs) ≡ filter p xs
filter-dropped p x xs h = cond-false _ _ _ h

module _ {X : Type 0} (less : X → X → Bool) (weak : IsStrictWeakOrder less) where
  inserted-past : (new next : X) (later : List X) → less next new ≡ true
      → inserted less new (next ∷ later) ≡ next ∷ inserted less new later
  inserted-past new next later h = cond-true _ _ _ h

  inserted-stays : (new next : X) (later : List X) → less next new ≡ false
      → inserted less new (next ∷ later) ≡ new ∷ next ∷ later
  inserted-stays new next later h = cond-false _ _ _ h

  -- ---- ties

  tie-parts : (one other : X) → ties less one other ≡ true → (less one other ≡ false) × (less other one ≡ false)
  tie-parts one other tie =
      let parts = and_parts (not (less one other)) (not (less other one)) tie in
      (not-true _ parts.0, not-true _ parts.1)

  tie-from : (one other : X) → less one other ≡ false → less other one ≡ false → ties less one other ≡ true
  tie-from one other up down = λ i. not (up i) && not (down i)

  irreflexive : (x : X) → less x x ≡ false
  irreflexive x = elim (cases_Bool (less x x)) [
    | inl less_self ↦ weak.one_way x x less_self
    | inr not_less ↦ not_less
  ]

  tie-self : (x : X) → ties less x x ≡ true
  tie-self x = tie-from x x (irreflexive x) (irreflexive x)

  -- what ties with two doesn't part them
  tie-both : (x one other : X) → ties less x one ≡ true → ties less x other ≡ true → less one other ≡ false
  tie-both x one other with_one with_other =
      weak.chain one x other (tie-parts x one with_one).1 (tie-parts x other with_other).0

  filter-inserted : (x new : X) (later : List X)
      → filter (ties less x) (inserted less new later) ≡ filter (ties less x) (new ∷ later)
  filter-inserted x new [] = refl
  filter-inserted x new (next ∷ later) =
      let p = ties less x in
      elim (cases_Bool (less next new)) [
        | inr stays ↦ ap (filter p) (inserted-stays new next later stays)
        | inl past ↦
            ap (filter p) (inserted-past new next later past)
            ∙ elim (cases_Bool (p next)) [
              | inr without ↦
                  filter-dropped p next (inserted less new later) without ∙ filter-inserted x new later
                  ∙ ap (λ list. cond (p new) (new ∷ list) list) (sym (filter-dropped p next later without))
              | inl with ↦
                  elim (cases_Bool (p new)) [
                    | inl both ↦ absurd (true≢false (sym past ∙ tie-both x next new with both))
                    | inr only ↦
                        filter-kept p next (inserted less new later) with
                        ∙ ap (λ list. next ∷ list) (filter-inserted x new later ∙ filter-dropped p new later only)
                        ∙ sym (filter-dropped p new (next ∷ later) only ∙ filter-kept p next later with)
                  ]
            ]
      ]

  filter-sorted : (x : X) (xs : List X) → filter (ties less x) (sorted less xs) ≡ filter (ties less x) xs
  filter-sorted x [] = refl
  filter-sorted x (first ∷ later) =
      filter-inserted x first (sorted less later)
      ∙ ap (λ list. cond (ties less x first) (first ∷ list) list) (filter-sorted x later)

  -- ---- lists in order

  -- none is less than x
  abbrev NoneLess : X → List X → Type 0
  NoneLess x [] = Unit {0}
  NoneLess x (y ∷ ys) = (less y x ≡ false) × NoneLess x ys

  -- none is less than one before it
  abbrev Rises : List X → Type 0
  Rises [] = Unit {0}
  Rises (y ∷ ys) = NoneLess y ys × Rises ys

  NoneLess-at : (x : X) (ys : List X) → ((k : ℕ) → k < length ys → less (get_or ys k x) x ≡ false) → NoneLess x ys
  NoneLess-at x [] h = tt
  NoneLess-at x (y ∷ ys) h = (h zero (suc-le-suc zero-le), NoneLess-at x ys (λ k l. h (suc k) (suc-le-suc l)))

  Rises-far : (ys : List X)
      → ((i j : ℕ) (d : X) → i ≤ j → j < length ys → less (get_or ys j d) (get_or ys i d) ≡ false) → Rises ys
  Rises-far [] h = tt
  Rises-far (y ∷ ys) h = (
    NoneLess-at y ys (λ k l. h zero (suc k) y zero-le (suc-le-suc l)),
    Rises-far ys (λ i j d le l. h (suc i) (suc j) d (suc-le-suc le) (suc-le-suc l)),
  )

  NoneLess-chain : (x y : X) (ys : List X) → less y x ≡ false → NoneLess y ys → NoneLess x ys
  NoneLess-chain x y [] h k = tt
  NoneLess-chain x y (z ∷ zs) h k = (weak.chain z y x k.0 h, NoneLess-chain x y zs h k.1)

  NoneLess-inserted : (x new : X) (ys : List X) → less new x ≡ false → NoneLess x ys → NoneLess x (inserted less new ys)
  NoneLess-inserted x new [] h k = (h, tt)
  NoneLess-inserted x new (next ∷ later) h k = elim (cases_Bool (less next new)) [
    | inl past ↦ rw (inserted-past new next later past) (k.0, NoneLess-inserted x new later h k.1)
    | inr stays ↦ rw (inserted-stays new next later stays) (h, k)
  ]

  Rises-inserted : (new : X) (ys : List X) → Rises ys → Rises (inserted less new ys)
  Rises-inserted new [] up = (tt, tt)
  Rises-inserted new (next ∷ later) up = elim (cases_Bool (less next new)) [
    | inl past ↦
        rw (inserted-past new next later past)
        (NoneLess-inserted next new later (weak.one_way next new past) up.0, Rises-inserted new later up.1)
    | inr stays ↦
        rw (inserted-stays new next later stays) ((stays, NoneLess-chain new next later stays up.0), up)
  ]

  Rises-sorted : (xs : List X) → Rises (sorted less xs)
  Rises-sorted [] = tt
  Rises-sorted (first ∷ later) = Rises-inserted first (sorted less later) (Rises-sorted later)

  -- one of them ties with x
  NoneLess-found : (y x : X) (ys : List X) (z : X) (zs : List X) → NoneLess y ys → filter (ties less x) ys ≡ z ∷ zs
      → less x y ≡ false
  NoneLess-found y x [] z zs h e = cc
  NoneLess-found y x (w ∷ ws) z zs h e = elim (cases_Bool (ties less x w)) [
    | inl with ↦ weak.chain x w y (tie-parts x w with).0 h.0
    | inr without ↦ NoneLess-found y x ws z zs h.1 (sym (filter-dropped (ties less x) w ws without) ∙ e)
  ]

  same-heads : (y z : X) (ys zs : List X) → Rises (y ∷ ys) → Rises (z ∷ zs)
      → ((x : X) → filter (ties less x) (y ∷ ys) ≡ filter (ties less x) (z ∷ zs)) → y ≡ z
  same-heads y z ys zs left right same =
      let at_y = filter-kept (ties less y) y ys (tie-self y) in
      let at_z = filter-kept (ties less z) z zs (tie-self z) in
      let up = NoneLess-found z y (z ∷ zs) y _ (irreflexive z, right.0) (sym (same y) ∙ at_y) in
      let down = NoneLess-found y z (y ∷ ys) z _ (irreflexive y, left.0) (same z ∙ at_z) in
      let heads = sym at_y ∙ same y ∙ filter-kept (ties less y) z zs (tie-from y z up down) in
      cc

  -- lists in order with the same elements that tie with each are the same
  same-from_ties : (ys zs : List X) → Rises ys → Rises zs
      → ((x : X) → filter (ties less x) ys ≡ filter (ties less x) zs) → ys ≡ zs
  same-from_ties [] [] left right same = refl
  same-from_ties [] (z ∷ zs) left right same =
      let clash = same z ∙ filter-kept (ties less z) z zs (tie-self z) in cc
  same-from_ties (y ∷ ys) [] left right same =
      let clash = sym (same y) ∙ filter-kept (ties less y) y ys (tie-self y) in cc
  same-from_ties (y ∷ ys) (z ∷ zs) left right same =
      let head : y ≡ z = same-heads y z ys zs left right same in
      let tails : (x : X) → filter (ties less x) ys ≡ filter (ties less x) zs = λ x. elim (cases_Bool (ties less x y)) [
        | inl with ↦
            let both = sym (filter-kept (ties less x) y ys with) ∙ same x
            ∙ filter-kept (ties less x) z zs (ap (ties less x) (sym head) ∙ with) in cc
        | inr without ↦
            sym (filter-dropped (ties less x) y ys without) ∙ same x
            ∙ filter-dropped (ties less x) z zs (ap (ties less x) (sym head) ∙ without)
      ] in
      λ i. head i ∷ same-from_ties ys zs left.1 right.1 tails i

  pub sorted-unique : (xs ys : List X) → IsSortedBy less ys → IsStableBy less xs ys → ys ≡ sorted less xs
  sorted-unique xs ys up stable =
      same-from_ties ys (sorted less xs) (Rises-far ys (sorted_far less weak ys up)) (Rises-sorted xs)
      (λ x. stable x ∙ sym (filter-sorted x xs))

-- ---- a sort by what a function gives

module _ {X Y : Type 0} (less : Y → Y → Bool) (f : X → Y) where
  -- by what f gives
  abbrev less_by : X → X → Bool
  less_by one other = less (f one) (f other)

  map-cond : (b : Bool) (xs ys : List X) → map f (cond b xs ys) ≡ cond b (map f xs) (map f ys)
  map-cond true xs ys = refl
  map-cond false xs ys = refl

  map-inserted : (new : X) (xs : List X) → map f (inserted less_by new xs) ≡ inserted less (f new) (map f xs)
  map-inserted new [] = refl
  map-inserted new (next ∷ later) =
      map-cond (less (f next) (f new)) (next ∷ inserted less_by new later) (new ∷ next ∷ later)
      ∙ ap (λ list. cond (less (f next) (f new)) (f next ∷ list) (f new ∷ f next ∷ map f later))
      (map-inserted new later)

  pub map-sorted : (xs : List X)
      → map f (sorted (λ one other. less (f one) (f other)) xs) ≡ sorted less (map f xs)
  map-sorted [] = refl
  map-sorted (first ∷ later) =
      map-inserted first (sorted less_by later) ∙ ap (inserted less (f first)) (map-sorted later)

-- without keys the rows stay
inserted-first : {X : Type 0} (new : X) (xs : List X) → inserted (λ one other. false) new xs ≡ new ∷ xs
inserted-first new [] = refl
inserted-first new (next ∷ later) = refl

pub sorted-stays : {X : Type 0} (xs : List X) → sorted (λ one other. false) xs ≡ xs
sorted-stays [] = refl
sorted-stays (first ∷ later) =
    ap (inserted (λ one other. false) first) (sorted-stays later) ∙ inserted-first first later

pub sorted-none : {X : Type 0} (keys : List SortKey) (row : X → Row) (xs : List X) → length keys ≡ 0
    → sorted (λ one other. comes_before keys (row one) (row other)) xs ≡ xs
sorted-none [] row xs none = sorted-stays xs
sorted-none (key ∷ later) row xs none = absurd (omega arith)
