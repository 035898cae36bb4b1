-- Items of lists: in filters, at places, and in lists put one behind another.
use Rattle.std.proofs.Common.{◌≡◌, ℕ, zero, suc, inl, inr, Bool, true, false, cond, List, [], ◌∷◌, ◌++◌, ◌⊎◌, filter, Some, refl, ap, subst, arith}
use Rattle.std.specs.Prelude.{slice_get}
use Rattle.std.specs.List.{AllPairs}
use Rattle.std.proofs.lemmas.Option.{slice_get_within, get_or_from_slice_get}
use Rattle.hy_layout.specs.Finds.{IsIn}

-- ---- filters

pub in-filter : {Item : Type 0} (keep : Item → Bool) (item : Item) (items : List Item)
    → IsIn item items → keep item ≡ true → IsIn item (filter keep items)
in-filter keep item [] there passes = there
in-filter {Item = Item} keep item (other ∷ others) there passes =
    elim (keep other) as (λ b. keep other ≡ b → IsIn item (cond b (other ∷ filter keep others) (filter keep others))) [
      | true ↦ λ kept. elim there [
        | inl same ↦ inl same
        | inr behind ↦ inr (in-filter keep item others behind passes)
      ]
      | false ↦ λ fails. elim there [
        | inl same ↦ absurd (cc)
        | inr behind ↦ in-filter keep item others behind passes
      ]
    ] refl

pub filter-in : {Item : Type 0} (keep : Item → Bool) (item : Item) (items : List Item)
    → IsIn item (filter keep items) → IsIn item items × (keep item ≡ true)
filter-in keep item [] there = absurd there
filter-in {Item = Item} keep item (other ∷ others) there =
    elim (keep other) as (λ b. keep other ≡ b → IsIn item (cond b (other ∷ filter keep others) (filter keep others))
    → IsIn item (other ∷ others) × (keep item ≡ true)) [
      | true ↦ λ kept there. elim there [
        | inl same ↦ (inl same, subst (λ x. keep x ≡ true) same kept)
        | inr behind ↦
            let rest = filter-in keep item others behind in
            (inr rest.0, rest.1)
      ]
      | false ↦ λ fails there.
          let rest = filter-in keep item others there in
          (inr rest.0, rest.1)
    ] refl there

-- ---- places

pub in-place : {Item : Type 0} (items : List Item) (place : ℕ) (item : Item) → slice_get items place ≡ Some item
    → IsIn item items
in-place [] place item here = absurd (cc)
in-place (first ∷ items) zero item here = inl (cc)
in-place (first ∷ items) (suc place) item here = inr (in-place items place item here)

pub place-in : {Item : Type 0} (items : List Item) (item : Item) → IsIn item items
    → (place : ℕ) × (slice_get items place ≡ Some item)
place-in [] item there = absurd there
place-in (first ∷ items) item there = elim there [
  | inl same ↦ (0, ap Some same)
  | inr behind ↦
      let rest = place-in items item behind in
      (suc rest.0, rest.1)
]

-- ---- facts on pairs

pub head-in : {Item : Type 0} (R : Item → Item → Type 0) (first : Item) (items : List Item) → AllPairs R (first ∷ items)
    → (item : Item) → IsIn item items → R first item
head-in R first items pairs item there =
    let found = place-in items item there in
    subst (R first) (get_or_from_slice_get items found.0 item item found.1)
    (pairs 0 (suc found.0) item (omega arith)
    (let within = slice_get_within items found.0 item found.1 in omega (arith, within)))

pub pairs-tail : {Item : Type 0} (R : Item → Item → Type 0) (first : Item) (items : List Item) → AllPairs R (first ∷ items)
    → AllPairs R items
pairs-tail R first items pairs = λ i j d before within. pairs (suc i) (suc j) d (omega (arith, before)) (omega (arith, within))

-- ---- lists put one behind another

pub in-left : {Item : Type 0} (item : Item) (items others : List Item) → IsIn item items → IsIn item (items ++ others)
in-left item [] others there = absurd there
in-left item (first ∷ items) others there = elim there [
  | inl same ↦ inl same
  | inr behind ↦ inr (in-left item items others behind)
]

pub in-right : {Item : Type 0} (item : Item) (items others : List Item) → IsIn item others → IsIn item (items ++ others)
in-right item [] others there = there
in-right item (first ∷ items) others there = inr (in-right item items others there)

pub in-append : {Item : Type 0} (item : Item) (items others : List Item) → IsIn item (items ++ others)
    → IsIn item items ⊎ IsIn item others
in-append item [] others there = inr there
in-append item (first ∷ items) others there = elim there [
  | inl same ↦ inl (inl same)
  | inr behind ↦ elim (in-append item items others behind) [
    | inl left ↦ inl (inr left)
    | inr right ↦ inr right
  ]
]
