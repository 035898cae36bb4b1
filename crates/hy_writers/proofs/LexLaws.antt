-- What the order of keys says of their columns.
use Rattle.std.proofs.Common.{◌≡◌, ℕ, ◌+◌, ◌<◌, ◌≤◌, ◌⊎◌, inl, inr, true, false, Ordering, Less, Equal, Greater, refl, sym, ◌∙◌, arith}
use Rattle.std.specs.Ordering.{is_lt, nat_cmp, ordering_then}
use Rattle.std.proofs.lemmas.Cmp.{ranked}
use Rattle.hy_indexes.specs.of_store.declared.keys.LineKey.{LineKey}
use Rattle.hy_indexes.specs.of_store.declared.keys.WaitingKey.{WaitingKey}
use Rattle.hy_indexes.specs.of_store.Keys.{is_lesser_line, is_lesser_waiting}

-- ---- two columns

pub lt-then : (a b : ℕ) (rest : Ordering) → is_lt (ordering_then (nat_cmp a b) rest) ≡ true
    → (a < b) ⊎ ((a ≡ b) × (is_lt rest ≡ true))
lt-then a b rest less = go (nat_cmp a b) refl less
  where
    go : (first : Ordering) → first ≡ nat_cmp a b → is_lt (ordering_then first rest) ≡ true
        → (a < b) ⊎ ((a ≡ b) × (is_lt rest ≡ true))
    go Less is less = inl (ranked a b Less is)
    go Equal is less = inr (ranked a b Equal is, less)
    go Greater is less = absurd (cc)

pub not_lt-then : (a b : ℕ) (rest : Ordering) → is_lt (ordering_then (nat_cmp a b) rest) ≡ false
    → (b < a) ⊎ ((a ≡ b) × (is_lt rest ≡ false))
not_lt-then a b rest less = go (nat_cmp a b) refl less
  where
    go : (first : Ordering) → first ≡ nat_cmp a b → is_lt (ordering_then first rest) ≡ false
        → (b < a) ⊎ ((a ≡ b) × (is_lt rest ≡ false))
    go Less is less = absurd (cc)
    go Equal is less = inr (ranked a b Equal is, less)
    go Greater is less = inl (ranked a b Greater is)

pub then-first : (a b : ℕ) (rest : Ordering) → a < b → is_lt (ordering_then (nat_cmp a b) rest) ≡ true
then-first a b rest below = go (nat_cmp a b) refl
  where
    go : (first : Ordering) → first ≡ nat_cmp a b → is_lt (ordering_then first rest) ≡ true
    go Less is = refl
    go Equal is = absurd (let same = ranked a b Equal is in omega (arith, same, below))
    go Greater is = absurd (let above = ranked a b Greater is in omega (arith, above, below))

pub then-later : (a b : ℕ) (rest : Ordering) → a ≡ b → is_lt (ordering_then (nat_cmp a b) rest) ≡ is_lt rest
then-later a b rest same = go (nat_cmp a b) refl
  where
    go : (first : Ordering) → first ≡ nat_cmp a b → is_lt (ordering_then first rest) ≡ is_lt rest
    go Less is = absurd (let below = ranked a b Less is in omega (arith, below, same))
    go Equal is = refl
    go Greater is = absurd (let above = ranked a b Greater is in omega (arith, above, same))

pub lt-last : (a b : ℕ) → is_lt (nat_cmp a b) ≡ true → a < b
lt-last a b less = go (nat_cmp a b) refl less
  where
    go : (first : Ordering) → first ≡ nat_cmp a b → is_lt first ≡ true → a < b
    go Less is less = ranked a b Less is
    go Equal is less = absurd (cc)
    go Greater is less = absurd (cc)

pub last-lt : (a b : ℕ) → a < b → is_lt (nat_cmp a b) ≡ true
last-lt a b below = go (nat_cmp a b) refl
  where
    go : (first : Ordering) → first ≡ nat_cmp a b → is_lt first ≡ true
    go Less is = refl
    go Equal is = absurd (let same = ranked a b Equal is in omega (arith, same, below))
    go Greater is = absurd (let above = ranked a b Greater is in omega (arith, above, below))

pub not_lt-last : (a b : ℕ) → is_lt (nat_cmp a b) ≡ false → b ≤ a
not_lt-last a b less = go (nat_cmp a b) refl less
  where
    go : (first : Ordering) → first ≡ nat_cmp a b → is_lt first ≡ false → b ≤ a
    go Less is less = absurd (cc)
    go Equal is less = let same = ranked a b Equal is in omega (arith, same)
    go Greater is less = let above = ranked a b Greater is in omega (arith, above)

pub last-not_lt : (a b : ℕ) → b ≤ a → is_lt (nat_cmp a b) ≡ false
last-not_lt a b above = go (nat_cmp a b) refl
  where
    go : (first : Ordering) → first ≡ nat_cmp a b → is_lt first ≡ false
    go Less is = absurd (let below = ranked a b Less is in omega (arith, below, above))
    go Equal is = refl
    go Greater is = refl

-- ---- the keys of the lines of an order: from its first one on, and below those of the next district

pub line-between : (order district : ℕ) (key : LineKey)
    → is_lesser_line key (record { order = order; district = district; number = 0 }) ≡ false
    → is_lesser_line key (record { order = order; district = district + 1; number = 0 }) ≡ true
    → (key.order ≡ order) × (key.district ≡ district)
line-between order district key from below =
    elim (lt-then key.order order (ordering_then (nat_cmp key.district (district + 1)) (nat_cmp key.number 0)) below) [
      | inl less ↦ elim (not_lt-then key.order order (ordering_then (nat_cmp key.district district) (nat_cmp key.number 0)) from) [
        | inl above ↦ absurd (omega (arith, less, above))
        | inr same ↦ absurd (let is = same.0 in omega (arith, less, is))
      ]
      | inr same ↦ elim (not_lt-then key.order order (ordering_then (nat_cmp key.district district) (nat_cmp key.number 0)) from) [
        | inl above ↦ absurd (let is = same.0 in omega (arith, above, is))
        | inr also ↦
            elim (lt-then key.district (district + 1) (nat_cmp key.number 0) same.1) [
              | inl under ↦ elim (not_lt-then key.district district (nat_cmp key.number 0) also.1) [
                | inl over ↦ absurd (omega (arith, under, over))
                | inr equal ↦ (same.0, equal.0)
              ]
              | inr next ↦ absurd (let less = lt-last key.number 0 next.1 in omega (arith, less))
            ]
      ]
    ]

pub between-line : (order district : ℕ) (key : LineKey) → key.order ≡ order → key.district ≡ district
    → (is_lesser_line key (record { order = order; district = district; number = 0 }) ≡ false)
    × (is_lesser_line key (record { order = order; district = district + 1; number = 0 }) ≡ true)
between-line order district key orders districts = (
  then-later key.order order (ordering_then (nat_cmp key.district district) (nat_cmp key.number 0)) orders
      ∙ then-later key.district district (nat_cmp key.number 0) districts
      ∙ last-not_lt key.number 0 (omega arith),
  then-later key.order order (ordering_then (nat_cmp key.district (district + 1)) (nat_cmp key.number 0)) orders
      ∙ then-first key.district (district + 1) (nat_cmp key.number 0) (omega (arith, districts)),
)

-- of two lines of one order the one with the lesser number comes first
pub line-number : (one other : LineKey) → one.order ≡ other.order → one.district ≡ other.district
    → is_lesser_line one other ≡ true → one.number < other.number
line-number one other orders districts less =
    lt-last one.number other.number
    (sym (then-later one.order other.order
    (ordering_then (nat_cmp one.district other.district) (nat_cmp one.number other.number)) orders
    ∙ then-later one.district other.district (nat_cmp one.number other.number) districts) ∙ less)

-- ---- the keys of the undelivered orders of a district

pub waiting-from : (district : ℕ) (key : WaitingKey)
    → is_lesser_waiting key (record { district = district; order = 0 }) ≡ false → district ≤ key.district
waiting-from district key from = elim (not_lt-then key.district district (nat_cmp key.order 0) from) [
  | inl above ↦ omega (arith, above)
  | inr same ↦ let is = same.0 in omega (arith, is)
]

pub from-waiting : (district : ℕ) (key : WaitingKey) → key.district ≡ district
    → is_lesser_waiting key (record { district = district; order = 0 }) ≡ false
from-waiting district key same =
    then-later key.district district (nat_cmp key.order 0) same ∙ last-not_lt key.order 0 (omega arith)

-- behind a key of a district there is none of the districts before, and in the same one the number is greater
pub waiting-behind : (one other : WaitingKey) → is_lesser_waiting one other ≡ true
    → (one.district < other.district) ⊎ ((one.district ≡ other.district) × (one.order < other.order))
waiting-behind one other less = elim (lt-then one.district other.district (nat_cmp one.order other.order) less) [
  | inl below ↦ inl below
  | inr same ↦ inr (same.0, lt-last one.order other.order same.1)
]
