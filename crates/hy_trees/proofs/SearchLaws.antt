-- What is found among items of which the first ones stand before a key and the last ones behind it.
use Rattle.std.proofs.Common.{◌≡◌, ℕ, ◌<◌, Bool, true, false, not, cond, List, [], ◌∷◌, ◌++◌, length, None, Some, filter, refl, ap, sym, subst, ◌∙◌, arith}
use Rattle.std.proofs.Math.Path.{ap₂}
use Rattle.std.specs.Prelude.{◌&&◌}
use Rattle.std.specs.List.{AllByRecursion, find, flat_map}
use Rattle.std.proofs.lemmas.List.{append-nil, append_assoc}
use Rattle.std.proofs.lemmas.List.Elements.{filter-append}
use Rattle.hy_trees.specs.Nodes.{Item}
use Rattle.hy_trees.specs.Trees.{IsFrom, is_less_bytes}
use Rattle.hy_trees.specs.Leaves.{AreAbove, AreBelow}
use Rattle.hy_trees.specs.Searches.{between, first_from, is_above, is_at, is_below, is_between, is_from, with_item, without}
use Rattle.hy_trees.proofs.OrderLaws.{less-irreflexive, less-one_way}
use Rattle.hy_trees.proofs.PartLaws.{IsFrom-trans}
use Rattle.hy_trees.proofs.RiseLaws.{AllByRecursion-weaker}

-- ---- tests that pass for all or for none

pub filter-all : {A : Type 0} (p : A → Bool) (xs : List A) → AllByRecursion (λ x. p x ≡ true) xs → filter p xs ≡ xs
filter-all p [] all = refl
filter-all p (x ∷ xs) all =
    ap (λ b. cond b (x ∷ filter p xs) (filter p xs)) all.0 ∙ ap (λ rest. x ∷ rest) (filter-all p xs all.1)

pub filter-none : {A : Type 0} (p : A → Bool) (xs : List A) → AllByRecursion (λ x. p x ≡ false) xs → filter p xs ≡ []
filter-none p [] none = refl
filter-none p (x ∷ xs) none =
    ap (λ b. cond b (x ∷ filter p xs) (filter p xs)) none.0 ∙ filter-none p xs none.1

pub find-none : {A : Type 0} (p : A → Bool) (xs : List A) → AllByRecursion (λ x. p x ≡ false) xs → find p xs ≡ None
find-none p [] none = refl
find-none p (x ∷ xs) none = ap (λ b. cond b (Some x) (find p xs)) none.0 ∙ find-none p xs none.1

pub find-append_none : {A : Type 0} (p : A → Bool) (xs ys : List A) → find p xs ≡ None → find p (xs ++ ys) ≡ find p ys
find-append_none p [] ys none = refl
find-append_none p (x ∷ xs) ys none =
    elim (p x) as (λ b. cond b (Some x) (find p xs) ≡ None → cond b (Some x) (find p (xs ++ ys)) ≡ find p ys) [
      | true ↦ λ is. absurd (cc)
      | false ↦ λ is. find-append_none p xs ys is
    ] none

pub find-append_some : {A : Type 0} (p : A → Bool) (xs ys : List A) (found : A) → find p xs ≡ Some found
    → find p (xs ++ ys) ≡ Some found
find-append_some p [] ys found is = absurd (cc)
find-append_some p (x ∷ xs) ys found is =
    elim (p x) as (λ b. cond b (Some x) (find p xs) ≡ Some found → cond b (Some x) (find p (xs ++ ys)) ≡ Some found) [
      | true ↦ λ here. here
      | false ↦ λ behind. find-append_some p xs ys found behind
    ] is

-- where each passes, the first one is found, whatever stands behind
pub find-all : {A : Type 0} (p : A → Bool) (xs ys : List A) → 0 < length xs → AllByRecursion (λ x. p x ≡ true) xs
    → find p (xs ++ ys) ≡ find p xs
find-all p [] ys some all = absurd (omega (arith, some))
find-all p (x ∷ xs) ys some all =
    ap (λ b. cond b (Some x) (find p (xs ++ ys))) all.0 ∙ sym (ap (λ b. cond b (Some x) (find p xs)) all.0)

-- ---- items below a key and above it

below-not_at : (key : List ℕ) (item : Item) → is_less_bytes item.key key ≡ true → is_at key item ≡ false
below-not_at key item less = ap (λ b. not b && not (is_less_bytes key item.key)) less

above-not_below : (key : List ℕ) (item : Item) → is_less_bytes key item.key ≡ true → is_below key item ≡ false
above-not_below key item less = less-one_way key item.key less

above-not_at : (key : List ℕ) (item : Item) → is_less_bytes key item.key ≡ true → is_at key item ≡ false
above-not_at key item less =
    ap (λ b. not b && not (is_less_bytes key item.key)) (above-not_below key item less) ∙ ap not less

pub find-at_below : (key : List ℕ) (items : List Item) → AreBelow key items → find (is_at key) items ≡ None
find-at_below key items below =
    find-none (is_at key) items (AllByRecursion-weaker (λ (i : Item). is_less_bytes i.key key ≡ true)
    (λ (i : Item). is_at key i ≡ false) items (λ i less. below-not_at key i less) below)

pub find-at_above : (key : List ℕ) (items : List Item) → AreAbove key items → find (is_at key) items ≡ None
find-at_above key items above =
    find-none (is_at key) items (AllByRecursion-weaker (λ (i : Item). is_less_bytes key i.key ≡ true)
    (λ (i : Item). is_at key i ≡ false) items (λ i less. above-not_at key i less) above)

find-nothing : {A : Type 0} (p : A → Bool) (xs ys : List A) → find p ys ≡ None → find p (xs ++ ys) ≡ find p xs
find-nothing p [] ys none = none
find-nothing p (x ∷ xs) ys none = ap (λ rest. cond (p x) (Some x) rest) (find-nothing p xs ys none)

-- a key is found where it stands
pub find-at : (key : List ℕ) (front items behind : List Item) → AreBelow key front → AreAbove key behind
    → find (is_at key) (front ++ (items ++ behind)) ≡ find (is_at key) items
find-at key front items behind below above =
    find-append_none (is_at key) front (items ++ behind) (find-at_below key front below)
    ∙ find-nothing (is_at key) items behind (find-at_above key behind above)

filter-below_front : (key : List ℕ) (front rest : List Item) → AreBelow key front
    → filter (is_below key) (front ++ rest) ≡ front ++ filter (is_below key) rest
filter-below_front key front rest below =
    filter-append (is_below key) front rest ∙ ap (λ f. f ++ filter (is_below key) rest) (filter-all (is_below key) front below)

filter-below_behind : (key : List ℕ) (items behind : List Item) → AreAbove key behind
    → filter (is_below key) (items ++ behind) ≡ filter (is_below key) items
filter-below_behind key items behind above =
    filter-append (is_below key) items behind
    ∙ ap (λ b. filter (is_below key) items ++ b) (filter-none (is_below key) behind
    (AllByRecursion-weaker (λ (i : Item). is_less_bytes key i.key ≡ true) (λ (i : Item). is_below key i ≡ false) behind
    (λ i less. above-not_below key i less) above))
    ∙ append-nil (filter (is_below key) items)

filter-above_front : (key : List ℕ) (front rest : List Item) → AreBelow key front
    → filter (is_above key) (front ++ rest) ≡ filter (is_above key) rest
filter-above_front key front rest below =
    filter-append (is_above key) front rest
    ∙ ap (λ f. f ++ filter (is_above key) rest) (filter-none (is_above key) front
    (AllByRecursion-weaker (λ (i : Item). is_less_bytes i.key key ≡ true) (λ (i : Item). is_above key i ≡ false) front
    (λ i less. less-one_way i.key key less) below))

filter-above_behind : (key : List ℕ) (items behind : List Item) → AreAbove key behind
    → filter (is_above key) (items ++ behind) ≡ filter (is_above key) items ++ behind
filter-above_behind key items behind above =
    filter-append (is_above key) items behind
    ∙ ap (λ b. filter (is_above key) items ++ b) (filter-all (is_above key) behind above)

-- the items below and above a key, of which some are those before all others and behind them
pub filter-below : (key : List ℕ) (front items behind : List Item) → AreBelow key front → AreAbove key behind
    → filter (is_below key) (front ++ (items ++ behind)) ≡ front ++ filter (is_below key) items
filter-below key front items behind below above =
    filter-below_front key front (items ++ behind) below
    ∙ ap (λ r. front ++ r) (filter-below_behind key items behind above)

pub filter-above : (key : List ℕ) (front items behind : List Item) → AreBelow key front → AreAbove key behind
    → filter (is_above key) (front ++ (items ++ behind)) ≡ filter (is_above key) items ++ behind
filter-above key front items behind below above =
    filter-above_front key front (items ++ behind) below ∙ filter-above_behind key items behind above

pub with_item-part : (key : List ℕ) (number : ℕ) (front items behind : List Item) → AreBelow key front
    → AreAbove key behind
    → with_item key number (front ++ (items ++ behind)) ≡ front ++ (with_item key number items ++ behind)
with_item-part key number front items behind below above =
    ap₂ (λ a b. a ++ (record { key = key; number = number } ∷ b)) (filter-below key front items behind below above)
    (filter-above key front items behind below above)
    ∙ regroup front (filter (is_below key) items) (filter (is_above key) items) behind (record { key = key; number = number })
  where
    regroup : (a b c d : List Item) (x : Item) → (a ++ b) ++ (x ∷ (c ++ d)) ≡ a ++ ((b ++ (x ∷ c)) ++ d)
    regroup a b c d x = simp append_assoc

pub without-part : (key : List ℕ) (front items behind : List Item) → AreBelow key front → AreAbove key behind
    → without key (front ++ (items ++ behind)) ≡ front ++ (without key items ++ behind)
without-part key front items behind below above =
    ap₂ (λ a b. a ++ b) (filter-below key front items behind below above)
    (filter-above key front items behind below above)
    ∙ regroup front (filter (is_below key) items) (filter (is_above key) items) behind
  where
    regroup : (a b c d : List Item) → (a ++ b) ++ (c ++ d) ≡ a ++ ((b ++ c) ++ d)
    regroup a b c d = simp append_assoc

-- what an insertion and a removal leave of the items of a leaf, cut where the key stands or would stand
pub with_item-new : (key : List ℕ) (number : ℕ) (xs ys : List Item) → AreBelow key xs → AreAbove key ys
    → with_item key number (xs ++ ys) ≡ xs ++ (record { key = key; number = number } ∷ ys)
with_item-new key number xs ys below above =
    with_item-part key number xs [] ys below above

pub with_item-there : (key : List ℕ) (number : ℕ) (xs : List Item) (item : Item) (ys : List Item) → item.key ≡ key
    → AreBelow key xs → AreAbove key ys
    → with_item key number (xs ++ (item ∷ ys)) ≡ xs ++ (record { key = key; number = number } ∷ ys)
with_item-there key number xs item ys same below above =
    with_item-part key number xs (item ∷ []) ys below above
    ∙ ap (λ i. xs ++ (i ++ ys)) (ap₂ (λ a b. cond a (item ∷ []) [] ++ (record { key = key; number = number } ∷ cond b (item ∷ []) []))
    (not-less item.key same) (not-more item.key same))
  where
    not-less : (k : List ℕ) → k ≡ key → is_less_bytes k key ≡ false
    not-less k is = subst (λ k. is_less_bytes k key ≡ false) (sym is) (less-irreflexive key)

    not-more : (k : List ℕ) → k ≡ key → is_less_bytes key k ≡ false
    not-more k is = subst (λ k. is_less_bytes key k ≡ false) (sym is) (less-irreflexive key)

pub without-there : (key : List ℕ) (xs : List Item) (item : Item) (ys : List Item) → item.key ≡ key
    → AreBelow key xs → AreAbove key ys → without key (xs ++ (item ∷ ys)) ≡ xs ++ ys
without-there key xs item ys same below above =
    without-part key xs (item ∷ []) ys below above
    ∙ ap (λ i. xs ++ (i ++ ys)) (ap₂ (λ a b. cond a (item ∷ []) [] ++ cond b (item ∷ []) [])
    (subst (λ k. is_less_bytes k key ≡ false) (sym same) (less-irreflexive key))
    (subst (λ k. is_less_bytes key k ≡ false) (sym same) (less-irreflexive key)))

-- ---- items from a key on

pub first_from-below : (key : List ℕ) (front rest : List Item) → AreBelow key front
    → first_from key (front ++ rest) ≡ first_from key rest
first_from-below key front rest below =
    find-append_none (is_from key) front rest
    (find-none (is_from key) front (AllByRecursion-weaker (λ (i : Item). is_less_bytes i.key key ≡ true)
    (λ (i : Item). is_from key i ≡ false) front (λ i less. ap not less) below))

pub first_from-all : (key : List ℕ) (items rest : List Item) → 0 < length items
    → AllByRecursion (λ (i : Item). IsFrom key i.key) items → first_from key (items ++ rest) ≡ first_from key items
first_from-all key items rest some from =
    find-all (is_from key) items rest some
    (AllByRecursion-weaker (λ (i : Item). IsFrom key i.key) (λ (i : Item). is_from key i ≡ true) items
    (λ i is. ap not is) from)

-- ---- items between two keys

pub between-below : (low high : List ℕ) (items : List Item) → AreBelow low items → between low high items ≡ []
between-below low high items below =
    filter-none (is_between low high) items
    (AllByRecursion-weaker (λ (i : Item). is_less_bytes i.key low ≡ true) (λ (i : Item). is_between low high i ≡ false) items
    (λ i less. ap (λ b. not b && is_less_bytes i.key high) less) below)

pub between-behind : (low high : List ℕ) (items : List Item) → AllByRecursion (λ (i : Item). IsFrom high i.key) items
    → between low high items ≡ []
between-behind low high items from =
    filter-none (is_between low high) items
    (AllByRecursion-weaker (λ (i : Item). IsFrom high i.key) (λ (i : Item). is_between low high i ≡ false) items
    (λ i is. ap (λ b. not (is_less_bytes i.key low) && b) is ∙ and-false (not (is_less_bytes i.key low))) from)
  where
    and-false : (b : Bool) → b && false ≡ false
    and-false true = refl
    and-false false = refl

pub between-all : (low high : List ℕ) (items : List Item) → AllByRecursion (λ (i : Item). IsFrom low i.key) items
    → AreBelow high items → between low high items ≡ items
between-all low high [] from below = refl
between-all low high (x ∷ items) from below =
    ap₂ (λ a b. cond (not a && b) (x ∷ between low high items) (between low high items)) from.0 below.0
    ∙ ap (λ i. x ∷ i) (between-all low high items from.1 below.1)

-- nothing stands between a key and one that isn't above it
not-between : (low high : List ℕ) (x : Item) → IsFrom high low → is_between low high x ≡ false
not-between low high x none = by (is_less_bytes x.key low) refl
  where
    by : (b : Bool) → is_less_bytes x.key low ≡ b → is_between low high x ≡ false
    by true less = ap (λ a. not a && is_less_bytes x.key high) less
    by false from = ap₂ (λ a b. not a && b) from (IsFrom-trans high low x.key none from)

pub between-nothing : (low high : List ℕ) (items : List Item) → IsFrom high low → between low high items ≡ []
between-nothing low high [] none = refl
between-nothing low high (x ∷ items) none =
    ap (λ b. cond b (x ∷ between low high items) (between low high items)) (not-between low high x none)
    ∙ between-nothing low high items none

pub between-append : (low high : List ℕ) (xs ys : List Item)
    → between low high (xs ++ ys) ≡ between low high xs ++ between low high ys
between-append low high xs ys = filter-append (is_between low high) xs ys

pub between-flat_map : {A : Type 0} (low high : List ℕ) (f : A → List Item) (xs : List A)
    → between low high (flat_map f xs) ≡ flat_map (λ x. between low high (f x)) xs
between-flat_map low high f [] = refl
between-flat_map low high f (x ∷ xs) =
    between-append low high (f x) (flat_map f xs)
    ∙ ap (λ rest. between low high (f x) ++ rest) (between-flat_map low high f xs)
