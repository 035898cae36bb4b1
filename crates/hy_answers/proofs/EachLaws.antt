-- What holds of each element of a list.
use Rattle.std.proofs.Common.{◌<◌, ℕ, zero, suc, Bool, true, false, All, cond, List, [], ◌∷◌, ◌++◌, filter, length, get_or, map, arith, suc-le-suc, zero-le}
use Rattle.std.specs.List.{AllByRecursion, flat_map}

module _ {X : Type 0} (P : X → Type 0) where
  pub each-append : (xs ys : List X) → AllByRecursion P xs → AllByRecursion P ys → AllByRecursion P (xs ++ ys)
  each-append [] ys each others = others
  each-append (x ∷ xs) ys each others = (each.0, each-append xs ys each.1 others)

  pub each-push : (xs : List X) (x : X) → AllByRecursion P xs → P x → AllByRecursion P (xs ++ x ∷ [])
  each-push xs x each this = each-append xs (x ∷ []) each (this, tt)

  pub each-parts : (xs ys : List X) → AllByRecursion P (xs ++ ys) → AllByRecursion P xs × AllByRecursion P ys
  each-parts [] ys each = (tt, each)
  each-parts (x ∷ xs) ys each =
      let later = each-parts xs ys each.1 in ((each.0, later.0), later.1)

  pub each-filter : (p : X → Bool) (xs : List X) → AllByRecursion P xs → AllByRecursion P (filter p xs)
  each-filter p [] each = tt
  each-filter p (x ∷ xs) each = by (p x) (each-filter p xs each.1)
    where
      by : (b : Bool) → AllByRecursion P (filter p xs) → AllByRecursion P (cond b (x ∷ filter p xs) (filter p xs))
      by true later = (each.0, later)
      by false later = later

  pub each-made : {Y : Type 0} (f : Y → X) (ys : List Y) → ((y : Y) → P (f y)) → AllByRecursion P (map f ys)
  each-made f [] h = tt
  each-made f (y ∷ ys) h = (h y, each-made f ys h)

  -- of joined lists, and of the lists that are joined
  pub each-joined : {Y : Type 0} (f : Y → List X) (ys : List Y) → AllByRecursion (λ y. AllByRecursion P (f y)) ys
      → AllByRecursion P (flat_map f ys)
  each-joined f [] each = tt
  each-joined f (y ∷ ys) each = each-append (f y) (flat_map f ys) each.0 (each-joined f ys each.1)

  pub each-flat_map : {Y : Type 0} (f : Y → List X) (ys : List Y) → AllByRecursion P (flat_map f ys)
      → AllByRecursion (λ y. AllByRecursion P (f y)) ys
  each-flat_map f [] each = tt
  each-flat_map f (y ∷ ys) each =
      let parts = each-parts (f y) (flat_map f ys) each in (parts.0, each-flat_map f ys parts.1)

  pub each-at : (xs : List X) (k : ℕ) (d : X) → AllByRecursion P xs → k < length xs → P (get_or xs k d)
  each-at [] k d each within = absurd (omega arith)
  each-at (x ∷ xs) zero d each within = each.0
  each-at (x ∷ xs) (suc k) d each within = each-at xs k d each.1 (omega arith)

module _ {X : Type 0} (P Q : X → Type 0) where
  pub each-weaker : (xs : List X) → ((x : X) → P x → Q x) → AllByRecursion P xs → AllByRecursion Q xs
  each-weaker [] f each = tt
  each-weaker (x ∷ xs) f each = (f x each.0, each-weaker xs f each.1)

  -- from what holds at each place
  pub each-of : ((x : X) → P x → Q x) → (xs : List X) → All P xs → AllByRecursion Q xs
  each-of f [] all = tt
  each-of f (x ∷ xs) all =
      (f x (all zero x (suc-le-suc zero-le)), each-of f xs (λ k d l. all (suc k) d (suc-le-suc l)))

  pub each-both : (R : X → Type 0) → ((x : X) → P x → Q x → R x) → (xs : List X) → AllByRecursion P xs
      → AllByRecursion Q xs → AllByRecursion R xs
  each-both R f [] each others = tt
  each-both R f (x ∷ xs) each others = (f x each.0 others.0, each-both R f xs each.1 others.1)
