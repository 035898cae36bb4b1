-- Lists: numbers in order, filters, and what holds of each element.
use Rattle.std.proofs.Common.{◌≡◌, inl, inr, ◌∙◌, ◌+◌, ◌<◌, ℕ, zero, suc, Bool, true, false, cond, List, [], ◌∷◌, ◌++◌, length, get_or, filter, fold, map, refl, sym, subst, ap, add-one, arith}
use Rattle.std.proofs.lemmas.List.{get_or-map, get_or_append_left, get_or_push, length_push, map-append}
use Rattle.std.proofs.lemmas.Bool.{cases_eq}
use Rattle.std.specs.List.{AllByRecursion}
use Rattle.hy_tallies.specs.Numbers.{upto}

pub length-upto : (count : ℕ) → length (upto count) ≡ count
length-upto zero = refl
length-upto (suc count) = length_push (upto count) count ∙ ap (λ n. n + 1) (length-upto count) ∙ add-one count

pub get_or-upto : (count k d : ℕ) → k < count → get_or (upto count) k d ≡ k
get_or-upto zero k d l = absurd (omega arith)
get_or-upto (suc count) k d l = elim (cases_eq k count) [
  | inl is ↦ get_or_push (upto count) count d k (length-upto count ∙ sym is) ∙ sym is
  | inr other ↦
      get_or_append_left (upto count) (count ∷ []) d k (omega (arith, length-upto count))
      ∙ get_or-upto count k d (omega arith)
]

pub map-at : {S : Type 0} (f : ℕ → S) (count k : ℕ) (d : S) → k < count → get_or (map f (upto count)) k d ≡ f k
map-at f count k d l =
    get_or-map f (upto count) k 0 d (omega (arith, length-upto count)) ∙ ap f (get_or-upto count k 0 l)

-- what holds at each place below a number holds of lists of these places
pub map-upto : {X : Type 0} (f g : ℕ → X) (count : ℕ) → ((k : ℕ) → k < count → f k ≡ g k)
    → map f (upto count) ≡ map g (upto count)
map-upto f g zero h = refl
map-upto f g (suc count) h =
    map-append f (upto count) (count ∷ [])
    ∙ (λ i. map-upto f g count (λ k l. h k (omega arith)) i ++ h count (omega arith) i ∷ [])
    ∙ sym (map-append g (upto count) (count ∷ []))

pub filter-append : {X : Type 0} (p : X → Bool) (xs ys : List X) → filter p (xs ++ ys) ≡ filter p xs ++ filter p ys
filter-append p [] ys = refl
filter-append p (x ∷ xs) ys = by (p x) (filter-append p xs ys)
  where
    by : (b : Bool) → filter p (xs ++ ys) ≡ filter p xs ++ filter p ys
        → cond b (x ∷ filter p (xs ++ ys)) (filter p (xs ++ ys)) ≡ cond b (x ∷ filter p xs) (filter p xs) ++ filter p ys
    by true e = ap (λ list. x ∷ list) e
    by false e = e

pub map-map : {X Y Z : Type 0} (f : Y → Z) (g : X → Y) (xs : List X) → map f (map g xs) ≡ map (λ x. f (g x)) xs
map-map f g [] = refl
map-map f g (x ∷ xs) = ap (λ list. f (g x) ∷ list) (map-map f g xs)

-- a fold with one element more
pub fold-push : {A B : Type 0} (f : B → A → B) (start : B) (xs : List A) (x : A)
    → fold f start (xs ++ x ∷ []) ≡ f (fold f start xs) x
fold-push f start [] x = refl
fold-push f start (y ∷ ys) x = fold-push f (f start y) ys x

pub fold-append : {A B : Type 0} (f : B → A → B) (start : B) (xs ys : List A)
    → fold f start (xs ++ ys) ≡ fold f (fold f start xs) ys
fold-append f start [] ys = refl
fold-append f start (x ∷ xs) ys = fold-append f (f start x) xs ys

-- what stands behind a front
pub at_seam : {X : Type 0} (front : List X) (x : X) (later : List X) (d : X)
    → get_or (front ++ x ∷ later) (length front) d ≡ x
at_seam [] x later d = refl
at_seam (first ∷ front) x later d = at_seam front x later d

module _ {X : Type 0} (P : X → Type 0) where
  pub each-append : (xs ys : List X) → AllByRecursion P xs → AllByRecursion P ys → AllByRecursion P (xs ++ ys)
  each-append [] ys each others = others
  each-append (x ∷ xs) ys each others = (each.0, each-append xs ys each.1 others)

  pub each-filter : (p : X → Bool) (xs : List X) → AllByRecursion P xs → AllByRecursion P (filter p xs)
  each-filter p [] each = tt
  each-filter p (x ∷ xs) each = by (p x) (each-filter p xs each.1)
    where
      by : (b : Bool) → AllByRecursion P (filter p xs) → AllByRecursion P (cond b (x ∷ filter p xs) (filter p xs))
      by true later = (each.0, later)
      by false later = later

  pub each-made : {Y : Type 0} (f : Y → X) (ys : List Y) → ((y : Y) → P (f y)) → AllByRecursion P (map f ys)
  each-made f [] h = tt
  each-made f (y ∷ ys) h = (h y, each-made f ys h)

-- maps that agree on each
pub map-same : {X Y : Type 0} (P : X → Type 0) (f g : X → Y) (xs : List X) → AllByRecursion P xs
    → ((x : X) → P x → f x ≡ g x) → map f xs ≡ map g xs
map-same P f g [] each h = refl
map-same P f g (x ∷ xs) each h = λ i. h x each.0 i ∷ map-same P f g xs each.1 h i

pub each-weaker : {X : Type 0} (P Q : X → Type 0) (xs : List X) → ((x : X) → P x → Q x) → AllByRecursion P xs
    → AllByRecursion Q xs
each-weaker P Q [] f each = tt
each-weaker P Q (x ∷ xs) f each = (f x each.0, each-weaker P Q xs f each.1)

-- what holds of what is made of each number below one
pub each-upto : {X : Type 0} (P : X → Type 0) (f : ℕ → X) (count : ℕ) → ((k : ℕ) → k < count → P (f k))
    → AllByRecursion P (map f (upto count))
each-upto P f zero h = tt
each-upto P f (suc count) h =
    subst (AllByRecursion P) (sym (map-append f (upto count) (count ∷ [])))
    (each-append P (map f (upto count)) (f count ∷ []) (each-upto P f count (λ k l. h k (omega arith)))
    (h count (omega arith), tt))

pub each-parts : {X : Type 0} (P : X → Type 0) (xs ys : List X) → AllByRecursion P (xs ++ ys)
    → AllByRecursion P xs × AllByRecursion P ys
each-parts P [] ys each = (tt, each)
each-parts P (x ∷ xs) ys each =
    let later = each-parts P xs ys each.1 in ((each.0, later.0), later.1)
