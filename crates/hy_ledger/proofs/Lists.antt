-- Views by seat, and what they come to.
use Rattle.std.proofs.Common.{◌≡◌, ◌≢◌, ℕ, zero, suc, ◌+◌, ◌≤◌, ◌==◌, cond, List, [], ◌∷◌, ◌++◌, length, set, ⊎_elim, ap, sym, subst, arith}
use mathlib.Core.Option.{some, some-injective, some-ne-none}
use lib.ListN.{get_elem?}
use Rattle.atomic_table.proofs.Lists.{at_set}
use Rattle.hy_ledger.specs.declared.view.ShareState.{ShareState}
use Rattle.hy_ledger.specs.declared.view.View.{View}
use Rattle.hy_ledger.specs.Law.{total, weigh, weigh_own}

-- what holds of each place holds after one was set
pub each_set : {A : Type 0} (P : ℕ → A → Type 0) (xs : List A) (i : ℕ) (y : A)
    → ((j : ℕ) (x : A) → j ≢ i → get_elem? xs j ≡ some x → P j x) → P i y
    → (j : ℕ) (x : A) → get_elem? (set xs i y) j ≡ some x → P j x
each_set P xs i y others mine j x at =
    ⊎_elim
    (λ (t : (j ≡ i) × (y ≡ x)). subst (λ k. P k x) (sym t.0) (subst (λ z. P i z) t.1 mine))
    (λ (t : (j ≢ i) × (get_elem? xs j ≡ some x)). others j x t.0 t.1)
    (at_set xs i j y x at)

-- and after one came behind the last
pub each_more : {A : Type 0} (P : ℕ → A → Type 0) (xs : List A) (y : A)
    → ((j : ℕ) (x : A) → get_elem? xs j ≡ some x → P j x) → P (length xs) y
    → (j : ℕ) (x : A) → get_elem? (xs ++ y ∷ []) j ≡ some x → P j x
each_more P [] y others mine zero x at = subst (λ z. P 0 z) (some-injective y x at) mine
each_more P [] y others mine (suc j) x at = absurd (some-ne-none x (sym at))
each_more P (z ∷ xs) y others mine zero x at = others zero x at
each_more P (z ∷ xs) y others mine (suc j) x at =
    each_more (λ k. P (suc k)) xs y (λ k w e. others (suc k) w e) mine j x at

-- what all come to, after one was set
pub total-set : (f : View → ℕ) (views : List View) (i : ℕ) (v w : View) → get_elem? views i ≡ some v
    → total f (set views i w) + f v ≡ total f views + f w
total-set f [] i v w at = absurd (some-ne-none v (sym at))
total-set f (u ∷ views) zero v w at =
    let e : f u ≡ f v = ap f (some-injective u v at) in omega (arith, e)
total-set f (u ∷ views) (suc i) v w at = let e = total-set f views i v w at in omega arith

-- and after one came behind the last
pub total-more : (f : View → ℕ) (views : List View) (w : View) → total f (views ++ w ∷ []) ≡ total f views + f w
total-more f [] w = omega arith
total-more f (u ∷ views) w = let e = total-more f views w in omega arith

-- one is no more than all
pub total-at : (f : View → ℕ) (views : List View) (i : ℕ) (v : View) → get_elem? views i ≡ some v → f v ≤ total f views
total-at f [] i v at = absurd (some-ne-none v (sym at))
total-at f (u ∷ views) zero v at = let e : f u ≡ f v = ap f (some-injective u v at) in omega (arith, e)
total-at f (u ∷ views) (suc i) v at = let e = total-at f views i v at in omega arith

pub weigh-append : (h : ℕ → ℕ) (xs ys : List ℕ) → weigh h (xs ++ ys) ≡ weigh h xs + weigh h ys
weigh-append h [] ys = omega arith
weigh-append h (x ∷ xs) ys = let e = weigh-append h xs ys in omega arith

pub weigh_own-append : (h : ℕ → ℕ) (w : ℕ) (xs ys : List ShareState)
    → weigh_own h w (xs ++ ys) ≡ weigh_own h w xs + weigh_own h w ys
weigh_own-append h w [] ys = omega arith
weigh_own-append h w (x ∷ xs) ys =
    let e = weigh_own-append h w xs ys in
    let n : ℕ = cond (x.warehouse == w) (h x.cents) 0 in
    let here : n + weigh_own h w (xs ++ ys) ≡ n + weigh_own h w xs + weigh_own h w ys = omega arith in
    here
