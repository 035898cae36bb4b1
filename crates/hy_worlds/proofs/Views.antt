-- What holds of each seat's view, after one was changed or one came behind the last.
use Rattle.std.proofs.Common.{◌≡◌, ◌≢◌, ℕ, zero, suc, List, [], ◌∷◌, ◌++◌, length, set, ⊎_elim, sym, subst}
use mathlib.Core.Option.{some, some-injective, some-ne-none}
use lib.ListN.{get_elem?}
use Rattle.atomic_table.proofs.Lists.{at_set}

-- what holds of each place holds after one was set
pub each_set : {A : Type 0} (P : ℕ → A → Type 0) (xs : List A) (i : ℕ) (y : A)
    → ((j : ℕ) (x : A) → j ≢ i → get_elem? xs j ≡ some x → P j x) → P i y
    → (j : ℕ) (x : A) → get_elem? (set xs i y) j ≡ some x → P j x
each_set P xs i y others mine j x at =
    ⊎_elim
    (λ (t : (j ≡ i) × (y ≡ x)). subst (λ k. P k x) (sym t.0) (subst (λ z. P i z) t.1 mine))
    (λ (t : (j ≢ i) × (get_elem? xs j ≡ some x)). others j x t.0 t.1)
    (at_set xs i j y x at)

-- and after one came behind the last
pub each_more : {A : Type 0} (P : ℕ → A → Type 0) (xs : List A) (y : A)
    → ((j : ℕ) (x : A) → get_elem? xs j ≡ some x → P j x) → P (length xs) y
    → (j : ℕ) (x : A) → get_elem? (xs ++ y ∷ []) j ≡ some x → P j x
each_more P [] y others mine zero x at = subst (λ z. P 0 z) (some-injective y x at) mine
each_more P [] y others mine (suc j) x at = absurd (some-ne-none x (sym at))
each_more P (z ∷ xs) y others mine zero x at = others zero x at
each_more P (z ∷ xs) y others mine (suc j) x at =
    each_more (λ k. P (suc k)) xs y (λ k w e. others (suc k) w e) mine j x at
