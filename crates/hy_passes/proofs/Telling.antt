-- When all partitions have been told one after the other, nobody is behind.
use Rattle.std.proofs.Common.{◌≡◌, ◌≢◌, ℕ, zero, suc, ◌<◌, ◌≤◌, Bool, true, false, not, cond, List, [], ◌∷◌, filter, length, refl, sym, subst, arith}
use Rattle.std.specs.Prelude.{All, nat_le, nat_lt, ◌&&◌, ◌==◌}
use Rattle.std.specs.List.{list_all}
use Rattle.std.proofs.lemmas.Bool.{eqb-false, leb-true, not-true}
use Rattle.std.proofs.lemmas.List.Elements.{All-nil, All-cons, All-head, All-tail}
use Rattle.hy_passes.specs.SerialList.{are_warehouses}
use Rattle.hy_passes.specs.Law.{after_telling}
use Rattle.hy_passes.proofs.Totals.{and-both}

-- what holds of all, and what the test says, holds of those that pass
all-left : (P Q : ℕ → Type 0) (p : ℕ → Bool) → ((x : ℕ) → P x → p x ≡ true → Q x) → (xs : List ℕ) → All P xs → All Q (filter p xs)
all-left P Q p step [] all = All-nil Q
all-left P Q p step (x ∷ xs) all = by (p x) refl (all-left P Q p step xs (All-tail P x xs all))
  where
    by : (b : Bool) → p x ≡ b → All Q (filter p xs) → All Q (filter p (x ∷ xs))
    by true is rest = subst (λ b. All Q (cond b (x ∷ filter p xs) (filter p xs))) (sym is) (All-cons Q x (filter p xs) (step x (All-head P x xs all) is) rest)
    by false is rest = subst (λ b. All Q (cond b (x ∷ filter p xs) (filter p xs))) (sym is) rest

above : (n : ℕ) (behind : List ℕ) → All (λ x. 0 < x) behind → All (λ x. n < x) (after_telling n behind)
above zero behind all = all
above (suc n) behind all =
    all-left (λ x. n < x) (λ x. suc n < x) (λ x. not (x == suc n))
    (λ x more isnt. let apart : x ≢ suc n = eqb-false x (suc n) (not-true (x == suc n) isnt) in omega arith)
    (after_telling n behind) (above n behind all)

below : (n most : ℕ) (behind : List ℕ) → All (λ x. x ≤ most) behind → All (λ x. x ≤ most) (after_telling n behind)
below zero most behind all = all
below (suc n) most behind all =
    all-left (λ x. x ≤ most) (λ x. x ≤ most) (λ x. not (x == suc n)) (λ x le _. le) (after_telling n behind) (below n most behind all)

none-between : (n : ℕ) (xs : List ℕ) → All (λ x. n < x) xs → All (λ x. x ≤ n) xs → xs ≡ []
none-between n [] more less = refl
none-between n (x ∷ xs) more less =
    let m = All-head (λ x. n < x) x xs more in let l = All-head (λ x. x ≤ n) x xs less in absurd (omega arith)

within : (last : ℕ) (named : List ℕ) → list_all (λ w. nat_le 1 w && nat_le w last) named ≡ true
    → All (λ x. 0 < x) named × All (λ x. x ≤ last) named
within last [] is = (All-nil (λ x. 0 < x), All-nil (λ x. x ≤ last))
within last (w ∷ named) is =
    let both = and-both (nat_le 1 w && nat_le w last) (list_all (λ w. nat_le 1 w && nat_le w last) named) is in
    let here = and-both (nat_le 1 w) (nat_le w last) both.0 in
    let rest = within last named both.1 in
    let low : 1 ≤ w = leb-true 1 w here.0 in
    let high : w ≤ last = leb-true w last here.1 in
    (All-cons (λ x. 0 < x) w named (omega arith) rest.0, All-cons (λ x. x ≤ last) w named high rest.1)

pub telling-all : (last : ℕ) (named : List ℕ) → are_warehouses last named ≡ true → after_telling last named ≡ []
telling-all last named is =
    let all = within last named (and-both (nat_lt 0 (length named)) (list_all (λ w. nat_le 1 w && nat_le w last) named) is).1 in
    none-between last (after_telling last named) (above last named all.0) (below last last named all.1)
