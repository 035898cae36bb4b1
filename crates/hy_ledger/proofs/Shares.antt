-- Shares of one warehouse, and of the first ones.
use Rattle.std.proofs.Common.{◌≡◌, ℕ, zero, suc, ◌+◌, ◌*◌, ◌<◌, ◌≤◌, ◌==◌, Bool, true, false, cond, List, [], ◌∷◌, ◌++◌, length, refl, ap, ◌∙◌, arith, eq-eqb, ne_eqb, lt_of_not-le}
use Rattle.std.specs.Prelude.{All, nat_le}
use Rattle.std.proofs.lemmas.Bool.{le-leb, lt-leb}
use Rattle.std.proofs.lemmas.List.Elements.{All-nil, All-cons, All-head, All-tail}
use mathlib.Core.Logic.{dite}
use native.Mathlib.Decide.{dec_le, ℕ_discrete}
use Rattle.hy_ledger.specs.declared.view.ShareState.{ShareState}
use Rattle.hy_ledger.specs.Books.{cents_of, max_cents, max_commits, own}
use Rattle.hy_ledger.specs.Inside.{max_warehouse, up_to, IsGiven}
use Rattle.hy_ledger.specs.Law.{weigh_own}
use Rattle.hy_worlds.specs.Origins.{Origin}

-- what a share adds, where it is one of those that are looked at
length-if : (b : Bool) (share : ShareState) (shares : List ShareState)
    → length (cond b (share ∷ shares) shares) ≡ cond b 1 0 + length shares
length-if true share shares = omega arith
length-if false share shares = omega arith

cents-if : (b : Bool) (share : ShareState) (shares : List ShareState)
    → cents_of (cond b (share ∷ shares) shares) ≡ cond b share.cents 0 + cents_of shares
cents-if true share shares = refl
cents-if false share shares = omega arith

pub length-own : (w : ℕ) (shares : List ShareState) → weigh_own (λ _. 1) w shares ≡ length (own w shares)
length-own w [] = refl
length-own w (share ∷ shares) =
    let n : ℕ = cond (share.warehouse == w) 1 0 in
    let a = length-own w shares in
    let b : length (own w (share ∷ shares)) ≡ n + length (own w shares) = length-if (share.warehouse == w) share (own w shares) in
    let c : n + weigh_own (λ _. 1) w shares ≡ length (own w (share ∷ shares)) = omega arith in
    c

pub cents-own : (w : ℕ) (shares : List ShareState) → weigh_own (λ c. c) w shares ≡ cents_of (own w shares)
cents-own w [] = refl
cents-own w (share ∷ shares) =
    let n : ℕ = cond (share.warehouse == w) share.cents 0 in
    let a = cents-own w shares in
    let b : cents_of (own w (share ∷ shares)) ≡ n + cents_of (own w shares) = cents-if (share.warehouse == w) share (own w shares) in
    let c : n + weigh_own (λ c. c) w shares ≡ cents_of (own w (share ∷ shares)) = omega arith in
    c

-- the first warehouses with one more are those and the next one
next : (w n x : ℕ) → cond (nat_le w (suc n)) x 0 ≡ cond (nat_le w n) x 0 + cond (w == suc n) x 0
next w n x =
    dite (dec_le w n)
    (λ less.
    let a : cond (nat_le w (suc n)) x 0 ≡ x = ap (λ b. cond b x 0) (le-leb w (suc n) (omega arith)) in
    let b : cond (nat_le w n) x 0 ≡ x = ap (λ b. cond b x 0) (le-leb w n less) in
    let c : cond (w == suc n) x 0 ≡ 0 = ap (λ b. cond b x 0) (ne_eqb w (suc n) (λ e. omega arith)) in
    omega arith)
    (λ more.
    let above : n < w = lt_of_not-le more in
    let b : cond (nat_le w n) x 0 ≡ 0 = ap (λ b. cond b x 0) (lt-leb w n above) in
    dite (ℕ_discrete w (suc n))
    (λ e.
    let a : cond (nat_le w (suc n)) x 0 ≡ x = ap (λ b. cond b x 0) (le-leb w (suc n) (omega arith)) in
    let c : cond (w == suc n) x 0 ≡ x = ap (λ b. cond b x 0) (eq-eqb w (suc n) e) in
    omega arith)
    (λ apart.
    let a : cond (nat_le w (suc n)) x 0 ≡ 0 = ap (λ b. cond b x 0) (lt-leb w (suc n) (omega arith)) in
    let c : cond (w == suc n) x 0 ≡ 0 = ap (λ b. cond b x 0) (ne_eqb w (suc n) apart) in
    omega arith))

pub length-up_to : (n : ℕ) (shares : List ShareState)
    → length (up_to (suc n) shares) ≡ length (up_to n shares) + length (own (suc n) shares)
length-up_to n [] = refl
length-up_to n (s ∷ shares) =
    let a = length-if (nat_le s.warehouse (suc n)) s (up_to (suc n) shares) in
    let b = length-if (nat_le s.warehouse n) s (up_to n shares) in
    let c = length-if (s.warehouse == suc n) s (own (suc n) shares) in
    let d = next s.warehouse n 1 in
    let e = length-up_to n shares in
    omega arith

pub cents-up_to : (n : ℕ) (shares : List ShareState)
    → cents_of (up_to (suc n) shares) ≡ cents_of (up_to n shares) + cents_of (own (suc n) shares)
cents-up_to n [] = refl
cents-up_to n (s ∷ shares) =
    let a = cents-if (nat_le s.warehouse (suc n)) s (up_to (suc n) shares) in
    let b = cents-if (nat_le s.warehouse n) s (up_to n shares) in
    let c = cents-if (s.warehouse == suc n) s (own (suc n) shares) in
    let d = next s.warehouse n s.cents in
    let e = cents-up_to n shares in
    omega arith

-- no share is of a warehouse before the first
pub up_to-none : (shares : List ShareState) → All (λ s. 1 ≤ s.warehouse) shares → up_to 0 shares ≡ []
up_to-none [] all = refl
up_to-none (s ∷ shares) all =
    let first = All-head (λ (s : ShareState). 1 ≤ s.warehouse) s shares all in
    ap (λ b. cond b (s ∷ up_to 0 shares) (up_to 0 shares)) (lt-leb s.warehouse 0 (omega arith))
    ∙ up_to-none shares (All-tail (λ (s : ShareState). 1 ≤ s.warehouse) s shares all)

-- and none is of one behind the last
pub up_to-all : (n : ℕ) (shares : List ShareState) → All (λ s. s.warehouse ≤ n) shares → up_to n shares ≡ shares
up_to-all n [] all = refl
up_to-all n (s ∷ shares) all =
    ap (λ b. cond b (s ∷ up_to n shares) (up_to n shares)) (le-leb s.warehouse n (All-head (λ (s : ShareState). s.warehouse ≤ n) s shares all))
    ∙ ap (λ l. s ∷ l) (up_to-all n shares (All-tail (λ (s : ShareState). s.warehouse ≤ n) s shares all))

-- what holds of all, in a weaker form
pub All-map : {X : Type 0} (P Q : X → Type 0) → ((x : X) → P x → Q x) → (xs : List X) → All P xs → All Q xs
All-map P Q f [] all = All-nil Q
All-map P Q f (x ∷ xs) all = All-cons Q x xs (f x (All-head P x xs all)) (All-map P Q f xs (All-tail P x xs all))

few-up_to : (n : ℕ) (shares : List ShareState) → All (λ s. 1 ≤ s.warehouse) shares
    → ((w : ℕ) → weigh_own (λ _. 1) w shares ≤ max_commits) → length (up_to n shares) ≤ n * max_commits
few-up_to zero shares all few = let e = ap length (up_to-none shares all) in omega arith
few-up_to (suc n) shares all few =
    let a = length-up_to n shares in
    let b = length-own (suc n) shares in
    let c = few (suc n) in
    let d = few-up_to n shares all few in
    omega arith

-- where no warehouse has more shares than a book can give, there are no more than all books can give
pub few-shares : (kit : Origin) (shares : List ShareState) → All (IsGiven kit) shares
    → ((w : ℕ) → weigh_own (λ _. 1) w shares ≤ max_commits) → length shares ≤ max_warehouse * max_commits
few-shares kit shares given few =
    let a = ap length (up_to-all max_warehouse shares (All-map (IsGiven kit) (λ (s : ShareState). s.warehouse ≤ max_warehouse) (λ s g. g.1) shares given)) in
    let b = few-up_to max_warehouse shares (All-map (IsGiven kit) (λ (s : ShareState). 1 ≤ s.warehouse) (λ s g. g.0.0) shares given) few in
    omega arith

pub cents-append : (xs ys : List ShareState) → cents_of (xs ++ ys) ≡ cents_of xs + cents_of ys
cents-append [] ys = omega arith
cents-append (x ∷ xs) ys = let e = cents-append xs ys in omega arith

-- no share has more than so many cents
pub small-shares : (kit : Origin) (shares : List ShareState) → All (IsGiven kit) shares
    → cents_of shares ≤ max_cents * length shares
small-shares kit [] given = omega arith
small-shares kit (s ∷ shares) given =
    let a = (All-head (IsGiven kit) s shares given).2 in
    let b = small-shares kit shares (All-tail (IsGiven kit) s shares given) in
    omega arith
