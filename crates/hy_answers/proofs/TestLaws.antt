-- Tests.
use Rattle.std.proofs.Common.{◌≡◌, ◌≢◌, ◌==◌, ◌||◌, ℕ, Bool, true, false, refl, arith}
use Rattle.std.proofs.lemmas.Bool.{true≢false}
use Rattle.std.proofs.lemmas.Bool.Decides.{nat_tests}

pub or-true : (b : Bool) → (b || true) ≡ true
or-true true = refl
or-true false = refl

pub or-false : (b : Bool) → (b || false) ≡ b
or-false true = refl
or-false false = refl

-- where one of two doesn't hold, neither does
pub none-parts : (a b : Bool) → (a || b) ≡ false → (a ≡ false) × (b ≡ false)
none-parts true b h = absurd (true≢false h)
none-parts false b h = (refl, h)

pub same-number : (n : ℕ) → (n == n) ≡ true
same-number n = grind (arith, nat_tests)

pub other-number : (m n : ℕ) → m ≢ n → (m == n) ≡ false
other-number m n other = grind (arith, nat_tests)
