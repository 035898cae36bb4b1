-- How many of the first warehouses a command names.
use Rattle.std.proofs.Common.{◌≡◌, ◌⊎◌, ℕ, zero, suc, ◌+◌, ◌-◌, ◌<◌, ◌≤◌, inl, inr, Bool, true, false, cond, refl, ap, subst, arith}
use Rattle.hy_commands.specs.declared.command.Command.{Command}
use Rattle.hy_crossing.specs.Crossings.{is_named}
use Rattle.hy_crossing.specs.Unsettled.{named_before, one_if_named}

pub one-here : (command : Command) (number : ℕ) → is_named command number ≡ true → one_if_named command number ≡ 1
one-here command number named = ap {B = ℕ} (λ (b : Bool). cond b 1 0) named

pub one-other : (command : Command) (number : ℕ) → is_named command number ≡ false → one_if_named command number ≡ 0
one-other command number unnamed = ap {B = ℕ} (λ (b : Bool). cond b 1 0) unnamed

one-small : (command : Command) (number : ℕ) → one_if_named command number ≤ 1
one-small command number =
    elim (is_named command number) as (λ b. is_named command number ≡ b → one_if_named command number ≤ 1) [
      | true ↦ λ named. omega (arith, one-here command number named)
      | false ↦ λ unnamed. omega (arith, one-other command number unnamed)
    ] refl

-- one place more
pub before-more : (command : Command) (place : ℕ)
    → named_before command (place + 1) ≡ named_before command place + one_if_named command (place + 1)
before-more command place =
    let next : suc place ≡ place + 1 = omega arith in
    subst (λ n. named_before command n ≡ named_before command place + one_if_named command n) next refl

-- the same behind a place that isn't named
pub before-same : (command : Command) (place : ℕ) → is_named command (place + 1) ≡ false
    → named_before command (place + 1) ≡ named_before command place
before-same command place unnamed = omega (arith, before-more command place, one-other command (place + 1) unnamed)

-- no more than there are
pub before-few : (command : Command) (place : ℕ) → named_before command place ≤ place
before-few command zero = omega arith
before-few command (suc place) = omega (arith, before-few command place, one-small command (suc place))

grows-by : (command : Command) (place more : ℕ) → named_before command place ≤ named_before command (place + more)
grows-by command place zero =
    let same : place + 0 ≡ place = omega arith in
    omega (arith, ap (named_before command) same)
grows-by command place (suc more) =
    let next : place + suc more ≡ place + more + 1 = omega arith in
    omega (arith, grows-by command place more, before-more command (place + more), ap (named_before command) next)

-- no fewer behind a place further on
pub before-grows : (command : Command) (place end : ℕ) → place ≤ end → named_before command place ≤ named_before command end
before-grows command place end within =
    let behind : place + (end - place) ≡ end = omega (arith, within) in
    omega (arith, grows-by command place (end - place), ap (named_before command) behind)

-- one that is named is among those before a place behind it
pub before-has : (command : Command) (number place : ℕ) → 1 ≤ number → number ≤ place → is_named command number ≡ true
    → 1 ≤ named_before command place
before-has command zero place first within named = absurd (omega (arith, first))
before-has command (suc number) place first within named =
    omega (arith, before-grows command (suc number) place within, one-here command (suc number) named)

below-or-not : (one other : ℕ) → (one < other) ⊎ (other ≤ one)
below-or-not one zero = inr (omega arith)
below-or-not zero (suc other) = inl (omega arith)
below-or-not (suc one) (suc other) = elim (below-or-not one other) [
  | inl below ↦ inl (omega (arith, below))
  | inr behind ↦ inr (omega (arith, behind))
]

-- the warehouse that replies is among those before a place, or there is no reply so far
pub none-or-some : (command : Command) (number place : ℕ) (Nothing : Type 0) → 1 ≤ number → is_named command number ≡ true
    → (place < number → Nothing) → Nothing ⊎ (1 ≤ named_before command place)
none-or-some command number place None first named early = elim (below-or-not place number) [
  | inl before ↦ inl (early before)
  | inr behind ↦ inr (before-has command number place first behind named)
]
