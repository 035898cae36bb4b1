-- What the commits of the tests name: one warehouse, or two that differ.
use Rattle.std.specs.Prelude.{◌≡◌, ◌≢◌, ℕ, ◌==◌, ◌||◌, true, false, if◌then◌else◌, List, [], ◌∷◌, refl}
use Rattle.std.specs.List.{AllPairs}
use Rattle.std.proofs.Common.{arith, cond, sym}
use Rattle.std.proofs.lemmas.Bool.{eqb-false, or_parts}
use Rattle.std.proofs.lemmas.List.Elements.{All-cons, All-nil}
use Rattle.std.proofs.lemmas.List.Kept.{AllPairs-cons}

-- the home, and the other behind it unless that is 0 or the home again
abbrev pub home_and_other : ℕ → ℕ → List ℕ
home_and_other home other = if other == 0 || other == home then home ∷ [] else home ∷ other ∷ []

pub once-home_and_other : (home other : ℕ) → AllPairs (λ one two. one ≢ two) (home_and_other home other)
once-home_and_other home other =
    elim (other == 0 || other == home) as (λ b. (other == 0 || other == home) ≡ b
    → AllPairs (λ one two. one ≢ two) (cond b (home ∷ []) (home ∷ other ∷ []))) [
      | true ↦ λ left_out. λ i j d before within. absurd (omega arith)
      | false ↦ λ both.
          let parts = or_parts (other == 0) (other == home) both in
          AllPairs-cons (λ one two. one ≢ two) home (other ∷ [])
          (All-cons (λ two. home ≢ two) other [] (λ same. eqb-false other home parts.1 (sym same))
          (All-nil (λ two. home ≢ two)))
          (λ i j d before within. absurd (omega arith))
    ] refl
