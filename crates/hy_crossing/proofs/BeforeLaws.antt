-- What holds of each element before a place.
use Rattle.std.proofs.Common.{◌≡◌, ◌≢◌, ℕ, zero, suc, ◌+◌, ◌<◌, ◌≤◌, ◌==◌, true, false, nat_lt, List, [], ◌∷◌, length, Option, None, Some, refl, sym, ◌∙◌, subst, arith}
use Rattle.std.specs.Prelude.{IfSome, slice_get}
use Rattle.std.proofs.lemmas.Bool.{eqb-false, eqb-true, lt-ltb, ltb-true, true≢false}

pub some-any : {Row : Type 0} (F : Row → Type 0) (found : Option Row) → ((row : Row) → F row) → IfSome found F
some-any F None holds = tt
some-any F (Some row) holds = holds row

get-none : {Row : Type 0} (rows : List Row) (place : ℕ) → length rows ≤ place → slice_get rows place ≡ None
get-none [] place past = refl
get-none (row ∷ rows) zero past = absurd (omega (arith, past))
get-none (row ∷ rows) (suc place) past = get-none rows place (omega (arith, past))

module _ {Row : Type 0} (F : ℕ → Row → Type 0) (rows : List Row) (place : ℕ)
    (before : (other : ℕ) → other < place → IfSome (slice_get rows other) (F other)) where
  pub before-more : IfSome (slice_get rows place) (F place) → (other : ℕ) → other < place + 1
      → IfSome (slice_get rows other) (F other)
  before-more here other less =
      elim (other == place) as (λ b. (other == place) ≡ b → IfSome (slice_get rows other) (F other)) [
        | true ↦ λ is. subst (λ n. IfSome (slice_get rows n) (F n)) (sym (eqb-true other place is)) here
        | false ↦ λ not_same.
            let apart : other ≢ place = eqb-false other place not_same in
            before other (omega (arith, apart, less))
      ] refl

  pub before-all : length rows ≤ place → (other : ℕ) → IfSome (slice_get rows other) (F other)
  before-all past other =
      elim (nat_lt other place) as (λ b. nat_lt other place ≡ b → IfSome (slice_get rows other) (F other)) [
        | true ↦ λ is. before other (ltb-true other place is)
        | false ↦ λ no.
            let late : place ≤ other = omega (arith, λ (less : other < place). true≢false (sym (lt-ltb other place less) ∙ no)) in
            subst (λ (found : Option Row). IfSome found (F other)) (sym (get-none rows other (omega (arith, past, late)))) tt
      ] refl
