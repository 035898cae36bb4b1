-- A name among those of the snapshots that were looked at.
use Rattle.std.proofs.Common.{◌≡◌, ◌≢◌, ◌+◌, ◌<◌, ◌≤◌, ℕ, zero, suc, List, [], ◌∷◌, Option, None, Some, IsSomeAnd, length, slice_get, arith, inl, inr, refl, subst, sym}
use Rattle.std.proofs.lemmas.Bool.{cases_lt}
use Rattle.hy_script.specs.Databases.{HasName, IsNameAt, OpenSnapshot}

module _ (snapshots : List OpenSnapshot) (name : List ℕ) where
  abbrev pub IsNoneBefore : ℕ → Type 0
  IsNoneBefore place = (before : ℕ) → before < place → ¬ IsNameAt snapshots name before

  -- the one at a place
  pub name_here : (place : ℕ) (other : OpenSnapshot) → slice_get snapshots place ≡ Some other → other.name ≡ name
      → IsNameAt snapshots name place
  name_here place other there same =
      subst (λ (it : Option OpenSnapshot). IsSomeAnd it (λ s. s.name ≡ name)) (sym there) same

  -- none of those before, and not the next one
  pub none_more : (place : ℕ) (other : OpenSnapshot) → slice_get snapshots place ≡ Some other → other.name ≢ name
      → IsNoneBefore place → IsNoneBefore (place + 1)
  none_more place other there differs none before within at = elim (cases_lt before place) [
    | inl less ↦ none before less at
    | inr most ↦ let same : before ≡ place = omega (arith, within, most) in
        let here : IsNameAt snapshots name place = rw same at at in
        differs (subst (λ (it : Option OpenSnapshot). IsSomeAnd it (λ s. s.name ≡ name)) there here)
  ]

  past_is_none : (all : List OpenSnapshot) (place : ℕ) → length all ≤ place → slice_get all place ≡ None
  past_is_none [] place past = refl
  past_is_none (x ∷ xs) zero past = absurd (omega (arith, past))
  past_is_none (x ∷ xs) (suc place) past = past_is_none xs place (omega (arith, past))

  -- none at all
  pub none_at_all : (place : ℕ) → length snapshots ≤ place → IsNoneBefore place → ¬ HasName snapshots name
  none_at_all place past none has = elim (cases_lt has.0 place) [
    | inl less ↦ none has.0 less has.1
    | inr most ↦
        let nothing = past_is_none snapshots has.0 (omega (arith, past, most)) in
        subst (λ (it : Option OpenSnapshot). IsSomeAnd it (λ s. s.name ≡ name)) nothing has.1
  ]
