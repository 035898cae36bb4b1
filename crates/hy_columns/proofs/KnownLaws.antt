-- What is known of each of some lists.
use Rattle.std.proofs.Common.{◌≡◌, ℕ, ◌+◌, ◌<◌, ◌≤◌, ◌⊎◌, inl, inr, List, sym, subst, arith}
use Rattle.std.proofs.lemmas.Bool.{cases_lt}
use Rattle.hy_rows.specs.Spelling.{list_at}

-- of one list more
pub known-more : {Item : Type 0} (P : List Item → Type 0) (lists : List (List Item)) (index : ℕ)
    → ((place : ℕ) → place < index → P (list_at lists place)) → P (list_at lists index)
    → (place : ℕ) → place < index + 1 → P (list_at lists place)
known-more P lists index before here place below = by_order (cases_lt place index)
  where
    by_order : (place < index) ⊎ (index ≤ place) → P (list_at lists place)
    by_order (inl less) = before place less
    by_order (inr more) =
        let same : place ≡ index = omega (arith, more, below) in
        subst (λ (place : ℕ). P (list_at lists place)) (sym same) here
