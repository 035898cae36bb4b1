-- Sums of sorted lists.
use Rattle.std.proofs.Common.{◌≡◌, ℤ, ◌+ℤ◌, Bool, true, false, cond, List, [], ◌∷◌, refl, sym, ap, ◌∙◌, arith}
use Rattle.std.proofs.lemmas.Int.{ints}
use Rattle.hy_schema.specs.Conditions.{column_sum}
use Rattle.hy_commands.specs.Sorting.{inserted, sorted}
use Rattle.hy_commands.proofs.ListLaws.{column_sum-cons}

module _ {Item : Type 0} (less : Item → Item → Bool) where
  pub column_sum-sorted : (column : Item → ℤ) (items : List Item)
      → column_sum column (sorted less items) ≡ column_sum column items
  column_sum-sorted column [] = refl
  column_sum-sorted column (first ∷ items) =
      column_sum-inserted (sorted less items)
      ∙ ap (λ sum. column first +ℤ sum) (column_sum-sorted column items) ∙ sym (column_sum-cons column first items)
    where
      column_sum-inserted : (items : List Item) → column_sum column (inserted less first items)
          ≡ column first +ℤ column_sum column items
      column_sum-inserted [] = column_sum-cons column first []
      column_sum-inserted (other ∷ items) =
          elim (less first other) as (λ b. column_sum column (cond b (first ∷ other ∷ items) (other ∷ inserted less first items))
          ≡ column first +ℤ column_sum column (other ∷ items)) [
            | true ↦ column_sum-cons column first (other ∷ items)
            | false ↦ omega (
              arith,
              ints,
              column_sum-cons column other (inserted less first items),
              column_sum-inserted items,
              column_sum-cons column other items,
            )
          ]
