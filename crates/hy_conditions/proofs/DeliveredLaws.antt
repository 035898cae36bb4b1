-- The laws of what was delivered: over the orders of a customer, and in two parts.
use Rattle.std.proofs.Common.{◌≡◌, ℤ, pos, ◌+ℤ◌, ◌-ℤ◌, ◌≤ℤ◌, neg_ℤ, ◌-◌, ◌^◌, Bool, false, List, [], ◌∷◌, filter, refl, sym, ap, ◌∙◌, arith, int_eq, lit<}
use Rattle.std.specs.List.{flat_map}
use Rattle.std.proofs.lemmas.Int.{ints, quot-rem, rem_below}
use Rattle.std.proofs.lemmas.List.Elements.{filter-append}
use Rattle.hy_schema.specs.Conditions.{column_sum}
use Rattle.hy_conditions.specs.Delivered.{high_part, low_part, of_parts}
use Rattle.hy_conditions.proofs.ColumnLaws.{column_sum-append, column_sum-cons, int_eq-apart, same-int_eq}

module _ {Row Other : Type 0} (column : Row → ℤ) (test : Row → Bool) (rows_of : Other → List Row) where
  -- a sum over the rows that pass a test among lists one behind another
  pub column_sum-flat_map : (others : List Other)
      → column_sum column (filter test (flat_map rows_of others))
      ≡ column_sum (λ other. column_sum column (filter test (rows_of other))) others
  column_sum-flat_map [] = refl
  column_sum-flat_map (other ∷ others) =
      ap (column_sum column) (filter-append test (rows_of other) (flat_map rows_of others))
      ∙ column_sum-append column (filter test (rows_of other)) (filter test (flat_map rows_of others))
      ∙ ap (λ later. column_sum column (filter test (rows_of other)) +ℤ later) (column_sum-flat_map others)
      ∙ sym (column_sum-cons (λ other. column_sum column (filter test (rows_of other))) other others)

-- an integer by its quotient and its remainder, which is small
pub parts-whole : (sum : ℤ) → sum ≡ of_parts (high_part sum) (low_part sum)
parts-whole sum = let whole = quot-rem sum (pos (2 ^ 63)) in omega (arith, ints)

pub low_part-small : (sum : ℤ) → (neg_ℤ (pos (2 ^ 63 - 1)) ≤ℤ low_part sum) × (low_part sum ≤ℤ pos (2 ^ 63 - 1))
low_part-small sum = let small = rem_below sum (pos (2 ^ 63)) (lit< tt) in (omega (arith, ints), omega (arith, ints))

-- a sum in parts is the sums of the parts
module _ {Row : Type 0} (column : Row → ℤ) where
  pub column_sum-parts : (rows : List Row)
      → of_parts (column_sum (λ row. high_part (column row)) rows) (column_sum (λ row. low_part (column row)) rows)
      ≡ column_sum column rows
  column_sum-parts [] = refl
  column_sum-parts (row ∷ rows) =
      let later = column_sum-parts rows in
      let whole = parts-whole (column row) in
      let high = column_sum-cons (λ row. high_part (column row)) row rows in
      let low = column_sum-cons (λ row. low_part (column row)) row rows in
      let all = column_sum-cons column row rows in
      omega (arith, ints)

-- a balance less what was paid
pub balance-less : (balance paid delivered : ℤ)
    → int_eq (balance +ℤ paid) delivered ≡ int_eq balance (delivered -ℤ paid)
balance-less balance paid delivered =
    same-int_eq (balance +ℤ paid) delivered balance (delivered -ℤ paid) (λ same. omega (arith, ints))
    (λ same. omega (arith, ints))

module _ (amount high low amount_high amount_low low_high low_low rest_high rest_low : ℤ)
    (amount_is : amount ≡ of_parts amount_high amount_low) (low_is : low ≡ of_parts low_high low_low)
    (rest_is : amount_low -ℤ low_low ≡ of_parts rest_high rest_low)
    (above : neg_ℤ (pos (2 ^ 63 - 1)) ≤ℤ rest_low) (below : rest_low ≤ℤ pos (2 ^ 63 - 1)) where
  pub parts-same : rest_low ≡ pos 0
      → int_eq (amount_high -ℤ low_high +ℤ rest_high) high ≡ int_eq amount (of_parts high low)
  parts-same none = same-int_eq (amount_high -ℤ low_high +ℤ rest_high) high amount (of_parts high low)
      (λ same. omega (arith, ints)) (λ same. omega (arith, ints))

  pub parts-apart : (rest_low ≡ pos 0 → ⊥) → int_eq amount (of_parts high low) ≡ false
  parts-apart some = int_eq-apart amount (of_parts high low) (λ same. some (omega (arith, ints)))
