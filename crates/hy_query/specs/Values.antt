-- Values, and how they compare.
use Rattle.std.specs.Prelude.{ℕ, ◌==◌, ◌&&◌, ◌||◌, Bool, true, false, not, nat_lt, int_lt, List, [], ◌∷◌, bytes_eq}
use Rattle.std.proofs.Common.{int_eq}
use Rattle.hy_query.specs.declared.query.Comparison.{Comparison}
use Rattle.hy_query.specs.declared.query.Comparison.TheVariants as comparisons
use Rattle.hy_rows.specs.declared.value.Value.{Value}
use Rattle.hy_rows.specs.declared.value.Value.TheVariants as values

-- texts by their bytes; a beginning of a text is less than it
abbrev pub is_text_less : List ℕ → List ℕ → Bool
is_text_less [] [] = false
is_text_less [] (byte ∷ bytes) = true
is_text_less (first ∷ later) [] = false
is_text_less (first ∷ later) (byte ∷ bytes) = nat_lt first byte || (first == byte) && is_text_less later bytes

-- numbers by their size, texts by their bytes. No query compares a number with a text: to have one order of all values,
-- numbers come first
abbrev pub is_less : Value → Value → Bool
is_less (values.Whole one) (values.Whole other) = int_lt one other
is_less (values.Whole one) (values.Text other) = true
is_less (values.Text one) (values.Whole other) = false
is_less (values.Text one) (values.Text other) = is_text_less one other

abbrev pub is_equal : Value → Value → Bool
is_equal (values.Whole one) (values.Whole other) = int_eq one other
is_equal (values.Whole one) (values.Text other) = false
is_equal (values.Text one) (values.Whole other) = false
is_equal (values.Text one) (values.Text other) = bytes_eq one other

-- whether two values compare so
abbrev pub compares : Comparison → Value → Value → Bool
compares comparisons.Equal left right = is_equal left right
compares comparisons.NotEqual left right = not (is_equal left right)
compares comparisons.Less left right = is_less left right
compares comparisons.LessOrEqual left right = not (is_less right left)
compares comparisons.Greater left right = is_less right left
compares comparisons.GreaterOrEqual left right = not (is_less left right)
