-- The order of values is a total one, and the tests of queries ask it.
use Rattle.std.proofs.Common.{◌≡◌, ℕ, ℤ, Bool, true, false, cond, int_lt, pos, List, [], arith, refl, sym, subst}
use Rattle.std.proofs.lemmas.Bool.Decides.{nat_tests}
use Rattle.std.proofs.lemmas.Cmp.{int_cmp_total, nat_cmp_total, nat_list_cmp_total, on_total, then_total, same_from_slice_cmp}
use Rattle.std.proofs.lemmas.List.MinMax.{ranks_by}
use Rattle.std.specs.Cmp.{IsStrictWeakOrder, IsTotalOrder}
use Rattle.std.specs.Cmp.Lexicographic.{slice_cmp}
use Rattle.std.specs.declared.cmp.Ordering.{Ordering}
use Rattle.std.specs.declared.cmp.Ordering.TheVariants.{Less, Equal, Greater}
use Rattle.std.specs.Ordering.{int_cmp, is_lt, nat_cmp, on, ordering_then, then_cmp}
use Rattle.hy_query.specs.Values.{is_less, is_text_less}
use Rattle.hy_rows.specs.declared.value.Value.{Value}
use Rattle.hy_rows.specs.declared.value.Value.TheVariants.{Text, Whole}
use Rattle.hy_tallies.specs.inside.Orders.{value_order}

-- ---- what the tests ask

less-by : (a b : Bool) → a ≡ is_lt (cond a Less (cond b Greater Equal))
less-by true b = refl
less-by false true = refl
less-by false false = refl

pub is_less-order : (one other : Value) → is_less one other ≡ is_lt (value_order one other)
is_less-order (Whole one) (Whole other) = less-by (int_lt one other) (int_lt other one)
is_less-order (Whole one) (Text other) = refl
is_less-order (Text one) (Whole other) = refl
is_less-order (Text one) (Text other) =
    sym (same_from_slice_cmp nat_cmp is_lt is_text_less refl (λ y ys. refl) (λ x xs. refl)
    (λ x y xs ys o h. grind (arith, nat_tests)) one other (slice_cmp nat_cmp one other) refl)

-- ---- the order is total

abbrev kind_number : Value → ℕ
kind_number (Whole number) = 0
kind_number (Text text) = 1

abbrev number_part : Value → ℤ
number_part (Whole number) = number
number_part (Text text) = pos 0

abbrev text_part : Value → List ℕ
text_part (Whole number) = []
text_part (Text text) = text

-- by the kind, the number and the text
abbrev parts_order : Value → Value → Ordering
parts_order = then_cmp (on kind_number nat_cmp) (then_cmp (on number_part int_cmp) (on text_part (slice_cmp nat_cmp)))

then-equal : (order : Ordering) → ordering_then order Equal ≡ order
then-equal Less = refl
then-equal Equal = refl
then-equal Greater = refl

parts-order : (one other : Value) → parts_order one other ≡ value_order one other
parts-order (Whole one) (Whole other) = then-equal (int_cmp one other)
parts-order (Whole one) (Text other) = refl
parts-order (Text one) (Whole other) = refl
parts-order (Text one) (Text other) = refl

pub value_order-total : IsTotalOrder value_order
value_order-total = subst IsTotalOrder (λ i one other. parts-order one other i)
    (then_total (on_total kind_number nat_cmp_total)
    (then_total (on_total number_part int_cmp_total) (on_total text_part nat_list_cmp_total)))

pub is_less-weak : IsStrictWeakOrder is_less
is_less-weak =
    subst IsStrictWeakOrder (λ i one other. sym (is_less-order one other) i) (ranks_by value_order-total (λ value. value))
