-- The order of values and of rows is a total one, and the tests of queries ask it.
use Rattle.std.proofs.Common.{◌≡◌, ◌∙◌, ◌-◌, ◌&&◌, ◌||◌, ℕ, ℤ, Bool, true, false, cond, not, int_lt, pos, List, [], ◌∷◌, arith, refl, sym, ap, subst, if◌then◌else◌}
use Rattle.std.proofs.lemmas.Bool.Decides.{nat_tests}
use Rattle.std.proofs.lemmas.Cmp.{eq_by_cmp_equiv, int_cmp_total, nat_cmp_total, nat_list_cmp_total, on_total, then_total, back_total, same_from_slice_cmp}
use Rattle.std.proofs.lemmas.Map.Text.{is_eq-slice_cmp}
use Rattle.std.proofs.lemmas.List.MinMax.{ranks_by}
use Rattle.std.specs.Cmp.{IsEquivalence, IsStrictWeakOrder, IsTotalOrder}
use Rattle.std.specs.Cmp.Lexicographic.{slice_cmp}
use Rattle.std.specs.declared.cmp.Ordering.{Ordering}
use Rattle.std.specs.declared.cmp.Ordering.TheVariants.{Less, Equal, Greater}
use Rattle.std.specs.Ordering.{int_cmp, is_eq, is_ge, is_gt, is_le, is_lt, is_ne, nat_cmp, on, ordering_reverse, ordering_then, then_cmp}
use Rattle.hy_query.specs.declared.query.Comparison.{Comparison}
use Rattle.hy_query.specs.declared.query.Comparison.TheVariants as comparisons
use Rattle.hy_query.specs.declared.query.SortKey.{SortKey}
use Rattle.hy_rows.specs.declared.value.Value.{Value}
use Rattle.hy_rows.specs.declared.value.Value.TheVariants.{Text, Whole}
use Rattle.hy_query.specs.Meaning.{comes_before}
use Rattle.hy_query.specs.Rows.{Row}
use Rattle.hy_rows.specs.Rows.{value_at}
use Rattle.hy_query.specs.Values.{compares, is_equal, is_less, is_text_less}
use Rattle.hy_answers.specs.inside.Orders.{key_order, rows_order, value_order}

-- ---- what the tests ask

less-by : (a b : Bool) → a ≡ is_lt (cond a Less (cond b Greater Equal))
less-by true b = refl
less-by false true = refl
less-by false false = refl

pub is_less-order : (one other : Value) → is_less one other ≡ is_lt (value_order one other)
is_less-order (Whole one) (Whole other) = less-by (int_lt one other) (int_lt other one)
is_less-order (Whole one) (Text other) = refl
is_less-order (Text one) (Whole other) = refl
is_less-order (Text one) (Text other) =
    sym (same_from_slice_cmp nat_cmp is_lt is_text_less refl (λ y ys. refl) (λ x xs. refl)
    (λ x y xs ys o h. grind (arith, nat_tests)) one other (slice_cmp nat_cmp one other) refl)

pub is_equal-order : (one other : Value) → is_equal one other ≡ is_eq (value_order one other)
is_equal-order (Whole one) (Whole other) = refl
is_equal-order (Whole one) (Text other) = refl
is_equal-order (Text one) (Whole other) = refl
is_equal-order (Text one) (Text other) = sym (is_eq-slice_cmp one other)

-- ---- the order is total

abbrev kind_number : Value → ℕ
kind_number (Whole number) = 0
kind_number (Text text) = 1

abbrev number_part : Value → ℤ
number_part (Whole number) = number
number_part (Text text) = pos 0

abbrev text_part : Value → List ℕ
text_part (Whole number) = []
text_part (Text text) = text

-- by the kind, the number and the text
abbrev parts_order : Value → Value → Ordering
parts_order = then_cmp (on kind_number nat_cmp) (then_cmp (on number_part int_cmp) (on text_part (slice_cmp nat_cmp)))

then-equal : (order : Ordering) → ordering_then order Equal ≡ order
then-equal Less = refl
then-equal Equal = refl
then-equal Greater = refl

parts-order : (one other : Value) → parts_order one other ≡ value_order one other
parts-order (Whole one) (Whole other) = then-equal (int_cmp one other)
parts-order (Whole one) (Text other) = refl
parts-order (Text one) (Whole other) = refl
parts-order (Text one) (Text other) = refl

pub value_order-total : IsTotalOrder value_order
value_order-total = subst IsTotalOrder (λ i one other. parts-order one other i)
    (then_total (on_total kind_number nat_cmp_total)
    (then_total (on_total number_part int_cmp_total) (on_total text_part nat_list_cmp_total)))

none-total : {A : Type 0} → IsTotalOrder {K = A} (λ one other. Equal)
none-total = record { antisymm = λ x y. refl; trans = λ x y z p q. p; congr = λ x y z p. refl }

key-total : (descending : Bool) (place : ℕ)
    → IsTotalOrder (λ (one other : Row). if descending then value_order (value_at other place) (value_at one place)
    else value_order (value_at one place) (value_at other place))
key-total true place = back_total (on_total (λ (row : Row). value_at row place) value_order-total)
key-total false place = on_total (λ (row : Row). value_at row place) value_order-total

pub rows_order-total : (keys : List SortKey) → IsTotalOrder (rows_order keys)
rows_order-total [] = none-total
rows_order-total (key ∷ later) = then_total (key-total key.descending (key.place - 1)) (rows_order-total later)

-- ---- comparisons and keys

is_lt-turned : (one other : Ordering) → one ≡ ordering_reverse other → is_lt other ≡ is_gt one
is_lt-turned one Less is = ap is_gt (sym is)
is_lt-turned one Equal is = ap is_gt (sym is)
is_lt-turned one Greater is = ap is_gt (sym is)

pub is_less-back : (one other : Value) → is_less other one ≡ is_gt (value_order one other)
is_less-back one other =
    is_less-order other one ∙ is_lt-turned (value_order one other) (value_order other one)
    (value_order-total.antisymm one other)

not-greater : (order : Ordering) → is_le order ≡ not (is_gt order)
not-greater Less = refl
not-greater Equal = refl
not-greater Greater = refl

not-less : (order : Ordering) → is_ge order ≡ not (is_lt order)
not-less Less = refl
not-less Equal = refl
not-less Greater = refl

not-equal : (order : Ordering) → is_ne order ≡ not (is_eq order)
not-equal Less = refl
not-equal Equal = refl
not-equal Greater = refl

-- what an order of two values says of a comparison
abbrev pub by_order : Comparison → Ordering → Bool
by_order comparisons.Equal = is_eq
by_order comparisons.NotEqual = is_ne
by_order comparisons.Less = is_lt
by_order comparisons.LessOrEqual = is_le
by_order comparisons.Greater = is_gt
by_order comparisons.GreaterOrEqual = is_ge

pub by_order-compares : (comparison : Comparison) (left right : Value)
    → by_order comparison (value_order left right) ≡ compares comparison left right
by_order-compares comparisons.Equal left right = sym (is_equal-order left right)
by_order-compares comparisons.NotEqual left right =
    not-equal (value_order left right) ∙ ap not (sym (is_equal-order left right))
by_order-compares comparisons.Less left right = sym (is_less-order left right)
by_order-compares comparisons.LessOrEqual left right =
    not-greater (value_order left right) ∙ ap not (sym (is_less-back left right))
by_order-compares comparisons.Greater left right = sym (is_less-back left right)
by_order-compares comparisons.GreaterOrEqual left right =
    not-less (value_order left right) ∙ ap not (sym (is_less-order left right))

then-less : (order later : Ordering)
    → is_lt order || not (is_gt order) && is_lt later ≡ is_lt (ordering_then order later)
then-less Less later = refl
then-less Equal later = refl
then-less Greater later = refl

-- what a key says of two values, and what their order says
key-less : (descending : Bool) (mine its : Value) (later : Bool)
    → (if descending then is_less its mine else is_less mine its)
    || not (if descending then is_less mine its else is_less its mine) && later
    ≡ is_lt (if descending then value_order its mine else value_order mine its)
    || not (is_gt (if descending then value_order its mine else value_order mine its)) && later
key-less true mine its later i = is_less-order its mine i || not (is_less-back its mine i) && later
key-less false mine its later i = is_less-order mine its i || not (is_less-back mine its i) && later

pub comes_before-order : (keys : List SortKey) (one other : Row)
    → comes_before keys one other ≡ is_lt (rows_order keys one other)
comes_before-order [] one other = refl
comes_before-order (key ∷ later) one other =
    let mine : Value = value_at one (key.place - 1) in
    let its : Value = value_at other (key.place - 1) in
    key-less key.descending mine its (comes_before later one other)
    ∙ ap (λ rest. is_lt (key_order key one other) || not (is_gt (key_order key one other)) && rest)
    (comes_before-order later one other)
    ∙ then-less (key_order key one other) (rows_order later one other)

-- no row comes before one that comes before it, and rows that don't come before one another are a chain
pub comes_before-weak_by : {X : Type 0} (keys : List SortKey) (row : X → Row)
    → IsStrictWeakOrder (λ one other. comes_before keys (row one) (row other))
comes_before-weak_by keys row =
    subst IsStrictWeakOrder (λ i one other. sym (comes_before-order keys (row one) (row other)) i)
    (ranks_by (rows_order-total keys) row)

-- equality goes both ways
pub is_equal-swap : (one other : Value) → is_equal one other ≡ is_equal other one
is_equal-swap one other =
    let laws : IsEquivalence is_equal =
    subst IsEquivalence (λ i one other. sym (is_equal-order one other) i) (eq_by_cmp_equiv value_order-total) in
    laws.symm one other
