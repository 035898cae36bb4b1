-- The order of lists of bytes.
use Rattle.std.proofs.Common.{◌≡◌, ℕ, Bool, true, false, List, refl, sym, ap, ◌∙◌, Ordering, Less, Equal, Greater}
use Rattle.std.proofs.lemmas.Bool.{false≢true}
use Rattle.std.specs.Ordering.{is_lt, nat_cmp, ordering_reverse}
use Rattle.std.specs.Cmp.Lexicographic.{slice_cmp}
use Rattle.std.proofs.lemmas.Cmp.{nat_list_cmp_total}
use Rattle.std.specs.FinMap.{nat_cmp-IsAntisymmetric, slice_cmp-IsAntisymmetric}
use Rattle.hy_trees.specs.Trees.{is_less_bytes}

less_from : (order : Ordering) → is_lt order ≡ true → order ≡ Less
less_from Less less = refl
less_from Equal less = absurd (false≢true less)
less_from Greater less = absurd (false≢true less)

-- a list that is less than a second one is less than all that the second is less than
pub less-trans : (one other third : List ℕ) → is_less_bytes one other ≡ true → is_less_bytes other third ≡ true → is_less_bytes one third ≡ true
less-trans one other third first second =
    ap is_lt (nat_list_cmp_total.trans one other third (less_from (slice_cmp nat_cmp one other) first) (less_from (slice_cmp nat_cmp other third) second))

-- of two lists one at most is less than the other
pub less-one_way : (one other : List ℕ) → is_less_bytes one other ≡ true → is_less_bytes other one ≡ false
less-one_way one other less =
    ap is_lt (nat_list_cmp_total.antisymm other one ∙ ap ordering_reverse (less_from (slice_cmp nat_cmp one other) less))

-- a list that isn't less than a second one, and is less than a third one: the second is less than the third
pub less-from_not : (one other third : List ℕ) → is_less_bytes one other ≡ false → is_less_bytes one third ≡ true → is_less_bytes other third ≡ true
less-from_not one other third not_less less = by (slice_cmp nat_cmp one other) refl
  where
    by : (order : Ordering) → slice_cmp nat_cmp one other ≡ order → is_less_bytes other third ≡ true
    by Less is = absurd (false≢true (sym not_less ∙ ap is_lt is))
    by Equal is = ap is_lt (sym (nat_list_cmp_total.congr one other third is)) ∙ less
    by Greater is =
        less-trans other one third (ap is_lt (nat_list_cmp_total.antisymm other one ∙ ap ordering_reverse is)) less

-- of two different lists one is less than the other
pub same-from_not : (one other : List ℕ) → is_less_bytes one other ≡ false → is_less_bytes other one ≡ false → one ≡ other
same-from_not one other first second = by (slice_cmp nat_cmp one other) refl
  where
    by : (order : Ordering) → slice_cmp nat_cmp one other ≡ order → one ≡ other
    by Less is = absurd (false≢true (sym first ∙ ap is_lt is))
    by Equal is = slice_cmp-IsAntisymmetric nat_cmp-IsAntisymmetric one other is
    by Greater is = absurd (false≢true (sym second ∙ ap is_lt (nat_list_cmp_total.antisymm other one ∙ ap ordering_reverse is)))

pub less-irreflexive : (one : List ℕ) → is_less_bytes one one ≡ false
less-irreflexive one = by (is_less_bytes one one) refl
  where
    by : (b : Bool) → is_less_bytes one one ≡ b → is_less_bytes one one ≡ false
    by true is = less-one_way one one is
    by false is = is
