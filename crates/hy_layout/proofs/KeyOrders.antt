-- Keys in one order.
use Rattle.std.proofs.Common.{◌≡◌, ℕ, true, false, refl, sym, ap, ◌∙◌}
use Rattle.std.specs.Cmp.{IsTotalOrder}
use Rattle.std.proofs.Common.{Ordering, Equal, Greater, Less}
use Rattle.std.specs.Ordering.{is_lt, nat_cmp, ordering_reverse, ordering_then}
use Rattle.std.proofs.lemmas.Cmp.{ranked}
use Rattle.hy_layout.specs.Finds.{IsOrder}

is-less : (o : Ordering) → is_lt o ≡ true → o ≡ Less
is-less Less is = refl
is-less Equal is = absurd (cc)
is-less Greater is = absurd (cc)

not-less : (o : Ordering) → is_lt o ≡ false → is_lt (ordering_reverse o) ≡ false → o ≡ Equal
not-less Less is back = absurd (cc)
not-less Equal is back = refl
not-less Greater is back = absurd (cc)

pub order-total : {Key : Type 0} (compare : Key → Key → Ordering) → IsTotalOrder compare
    → ((one other : Key) → compare one other ≡ Equal → one ≡ other) → IsOrder (λ one other. is_lt (compare one other))
order-total compare total tells = record {
  one_way = λ one other less.
      ap is_lt (total.antisymm other one ∙ ap ordering_reverse (is-less (compare one other) less));
  along = λ one other third less next.
      ap is_lt (total.trans one other third (is-less (compare one other) less) (is-less (compare other third) next));
  same = λ one other less back.
      tells one other (not-less (compare one other) less (ap is_lt (sym (total.antisymm other one)) ∙ back));
}

pub both-equal : (one other : Ordering) → ordering_then one other ≡ Equal → (one ≡ Equal) × (other ≡ Equal)
both-equal Less other is = absurd (cc)
both-equal Equal other is = (refl, is)
both-equal Greater other is = absurd (cc)

pub same-number : (a b : ℕ) → nat_cmp a b ≡ Equal → a ≡ b
same-number a b is = ranked a b Equal (sym is)
