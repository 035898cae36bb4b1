-- What is answered of values of which a part is answered already.
use Rattle.std.proofs.Common.{◌≡◌, ◌∙◌, ◌+ℤ◌, ℤ, pos, Bool, true, false, if◌then◌else◌, List, [], ◌∷◌, ◌++◌, fold, refl, sym, ap, arith}
use Rattle.std.proofs.lemmas.Bool.{false≢true}
use Rattle.std.proofs.lemmas.Int.{int_wrap-add_right, ints}
use Rattle.std.proofs.lemmas.List.MinMax.{IsStrictWeakOrder-flip}
use Rattle.std.specs.Cmp.{IsStrictWeakOrder}
use Rattle.std.specs.Int.{w128}
use Rattle.hy_query.specs.Meaning.{best_of, greater, lesser, number_in, sum_of, wrapped}
use Rattle.hy_query.specs.Values.{is_less}
use Rattle.hy_rows.specs.declared.value.Value.{Value}
use Rattle.hy_rows.specs.declared.value.Value.TheVariants.{Whole}
use Rattle.hy_tallies.specs.declared.aggregate.Aggregate.{Aggregate}
use Rattle.hy_tallies.specs.declared.aggregate.Aggregate.TheVariants as aggregates
use Rattle.hy_tallies.specs.Tallies.{aggregated}
use Rattle.hy_tallies.proofs.ListLaws.{fold-append, fold-push}
use Rattle.hy_tallies.proofs.OrderLaws.{is_less-weak}

-- ---- the better of two values

module _ {X : Type 0} (lt : X → X → Bool) (order : IsStrictWeakOrder lt) where
  abbrev pick : X → X → X
  pick one other = if lt other one then other else one

  pub pick-assoc : (a b c : X) → pick (pick a b) c ≡ pick a (pick b c)
  pick-assoc a b c = by (lt b a) refl (lt c b) refl (lt c a) refl
    where
      by : (ba : Bool) → lt b a ≡ ba → (cb : Bool) → lt c b ≡ cb → (ca : Bool) → lt c a ≡ ca
          → pick (if ba then b else a) c ≡ pick a (if cb then c else b)
      by true ba_is true cb_is true ca_is =
          ap (λ t. if t then c else b) cb_is ∙ sym (ap (λ t. if t then c else a) ca_is)
      by true ba_is true cb_is false ca_is =
          absurd (false≢true (sym (order.chain c a b ca_is (order.one_way b a ba_is)) ∙ cb_is))
      by true ba_is false cb_is ca ca_is =
          ap (λ t. if t then c else b) cb_is ∙ sym (ap (λ t. if t then b else a) ba_is)
      by false ba_is true cb_is ca ca_is = refl
      by false ba_is false cb_is ca ca_is =
          ap (λ t. if t then c else a) (order.chain c b a cb_is ba_is) ∙ sym (ap (λ t. if t then b else a) ba_is)

lesser-assoc : (a b c : Value) → lesser (lesser a b) c ≡ lesser a (lesser b c)
lesser-assoc = pick-assoc is_less is_less-weak

greater-assoc : (a b c : Value) → greater (greater a b) c ≡ greater a (greater b c)
greater-assoc = pick-assoc (λ one other. is_less other one) (IsStrictWeakOrder-flip is_less is_less-weak)

-- ---- the best of some values

module _ (better : Value → Value → Value) (assoc : (a b c : Value) → better (better a b) c ≡ better a (better b c)) where
  fold-assoc : (best first : Value) (values : List Value)
      → better best (fold better first values) ≡ fold better (better best first) values
  fold-assoc best first [] = refl
  fold-assoc best first (value ∷ values) =
      fold-assoc best (better first value) values ∙ ap (λ start. fold better start values) (sym (assoc best first value))

  best-merged : (values : List Value) (first : Value) (more : List Value)
      → best_of better (values ++ best_of better (first ∷ more) ∷ []) ≡ best_of better (values ++ first ∷ more)
  best-merged [] first more = refl
  best-merged (value ∷ values) first more =
      fold-push better value values (fold better first more)
      ∙ fold-assoc (fold better value values) first more
      ∙ sym (fold-append better value values (first ∷ more))

-- ---- sums

sum-from : (start : ℤ) (values : List Value)
    → fold (λ sum value. sum +ℤ number_in value) start values ≡ start +ℤ sum_of values
sum-from start [] = none start
  where
    none : (n : ℤ) → n ≡ n +ℤ pos 0
    none n = omega (arith, ints)
sum-from start (value ∷ values) =
    sum-from (start +ℤ number_in value) values ∙ regroup start (number_in value) (sum_of values)
    ∙ ap (λ rest. start +ℤ rest) (sym (sum-from (pos 0 +ℤ number_in value) values))
  where
    regroup : (a b c : ℤ) → (a +ℤ b) +ℤ c ≡ a +ℤ ((pos 0 +ℤ b) +ℤ c)
    regroup a b c = omega (arith, ints)

sum-append : (values more : List Value) → sum_of (values ++ more) ≡ sum_of values +ℤ sum_of more
sum-append values more =
    fold-append (λ sum value. sum +ℤ number_in value) (pos 0) values more ∙ sum-from (sum_of values) more

sum-merged : (values more : List Value)
    → wrapped (sum_of (values ++ Whole (wrapped (sum_of more)) ∷ [])) ≡ wrapped (sum_of (values ++ more))
sum-merged values more =
    ap wrapped (fold-push (λ sum value. sum +ℤ number_in value) (pos 0) values (Whole (wrapped (sum_of more))))
    ∙ int_wrap-add_right w128 (sum_of values) (sum_of more)
    ∙ ap wrapped (sym (sum-append values more))

-- ---- all four

pub merged : (aggregate : Aggregate) (values : List Value) (first : Value) (more : List Value)
    → aggregated aggregate (values ++ aggregated aggregate (first ∷ more) ∷ [])
    ≡ aggregated aggregate (values ++ first ∷ more)
merged aggregates.First values first more = best-merged (λ one other. one) (λ a b c. refl) values first more
merged aggregates.Sum values first more = ap Whole (sum-merged values (first ∷ more))
merged aggregates.Least values first more = best-merged lesser lesser-assoc values first more
merged aggregates.Greatest values first more = best-merged greater greater-assoc values first more
