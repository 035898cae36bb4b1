-- The projections of a serial list agree on the crossing commits, and a beginning of the list has beginnings of them.
use Rattle.std.proofs.Common.{◌≡◌, ℕ, zero, suc, ◌<◌, ◌≤◌, Bool, true, false, cond, List, [], ◌∷◌, map, filter, length, Option, Some, None, inl, inr, ⊎_elim, refl, ap, sym, subst, ◌∙◌, arith, true≢false}
use Rattle.std.specs.Prelude.{All}
use Rattle.std.specs.List.{filter_map, range_with_len, cons_option, AllPairs}
use mathlib.Core.List.{IsPrefix}
use Rattle.std.proofs.lemmas.List.{map-append}
use Rattle.std.proofs.lemmas.List.Elements.{All-nil, All-cons, All-head, All-tail, filter-append}
use Rattle.std.proofs.lemmas.List.Kept.{AllPairs-cons}
use Rattle.hy_passes.specs.declared.entry.Entry.{Entry}
use Rattle.hy_passes.specs.Agreement.{Agree, AreProjections, IsWarehouse, Stands}
use Rattle.hy_passes.specs.SerialList.{kept_of, names, numbers_of, projection, IsSerial}
use Rattle.hy_passes.proofs.SerialLaws.{plus-one}

-- who knows a beginning of the serial list knows a beginning of each kept list
pub kept-begins : {C : Type 0} (warehouses : C → List ℕ) (seen log : List (Entry C)) (warehouse : ℕ) → IsPrefix seen log
    → IsPrefix (kept_of warehouses warehouse seen) (kept_of warehouses warehouse log)
kept-begins {C} warehouses seen log warehouse begins =
    let commit_of : Entry C → C = λ e. e.commit in (
      kept_of warehouses warehouse begins.0,
      sym (filter-append (names warehouses warehouse) (map commit_of seen) (map commit_of begins.0))
          ∙ ap (λ l. projection warehouses warehouse l) (sym (map-append commit_of seen begins.0))
          ∙ ap (λ l. kept_of warehouses warehouse l) begins.1,
    )

All-later : (a : ℕ) (ns : List ℕ) → All (λ n. suc a ≤ n) ns → All (λ n. a ≤ n) ns
All-later a [] all = All-nil (λ n. a ≤ n)
All-later a (n ∷ ns) all =
    let h : suc a ≤ n = All-head (λ n. suc a ≤ n) n ns all in
    All-cons (λ n. a ≤ n) n ns (omega arith) (All-later a ns (All-tail (λ n. suc a ≤ n) n ns all))

stands-kept : {C : Type 0} (p : C → Bool) (commit : C) (all : List C) → Stands commit (filter p all)
    → Stands commit all × (p commit ≡ true)
stands-kept p commit [] stands = absurd stands
stands-kept {C} p commit (c ∷ all) stands = by (p c) refl (stands-kept p commit all)
  where
    by : (b : Bool) → p c ≡ b → (Stands commit (filter p all) → Stands commit all × (p commit ≡ true))
        → Stands commit (c ∷ all) × (p commit ≡ true)
    by true is later =
        let s : Stands commit (c ∷ filter p all) = subst (λ b. Stands commit (cond b (c ∷ filter p all) (filter p all))) is stands in
        ⊎_elim (λ same. (inl same, ap p same ∙ is)) (λ l. let k = later l in (inr k.0, k.1)) s
    by false is later =
        let s : Stands commit (filter p all) = subst (λ b. Stands commit (cond b (c ∷ filter p all) (filter p all))) is stands in
        let k = later s in (inr k.0, k.1)

kept-stands : {C : Type 0} (p : C → Bool) (commit : C) (all : List C) → Stands commit all → p commit ≡ true
    → Stands commit (filter p all)
kept-stands p commit [] stands is = absurd stands
kept-stands {C} p commit (c ∷ all) stands is = by (p c) refl (λ s. kept-stands p commit all s is)
  where
    by : (b : Bool) → p c ≡ b → (Stands commit all → Stands commit (filter p all)) → Stands commit (filter p (c ∷ all))
    by true here later =
        subst (λ b. Stands commit (cond b (c ∷ filter p all) (filter p all))) (sym here)
        (⊎_elim (λ same. inl same) (λ l. inr (later l)) stands)
    by false here later =
        subst (λ b. Stands commit (cond b (c ∷ filter p all) (filter p all))) (sym here)
        (⊎_elim (λ same. absurd (true≢false (sym is ∙ ap p same ∙ here))) later stands)

module _ {C : Type 0} (number : C → Option ℕ) where
  -- a list whose crossing commits have the numbers from a on
  abbrev From : ℕ → List C → Type 0
  From a all = (n : ℕ) × (filter_map number all ≡ range_with_len a n)

  from-none : (a : ℕ) (c : C) (all : List C) → number c ≡ None → From a (c ∷ all) → From a all
  from-none a c all none from = (from.0, ap (λ o. cons_option o (filter_map number all)) (sym none) ∙ from.1)

  from-some : (a x : ℕ) (c : C) (all : List C) → number c ≡ Some x → From a (c ∷ all) → (x ≡ a) × From (suc a) all
  from-some a x c all some from = by from.0 (ap (λ o. cons_option o (filter_map number all)) (sym some) ∙ from.1)
    where
      by : (n : ℕ) → x ∷ filter_map number all ≡ range_with_len a n → (x ≡ a) × From (suc a) all
      by zero e = absurd (cc (e))
      by (suc n) e = (cc (e), (n, subst (λ k. filter_map number all ≡ range_with_len k n) (plus-one a) (cc (e))))

  at-least : (a : ℕ) (all : List C) (d : C) (n : ℕ) → From a all → Stands d all → number d ≡ Some n → a ≤ n
  at-least a [] d n from stands is = absurd stands
  at-least a (c ∷ all) d n from stands is =
      by (number c) refl (λ f s. at-least a all d n f s is) (λ f s. at-least (suc a) all d n f s is)
    where
      by : (o : Option ℕ) → number c ≡ o → (From a all → Stands d all → a ≤ n) → (From (suc a) all → Stands d all → suc a ≤ n)
          → a ≤ n
      by None none later next =
          ⊎_elim (λ (same : d ≡ c). absurd (cc (none, is, ap number same))) (λ s. later (from-none a c all none from) s) stands
      by (Some x) some later next =
          let f = from-some a x c all some from in
          ⊎_elim
          (λ (same : d ≡ c). let e : x ≡ n = cc (some, is, ap number same) in omega (arith, f.0, e))
          (λ s. let l = next f.1 s in omega arith)
          stands

  unique : (a : ℕ) (all : List C) (c d : C) (n : ℕ) → From a all → Stands c all → Stands d all → number c ≡ Some n
      → number d ≡ Some n → d ≡ c
  unique a [] c d n from here there is is' = absurd here
  unique a (b ∷ all) c d n from here there is is' =
      by (number b) refl (λ f s t. unique a all c d n f s t is is') (λ f s t. unique (suc a) all c d n f s t is is')
    where
      by : (o : Option ℕ) → number b ≡ o → (From a all → Stands c all → Stands d all → d ≡ c)
          → (From (suc a) all → Stands c all → Stands d all → d ≡ c) → d ≡ c
      by None none later next =
          ⊎_elim
          (λ (same : c ≡ b). absurd (cc (none, is, ap number same)))
          (λ s. ⊎_elim (λ (same : d ≡ b). absurd (cc (none, is', ap number same))) (λ t. later (from-none a b all none from) s t) there)
          here
      by (Some x) some later next =
          let f = from-some a x b all some from in
          ⊎_elim
          (λ (same : c ≡ b).
          ⊎_elim
          (λ (same' : d ≡ b). same' ∙ sym same)
          (λ t.
          let m = at-least (suc a) all d n f.1 t is' in
          let e : x ≡ n = cc (some, is, ap number same) in
          absurd (omega (arith, f.0, e, m)))
          there)
          (λ s.
          ⊎_elim
          (λ (same' : d ≡ b).
          let m = at-least (suc a) all c n f.1 s is in
          let e : x ≡ n = cc (some, is', ap number same') in
          absurd (omega (arith, f.0, e, m)))
          (λ t. next f.1 s t)
          there)
          here

  abbrev Rises : ℕ → List ℕ → Type 0
  Rises a ns = AllPairs (λ m n. m < n) ns × All (λ n. a ≤ n) ns

  rises-on : (a x : ℕ) (ns : List ℕ) → x ≡ a → Rises (suc a) ns → Rises a (x ∷ ns)
  rises-on a x ns is rises = (
    AllPairs-cons (λ m n. m < n) x ns (subst (λ y. All (λ n. suc y ≤ n) ns) (sym is) rises.1) rises.0,
    All-cons (λ n. a ≤ n) x ns (omega (arith, is)) (All-later a ns rises.1),
  )

  rises : (p : C → Bool) (a : ℕ) (all : List C) → From a all → Rises a (filter_map number (filter p all))
  rises p a [] from = ((λ i j d less within. absurd (omega arith)), All-nil (λ n. a ≤ n))
  rises p a (c ∷ all) from =
      by (p c) refl (number c) refl (λ f. rises p a all f) (λ f. rises p (suc a) all f)
    where
      rest : List C
      rest = filter p all

      by : (b : Bool) → p c ≡ b → (o : Option ℕ) → number c ≡ o → (From a all → Rises a (filter_map number rest))
          → (From (suc a) all → Rises (suc a) (filter_map number rest))
          → Rises a (filter_map number (filter p (c ∷ all)))
      by true here None none later next =
          subst (λ b. Rises a (filter_map number (cond b (c ∷ rest) rest))) (sym here)
          (subst (λ o. Rises a (cons_option o (filter_map number rest))) (sym none) (later (from-none a c all none from)))
      by true here (Some x) some later next =
          let f = from-some a x c all some from in
          subst (λ b. Rises a (filter_map number (cond b (c ∷ rest) rest))) (sym here)
          (subst (λ o. Rises a (cons_option o (filter_map number rest))) (sym some) (rises-on a x (filter_map number rest) f.0 (next f.1)))
      by false here None none later next =
          subst (λ b. Rises a (filter_map number (cond b (c ∷ rest) rest))) (sym here) (later (from-none a c all none from))
      by false here (Some x) some later next =
          let f = from-some a x c all some from in
          let r = next f.1 in
          subst (λ b. Rises a (filter_map number (cond b (c ∷ rest) rest))) (sym here) (r.0, All-later a (filter_map number rest) r.1)

-- the numbers of the entries are those of their commits
numbers-of-commits : {C : Type 0} (warehouses : C → List ℕ) (number : C → Option ℕ) (log : List (Entry C))
    → filter_map number (map (λ (e : Entry C). e.commit) log) ≡ numbers_of warehouses number log
numbers-of-commits warehouses number [] = refl
numbers-of-commits warehouses number (entry ∷ log) =
    ap (λ l. cons_option (number entry.commit) l) (numbers-of-commits warehouses number log)

pub projections-agree : {C : Type 0} (warehouses : C → List ℕ) (number : C → Option ℕ) (partitions : ℕ) (lists : ℕ → List C)
    (log : List (Entry C)) → IsSerial warehouses number partitions log → AreProjections warehouses partitions lists log
    → Agree warehouses number partitions lists
projections-agree {C} warehouses number partitions lists log serial are =
    let all : List C = map (λ (e : Entry C). e.commit) log in
    let from : From number 1 all =
    (length (numbers_of warehouses number log), numbers-of-commits warehouses number log ∙ serial.numbered) in
    let whole : (v : ℕ) (c : C) → IsWarehouse partitions v → Stands c (lists v) → Stands c all × (names warehouses v c ≡ true) =
    λ v c is stands. stands-kept (names warehouses v) c all (subst (λ l. Stands c l) (are v is) stands) in
    record {
      rising = λ w is. subst (λ l. AllPairs (λ a b. a < b) (filter_map number l)) (sym (are w is)) (rises number (names warehouses w) 1 all from).0;
      everywhere = λ v w c n is is' stands number_is names_w.
          subst (λ l. Stands c l) (sym (are w is')) (kept-stands (names warehouses w) c all (whole v c is stands).0 names_w);
      nowhere_else = λ v w c d n is is' stands number_is stands' number_is'.
          let t = whole w d is' stands' in
          let same = unique number 1 all c d n from (whole v c is stands).0 t.0 number_is number_is' in
          (same, ap (names warehouses w) (sym same) ∙ t.1);
    }
