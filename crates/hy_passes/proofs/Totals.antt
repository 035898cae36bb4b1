-- A serial list has no more commits than its warehouses keep in all.
use Rattle.std.proofs.Common.{◌≡◌, ℕ, zero, suc, ◌+◌, ◌*◌, ◌<◌, ◌≤◌, Bool, true, false, cond, List, [], ◌∷◌, length, Option, Some, None, refl, ap, sym, subst, ◌∙◌, arith, true≢false}
use Rattle.std.specs.Prelude.{All, nat_le, nat_lt, ◌&&◌, ◌==◌, ◌||◌}
use Rattle.std.specs.List.{list_all, list_any, cons_option}
use Rattle.std.proofs.lemmas.Bool.{leb-true}
use Rattle.std.proofs.Common.{eq-eqb}
use Rattle.std.proofs.Math.Nat.{mul-suc}
use native.Mathlib.Decide.{ℕ_discrete}
use Rattle.std.proofs.lemmas.List.Elements.{All-head, All-tail}
use Rattle.hy_passes.specs.declared.entry.Entry.{Entry}
use Rattle.hy_passes.specs.SerialList.{are_warehouses, kept_of, max_commits, max_partitions, names, numbers_of}

pub and-both : (a b : Bool) → (a && b) ≡ true → (a ≡ true) × (b ≡ true)
and-both true b is = (refl, is)
and-both false b is = absurd (true≢false (sym is))

and-last : (a : Bool) → (a && false) ≡ false
and-last true = refl
and-last false = refl

lt-true : (k n : ℕ) → nat_le (suc k) n ≡ true → k < n
lt-true k n is = let l : suc k ≤ n = leb-true (suc k) n is in omega arith

-- f 1 + f 2 + .. + f n
abbrev sum_up : ℕ → (ℕ → ℕ) → ℕ
sum_up zero f = 0
sum_up (suc n) f = sum_up n f + f (suc n)

sum_up-le : (n most : ℕ) (f : ℕ → ℕ) → ((w : ℕ) → w < n → f (suc w) ≤ most) → sum_up n f ≤ most * n
sum_up-le zero most f bound = omega arith
sum_up-le (suc n) most f bound =
    let l = sum_up-le n most f (λ w h. bound w (omega arith)) in
    let b = bound n (omega arith) in
    omega (arith, mul-suc most n)

sum_up-more : (n : ℕ) (f g : ℕ → ℕ) → ((w : ℕ) → w < n → f (suc w) ≤ g (suc w)) → sum_up n f ≤ sum_up n g
sum_up-more zero f g more = omega arith
sum_up-more (suc n) f g more = let l = sum_up-more n f g (λ w h. more w (omega arith)) in let m = more n (omega arith) in omega arith

-- one of them grew
sum_up-grows : (n : ℕ) (f g : ℕ → ℕ) (k : ℕ) → k < n → f (suc k) < g (suc k) → ((w : ℕ) → w < n → f (suc w) ≤ g (suc w))
    → sum_up n f < sum_up n g
sum_up-grows zero f g k below grew more = absurd (omega arith)
sum_up-grows (suc n) f g k below grew more =
    at (ℕ_discrete k n) (λ less. sum_up-grows n f g k less grew (λ w h. more w (omega arith)))
  where
    at : Dec (k ≡ n) → (k < n → sum_up n f < sum_up n g) → sum_up (suc n) f < sum_up (suc n) g
    at (yes is) later =
        let l = sum_up-more n f g (λ w h. more w (omega arith)) in
        let s : f (suc n) < g (suc n) = subst (λ w. f (suc w) < g (suc w)) is grew in
        omega arith
    at (no isnt) later =
        let l = later (omega arith) in
        let m = more n (omega arith) in
        omega arith

-- a commit of the kit names one of its warehouses
some-named : (partitions : ℕ) (named : List ℕ) → are_warehouses partitions named ≡ true
    → (k : ℕ) × (k < partitions) × (list_any (λ n. n == suc k) named ≡ true)
some-named partitions [] is = absurd (true≢false (sym is))
some-named partitions (zero ∷ named) is = absurd (true≢false (sym is ∙ and-last (nat_lt 0 (suc (length named)))))
some-named partitions (suc k ∷ named) is =
    let all = and-both (nat_lt 0 (suc (length named))) (list_all (λ w. nat_le 1 w && nat_le w partitions) (suc k ∷ named)) is in
    let first = and-both (nat_le 1 (suc k) && nat_le (suc k) partitions) (list_all (λ w. nat_le 1 w && nat_le w partitions) named) all.1 in
    let last = and-both (nat_le 1 (suc k)) (nat_le (suc k) partitions) first.0 in
    (k, lt-true k partitions last.1, ap (λ b. b || list_any (λ n. n == suc k) named) (eq-eqb (suc k) (suc k) refl))

module _ {C : Type 0} (warehouses : C → List ℕ) where
  kept-longer : (w : ℕ) (entry : Entry C) (log : List (Entry C))
      → length (kept_of warehouses w log) ≤ length (kept_of warehouses w (entry ∷ log))
  kept-longer w entry log = by (names warehouses w entry.commit) refl
    where
      by : (b : Bool) → names warehouses w entry.commit ≡ b
          → length (kept_of warehouses w log) ≤ length (kept_of warehouses w (entry ∷ log))
      by true is = omega (arith, ap (λ b. length (cond b (entry.commit ∷ kept_of warehouses w log) (kept_of warehouses w log))) is)
      by false is = omega (arith, ap (λ b. length (cond b (entry.commit ∷ kept_of warehouses w log) (kept_of warehouses w log))) is)

  kept-named : (w : ℕ) (entry : Entry C) (log : List (Entry C)) → names warehouses w entry.commit ≡ true
      → length (kept_of warehouses w log) < length (kept_of warehouses w (entry ∷ log))
  kept-named w entry log is = omega (arith, ap (λ b. length (cond b (entry.commit ∷ kept_of warehouses w log) (kept_of warehouses w log))) is)

  log-within : (partitions : ℕ) (log : List (Entry C))
      → All (λ (e : Entry C). are_warehouses partitions (warehouses e.commit) ≡ true) log
      → length log ≤ sum_up partitions (λ w. length (kept_of warehouses w log))
  log-within partitions [] named = omega arith
  log-within partitions (entry ∷ log) named =
      let here = some-named partitions (warehouses entry.commit) (All-head (λ (e : Entry C). are_warehouses partitions (warehouses e.commit) ≡ true) entry log named) in
      let later = log-within partitions log (All-tail (λ (e : Entry C). are_warehouses partitions (warehouses e.commit) ≡ true) entry log named) in
      let grown = sum_up-grows partitions (λ w. length (kept_of warehouses w log)) (λ w. length (kept_of warehouses w (entry ∷ log))) here.0 here.1
      (kept-named (suc here.0) entry log here.2) (λ w h. kept-longer (suc w) entry log) in
      omega arith

  -- where no warehouse keeps more than the most, the list has room for more
  pub log-room : (partitions : ℕ) (log : List (Entry C)) → partitions ≤ max_partitions
      → All (λ (e : Entry C). are_warehouses partitions (warehouses e.commit) ≡ true) log
      → ((w : ℕ) → w < partitions → length (kept_of warehouses (suc w) log) ≤ max_commits)
      → length log ≤ 68719476736
  log-room partitions log few named room =
      let l = log-within partitions log named in
      let b = sum_up-le partitions max_commits (λ w. length (kept_of warehouses w log)) room in
      omega arith

  -- there are no more numbers than commits
  pub numbers-within : (number : C → Option ℕ) (log : List (Entry C)) → length (numbers_of warehouses number log) ≤ length log
  numbers-within number [] = omega arith
  numbers-within number (entry ∷ log) = by (number entry.commit) (numbers-within number log)
    where
      by : (o : Option ℕ) → length (numbers_of warehouses number log) ≤ length log
          → length (cons_option o (numbers_of warehouses number log)) ≤ suc (length log)
      by None less = omega arith
      by (Some n) less = omega arith
