-- How often a number stands in a list.
use Rattle.std.proofs.Common.{◌≡◌, ◌≢◌, ℕ, ◌+◌, ◌<◌, ◌≤◌, cond, ltb, List, [], ◌∷◌, ◌++◌, length, refl, sym, ap, arith, eq-eqb, inl, inr, ◌∙◌}
use Rattle.std.proofs.lemmas.Bool.{cases_lt}
use Rattle.std.proofs.lemmas.Bool.Decides.{nat_tests}
use Rattle.hy_trees.specs.Nodes.{Node}
use Rattle.hy_trees.specs.Trees.{times, has_page, same_as}

pub times-append : (q : ℕ) (xs ys : List ℕ) → times q (xs ++ ys) ≡ times q xs + times q ys
times-append q [] ys = omega arith
times-append q (x ∷ xs) ys = let rest = times-append q xs ys in omega (arith, rest)

-- one number, which is this one, and which is another
pub same_as-same : (q : ℕ) → same_as q q ≡ 1
same_as-same q = ap (λ b. cond {A = ℕ} b 1 0) (eq-eqb q q refl)

pub same_as-other : (q other : ℕ) → other ≢ q → same_as q other ≡ 0
same_as-other q other differs = grind (arith, nat_tests)

pub same_as-le : (q other : ℕ) → same_as q other ≤ 1
same_as-le q other = grind (arith, nat_tests)

pub same-from_same_as : (q other : ℕ) → 0 < same_as q other → other ≡ q
same-from_same_as q other same = grind (arith, nat_tests)

pub times-first : (q : ℕ) (xs : List ℕ) → 0 < times q (q ∷ xs)
times-first q xs = let one = same_as-same q in omega (arith, one)

-- whether a segment has a page
pub has_page-yes : (nodes : List Node) (q : ℕ) → q < length nodes → has_page nodes q ≡ 1
has_page-yes nodes q within = grind (arith, nat_tests)

pub has_page-no : (nodes : List Node) (q : ℕ) → length nodes ≤ q → has_page nodes q ≡ 0
has_page-no nodes q past = grind (arith, nat_tests)

pub has_page-le : (nodes : List Node) (q : ℕ) → has_page nodes q ≤ 1
has_page-le nodes q = grind (arith, nat_tests)

pub has_page-longer : (old new : List Node) (q : ℕ) → length old ≤ length new → has_page old q ≤ has_page new q
has_page-longer old new q longer = grind (arith, nat_tests)

pub within-has_page : (nodes : List Node) (q : ℕ) → 0 < has_page nodes q → q < length nodes
within-has_page nodes q there = grind (arith, nat_tests)

pub differs-from_same_as : (q other : ℕ) → same_as q other ≡ 0 → q ≢ other
differs-from_same_as q other none same = let one = ap (same_as q) (sym same) in let is = same_as-same q in omega (arith, none, one, is)

-- each page of a segment stands in a list once, and no other number does
pub times-has_page : (nodes : List Node) (pages : List ℕ) → ((q : ℕ) → q < length nodes → times q pages ≡ 1)
    → ((q : ℕ) → length nodes ≤ q → times q pages ≡ 0) → (q : ℕ) → times q pages ≡ has_page nodes q
times-has_page nodes pages once none q = elim (cases_lt q (length nodes)) [
  | inl within ↦ once q within ∙ sym (has_page-yes nodes q within)
  | inr past ↦ none q past ∙ sym (has_page-no nodes q past)
]

pub has_page-same : (old new : List Node) (q : ℕ) → length new ≡ length old → has_page new q ≡ has_page old q
has_page-same old new q same = ap (λ (n : ℕ). cond {A = ℕ} (ltb q n) 1 0) same
