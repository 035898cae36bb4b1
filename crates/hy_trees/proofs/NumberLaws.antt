-- How many pages a tree has for its entries, and how high it is.
use Rattle.std.proofs.Common.{◌≡◌, ◌≢◌, ℕ, zero, suc, ◌+◌, ◌-◌, ◌*◌, ◌/◌, ◌^◌, ◌<◌, ◌≤◌, cond, ltb, List, [], ◌∷◌, ◌++◌, length, Option, None, ◌⊎◌, inl, inr, refl, ap, sym, subst, ◌∙◌, arith}
use Rattle.std.proofs.Math.Nat.{div-mul-le_self, le-div_iff_mul-le, mul-le-mul_right, pow-suc}
use Rattle.std.proofs.Math.Pow.{pow_mono}
use Rattle.std.proofs.lemmas.Bool.{cases_lt}
use Rattle.std.proofs.lemmas.Bool.Decides.{nat_tests}
use Rattle.std.proofs.lemmas.Nat.{pow_pos}
use Rattle.std.proofs.lemmas.List.{length-append}
use Rattle.hy_trees.specs.Nodes.{Item, Node, node_at}
use Rattle.hy_trees.specs.Trees.{HasParts, IsSubtree, IsTree, times, entries_below, entries_under, has_page, height_of, most_pages, next_key, pages_below, pages_under, root_least, same_as}
use Rattle.hy_trees.specs.Groups.{IsRooted}
use Rattle.hy_trees.proofs.CountLaws.{times-first, has_page-no, has_page-yes}

-- ---- the pages for so many entries

module _ (nodes : List Node) (most spare : ℕ) where
  length-below : (depth : ℕ) → ((page : ℕ) (low : List ℕ) (high : Option (List ℕ))
      → IsSubtree nodes (suc spare) most depth (suc spare) low high page
      → length (pages_under nodes depth page) * spare + 1 ≤ length (entries_under nodes depth page))
      → (items : List Item) (high : Option (List ℕ))
      → HasParts (IsSubtree nodes (suc spare) most depth (suc spare)) items high
      → length (pages_below nodes depth items) * spare + length items ≤ length (entries_below nodes depth items)
  length-below depth each [] high parts = omega arith
  length-below depth each (item ∷ items) high parts =
      let here = each item.number item.key (next_key items high) parts.0 in
      let rest = length-below depth each items high parts.1 in
      let pages = length-append (pages_under nodes depth item.number) (pages_below nodes depth items) in
      let entries = length-append (entries_under nodes depth item.number) (entries_below nodes depth items) in
      sums (length (pages_under nodes depth item.number)) (length (pages_below nodes depth items))
      (length (entries_under nodes depth item.number)) (length (entries_below nodes depth items)) (length items)
      (length (pages_below nodes depth (item ∷ items))) (length (entries_below nodes depth (item ∷ items)))
      here rest pages entries
    where
      sums : (a b c d n p e : ℕ) → a * spare + 1 ≤ c → b * spare + n ≤ d → p ≡ a + b → e ≡ c + d
          → p * spare + suc n ≤ e
      sums a b c d n p e one two pages entries =
          let all : p * spare ≡ (a + b) * spare = ap (λ x. x * spare) pages in omega (arith, one, two, entries, all)

  length-pages_under : (depth page : ℕ) (low : List ℕ) (high : Option (List ℕ))
      → IsSubtree nodes (suc spare) most depth (suc spare) low high page
      → length (pages_under nodes depth page) * spare + 1 ≤ length (entries_under nodes depth page)
  length-pages_under zero page low high tree = let least = tree.filled.enough in omega (arith, least)
  length-pages_under (suc depth) page low high tree =
      let least = tree.filled.enough in
      let below = length-below depth (λ p l h t. length-pages_under depth p l h t) (node_at nodes page).items high tree.parts in
      sums (length (pages_below nodes depth (node_at nodes page).items)) (length (node_at nodes page).items)
      (length (entries_below nodes depth (node_at nodes page).items)) least below
    where
      sums : (p n e : ℕ) → suc spare ≤ n → p * spare + n ≤ e → suc p * spare + 1 ≤ e
      sums p n e least below = omega (arith, least, below)

  length-pages_root : (depth page top : ℕ) (low : List ℕ) (high : Option (List ℕ)) → 0 < spare
      → IsSubtree nodes (suc spare) most depth top low high page
      → length (pages_under nodes depth page) ≤ 1 + length (entries_under nodes depth page) / spare
  length-pages_root zero page top low high some tree = omega arith
  length-pages_root (suc depth) page top low high some tree =
      let below = length-below depth (λ p l h t. length-pages_under depth p l h t) (node_at nodes page).items high tree.parts in
      sums (length (pages_below nodes depth (node_at nodes page).items)) (length (node_at nodes page).items)
      (length (entries_below nodes depth (node_at nodes page).items)) below
    where
      sums : (p n e : ℕ) → p * spare + n ≤ e → suc p ≤ 1 + e / spare
      sums p n e below =
          let few : p ≤ e / spare = (le-div_iff_mul-le {k = spare} {x = p} {y = e} some).1 (omega (arith, below)) in
          omega (arith, few)

-- each page but the root has an entry more than the pages below it and itself take
pub length-pages : (nodes : List Node) (fewest most depth page : ℕ) (low : List ℕ) (high : Option (List ℕ)) → 0 < fewest
    → IsSubtree nodes fewest most depth fewest low high page
    → length (pages_under nodes depth page) * (fewest - 1) ≤ length (entries_under nodes depth page) - 1
length-pages nodes zero most depth page low high some tree = absurd (omega (arith, some))
length-pages nodes (suc spare) most depth page low high some tree =
    subst (λ n. length (pages_under nodes depth page) * n ≤ length (entries_under nodes depth page) - 1)
    (let same : spare ≡ suc spare - 1 = omega arith in same)
    (let all = length-pages_under nodes most spare depth page low high tree in omega (arith, all))

pub length-pages_of_root : (nodes : List Node) (fewest most depth page top : ℕ) (low : List ℕ) (high : Option (List ℕ))
    → 1 < fewest → IsSubtree nodes fewest most depth top low high page
    → length (pages_under nodes depth page) ≤ 1 + length (entries_under nodes depth page) / (fewest - 1)
length-pages_of_root nodes zero most depth page top low high some tree = absurd (omega (arith, some))
length-pages_of_root nodes (suc spare) most depth page top low high some tree =
    subst (λ n. length (pages_under nodes depth page) ≤ 1 + length (entries_under nodes depth page) / n)
    (let same : spare ≡ suc spare - 1 = omega arith in same)
    (length-pages_root nodes most spare depth page top low high (omega (arith, some)) tree)

-- ---- the height

module _ (nodes : List Node) (fewest most : ℕ) (two : 1 < fewest) where
  entries-many : (depth many : ℕ) → ((page : ℕ) (low : List ℕ) (high : Option (List ℕ))
      → IsSubtree nodes fewest most depth fewest low high page → many ≤ length (entries_under nodes depth page))
      → (items : List Item) (high : Option (List ℕ)) → HasParts (IsSubtree nodes fewest most depth fewest) items high
      → length items * many ≤ length (entries_below nodes depth items)
  entries-many depth many each [] high parts = omega arith
  entries-many depth many each (item ∷ items) high parts =
      let here = each item.number item.key (next_key items high) parts.0 in
      let rest = entries-many depth many each items high parts.1 in
      let all = length-append (entries_under nodes depth item.number) (entries_below nodes depth items) in
      omega (arith, here, rest, all)

  pages-many : (depth many : ℕ) → ((page : ℕ) (low : List ℕ) (high : Option (List ℕ))
      → IsSubtree nodes fewest most depth fewest low high page → many ≤ length (pages_under nodes depth page) + 1)
      → (items : List Item) (high : Option (List ℕ)) → HasParts (IsSubtree nodes fewest most depth fewest) items high
      → length items * many ≤ length (pages_below nodes depth items) + length items
  pages-many depth many each [] high parts = omega arith
  pages-many depth many each (item ∷ items) high parts =
      let here = each item.number item.key (next_key items high) parts.0 in
      let rest = pages-many depth many each items high parts.1 in
      let all = length-append (pages_under nodes depth item.number) (pages_below nodes depth items) in
      omega (arith, here, rest, all)

  pub length-entries_pow : (depth page : ℕ) (low : List ℕ) (high : Option (List ℕ))
      → IsSubtree nodes fewest most depth fewest low high page → 2 ^ suc depth ≤ length (entries_under nodes depth page)
  length-entries_pow zero page low high tree = let least = tree.filled.enough in omega (arith, least, two)
  length-entries_pow (suc depth) page low high tree =
      let least = tree.filled.enough in
      let all = entries-many depth (2 ^ suc depth) (λ p l h t. length-entries_pow depth p l h t) (node_at nodes page).items
      high tree.parts in
      let more : 2 * 2 ^ suc depth ≤ length (node_at nodes page).items * 2 ^ suc depth =
      mul-le-mul_right (2 ^ suc depth) (let n : 2 ≤ length (node_at nodes page).items = omega (arith, least, two) in n) in
      let power = pow-suc 2 (suc depth) in
      omega (arith, all, more, power)

  pub length-pages_pow : (depth page top : ℕ) (low : List ℕ) (high : Option (List ℕ)) → (0 < depth → 1 < top)
      → IsSubtree nodes fewest most depth top low high page → 2 ^ suc depth ≤ length (pages_under nodes depth page) + 1
  length-pages_pow zero page top low high root tree = omega arith
  length-pages_pow (suc depth) page top low high root tree =
      let least = tree.filled.enough in
      let all = pages-many depth (2 ^ suc depth) (λ p l h t. length-pages_pow depth p fewest l h (λ more. two) t)
      (node_at nodes page).items high tree.parts in
      let power = pow-suc 2 (suc depth) in
      let one = root (omega arith) in
      sums (2 ^ suc depth) (2 ^ suc (suc depth)) (length (node_at nodes page).items)
      (length (pages_below nodes depth (node_at nodes page).items)) (pow_pos (suc depth)) (omega (arith, least, one)) all power
    where
      sums : (x y n p : ℕ) → 0 < x → 2 ≤ n → n * x ≤ p + n → y ≡ x * 2 → y ≤ suc p + 1
      sums zero y n p some many all power = absurd (omega (arith, some))
      sums (suc x) y n p some many all power =
          let more : 2 * x ≤ n * x = mul-le-mul_right x many in
          omega (arith, all, power, more)

  pub length-entries_root : (depth page top : ℕ) (low : List ℕ) (high : Option (List ℕ)) → 1 < top
      → IsSubtree nodes fewest most depth top low high page → 2 ^ suc depth ≤ length (entries_under nodes depth page)
  length-entries_root zero page top low high one tree = let least = tree.filled.enough in omega (arith, least, one)
  length-entries_root (suc depth) page top low high one tree =
      let least = tree.filled.enough in
      let all = entries-many depth (2 ^ suc depth) (λ p l h t. length-entries_pow depth p l h t) (node_at nodes page).items
      high tree.parts in
      let more : 2 * 2 ^ suc depth ≤ length (node_at nodes page).items * 2 ^ suc depth =
      mul-le-mul_right (2 ^ suc depth) (let n : 2 ≤ length (node_at nodes page).items = omega (arith, least, one) in n) in
      let power = pow-suc 2 (suc depth) in
      omega (arith, all, more, power)

-- a look-up reads the header of the root, and one page a level: no more than two and the binary digits of the number of
-- entries, and where the root isn't a leaf no more than these
pub reads-entries : (fewest most : ℕ) (least_key : List ℕ) (nodes : List Node) (digits : ℕ) → 1 < fewest
    → IsTree fewest most least_key nodes → length (entries_under nodes (height_of nodes) 0) < 2 ^ digits
    → height_of nodes + 2 ≤ digits + 2
reads-entries fewest most least_key nodes digits two tree fits = by (height_of nodes) tree.subtree fits
  where
    by : (h : ℕ) → IsSubtree nodes fewest most h (root_least h) least_key None 0
        → length (entries_under nodes h 0) < 2 ^ digits → h + 2 ≤ digits + 2
    by zero t f = omega arith
    by (suc h) t f = elim (cases_lt (suc h) digits) [
      | inl less ↦ omega (arith, less)
      | inr past ↦
          let high = length-entries_root nodes fewest most two (suc h) 0 2 least_key None (omega arith) t in
          let more : 2 ^ digits ≤ 2 ^ suc (suc h) =
          pow_mono {i = digits} {j = suc (suc h)} (omega (arith, past)) in
          absurd (omega (arith, high, more, f))
    ]

-- ---- all pages of a segment

total : ℕ → List ℕ → ℕ
total zero xs = 0
total (suc n) xs = total n xs + times n xs

total-cons : (n x : ℕ) (xs : List ℕ) → total n (x ∷ xs) ≡ cond (ltb x n) 1 0 + total n xs
unfolding total
total-cons zero x xs = let none : cond {A = ℕ} (ltb x 0) 1 0 ≡ 0 = grind (arith, nat_tests) in omega (arith, none)
total-cons (suc n) x xs = let rest = total-cons n x xs in by rest
  where
    by : total n (x ∷ xs) ≡ cond (ltb x n) 1 0 + total n xs
        → total n (x ∷ xs) + (same_as n x + times n xs) ≡ cond (ltb x (suc n)) 1 0 + (total n xs + times n xs)
    by rest = let one : cond (ltb x n) 1 0 + same_as n x ≡ cond (ltb x (suc n)) 1 0 = grind (arith, nat_tests) in omega (arith, rest, one)

total-all : (n : ℕ) (xs : List ℕ) → ((q : ℕ) → q < n → times q xs ≡ 1) → total n xs ≡ n
unfolding total
total-all zero xs each = refl
total-all (suc n) xs each =
    let rest = total-all n xs (λ q below. each q (omega (arith, below))) in
    let here = each n (omega arith) in
    omega (arith, rest, here)

length-total : (n : ℕ) (xs : List ℕ) → ((q : ℕ) → n ≤ q → times q xs ≡ 0) → length xs ≡ total n xs
unfolding total
length-total n [] none = sym (nothing n)
  where
    nothing : (k : ℕ) → total k [] ≡ 0
    nothing zero = refl
    nothing (suc k) = let rest = nothing k in omega (arith, rest)
length-total n (x ∷ xs) none =
    let rest = length-total n xs (λ q past. let all = none q past in omega (arith, all)) in
    let here = total-cons n x xs in
    let one : cond (ltb x n) 1 0 ≡ 1 = by (cases_lt x n) in
    omega (arith, rest, here, one)
  where
    by : (x < n) ⊎ (n ≤ x) → cond {A = ℕ} (ltb x n) 1 0 ≡ 1
    by (inl less) = grind (arith, nat_tests)
    by (inr past) = absurd (let no = none x past in let there = times-first x xs in omega (arith, no, there))

-- as many numbers as there are pages, where each page stands among them once
pub length-once : (nodes : List Node) (pages : List ℕ) → ((q : ℕ) → times q pages ≡ has_page nodes q)
    → length pages ≡ length nodes
length-once nodes pages once =
    length-total (length nodes) pages (λ q past. once q ∙ has_page-no nodes q past)
    ∙ total-all (length nodes) pages (λ q below. once q ∙ has_page-yes nodes q below)

-- the pages of a segment are the tree's and the free ones
pub length-pages_all : (fewest most top : ℕ) (least_key : List ℕ) (nodes : List Node) (free : List ℕ)
    → IsRooted fewest most top least_key nodes free
    → length nodes ≡ length (pages_under nodes (height_of nodes) 0) + length free
length-pages_all fewest most top least_key nodes free rooted =
    sym (length-once nodes (pages_under nodes (height_of nodes) 0 ++ free) rooted.once)
    ∙ length-append (pages_under nodes (height_of nodes) 0) free

-- where none is free, they are no more than those that its entries take
pub length-none_free : (fewest most top : ℕ) (least_key : List ℕ) (nodes : List Node) → 1 < fewest
    → IsRooted fewest most top least_key nodes []
    → length nodes ≤ 1 + length (entries_under nodes (height_of nodes) 0) / (fewest - 1)
length-none_free fewest most top least_key nodes two rooted =
    let all = length-pages_all fewest most top least_key nodes [] rooted in
    let few = length-pages_of_root nodes fewest most (height_of nodes) 0 top least_key None two rooted.subtree in
    omega (arith, all, few)

-- a page is added only where none is free: then the segment has no more pages than for so many entries
pub most_pages-taken : (fewest most top count : ℕ) (least_key : List ℕ) (old new : List Node) (free : List ℕ)
    → 1 < fewest → IsRooted fewest most top least_key old free
    → length (entries_under old (height_of old) 0) ≤ count → length old ≤ most_pages fewest count
    → (free ≡ [] → length new ≡ length old + 1) → (free ≢ [] → length new ≡ length old)
    → length new ≤ most_pages fewest count
most_pages-taken fewest most top count least_key old new [] two rooted few fits grown kept =
    let all = length-none_free fewest most top least_key old two rooted in
    let one = grown refl in
    let more = quotients (length (entries_under old (height_of old) 0)) count (fewest - 1) (omega (arith, two)) few in
    omega (arith, all, one, more)
  where
    quotients : (a b k : ℕ) → 0 < k → a ≤ b → a / k ≤ b / k
    quotients a b k some less =
        (le-div_iff_mul-le {k = k} {x = a / k} {y = b} some).1
        (let whole = div-mul-le_self a k in omega (arith, whole, less))
most_pages-taken fewest most top count least_key old new (first ∷ free) two rooted few fits grown kept =
    let same = kept (λ none. absurd (cc)) in omega (arith, same, fits)
