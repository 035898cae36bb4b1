-- How many pages a segment has, once some were taken for a tree.
use Rattle.std.proofs.Common.{◌≡◌, ◌≢◌, ℕ, ◌+◌, ◌-◌, ◌/◌, ◌<◌, ◌≤◌, None, List, [], ◌∷◌, length, drop, refl, sym, ◌∙◌, subst, arith}
use Rattle.std.proofs.Math.Path.{ap₂}
use Rattle.std.proofs.Math.Nat.{div-mul-le_self, le-div_iff_mul-le}
use Rattle.hy_trees.specs.Nodes.{Node, node_at}
use Rattle.hy_trees.specs.Trees.{AreFree, IsTree, entries_under, height_of, most_pages, pages_under, root_least}
use Rattle.hy_trees.specs.Groups.{IsRooted}
use Rattle.hy_trees.proofs.NumberLaws.{length-pages_all, length-pages_of_root}
use Rattle.hy_trees.proofs.RootLaws.{IsRooted-from_tree}

-- a page is added only where none is free
abbrev pub GrowsOnce : List Node → List Node → Type 0
GrowsOnce old new = (length new ≤ length old + 1) × ((node_at old 0).next ≢ 0 → length new ≡ length old)

pub grows-free : (old new : List Node) (free : List ℕ) → AreFree old (node_at old 0).next free → GrowsOnce old new → length new + length free ≤ length old + 1 + length (drop 1 free)
grows-free old new [] none grows = omega (arith, grows.0)
grows-free old new (first ∷ free) are grows = let same = grows.1 (λ none. are.1 (sym are.0 ∙ none)) in omega (arith, same)

-- the free pages are those that one names after another
pub same-free : (nodes : List Node) (first : ℕ) (one other : List ℕ) → AreFree nodes first one → AreFree nodes first other → one ≡ other
same-free nodes first [] [] none other = refl
same-free nodes first [] (page ∷ pages) none other = absurd (other.1 (sym other.0 ∙ none))
same-free nodes first (page ∷ pages) [] one none = absurd (one.1 (sym one.0 ∙ none))
same-free nodes first (page ∷ pages) (q ∷ qs) one other =
    ap₂ (λ (p : ℕ) (ps : List ℕ). p ∷ ps) same
    (same-free nodes (node_at nodes page).next pages qs one.3 (subst (λ (p : ℕ). AreFree nodes (node_at nodes p).next qs) (sym same) other.3))
  where
    same : page ≡ q
    same = sym one.0 ∙ other.0

pub quotients : (a b k : ℕ) → 0 < k → a ≤ b → a / k ≤ b / k
quotients a b k some less =
    (le-div_iff_mul-le {k = k} {x = a / k} {y = b} some).1
    (let whole = div-mul-le_self a k in omega (arith, whole, less))

module _ (fewest most : ℕ) (least_key : List ℕ) (nodes : List Node) (tree : IsTree fewest most least_key nodes) where
  pub tree-rooted : IsRooted fewest most (root_least (height_of nodes)) least_key nodes tree.free
  tree-rooted = IsRooted-from_tree fewest most least_key nodes tree

  -- each page is in the tree or free
  pub tree-length : length nodes ≡ length (pages_under nodes (height_of nodes) 0) + length tree.free
  tree-length = length-pages_all fewest most (root_least (height_of nodes)) least_key nodes tree.free tree-rooted

  -- two more than those of the tree at most
  module _ (new : List Node) (count : ℕ) (two : 1 < fewest) (few : length (entries_under nodes (height_of nodes) 0) ≤ count) where
    pub within-most : length new ≤ length (pages_under nodes (height_of nodes) 0) + 2 → length new ≤ most_pages fewest count
    within-most less =
        let all = length-pages_of_root nodes fewest most (height_of nodes) 0 (root_least (height_of nodes)) least_key None two tree.subtree in
        let quotient = quotients (length (entries_under nodes (height_of nodes) 0)) count (fewest - 1) (omega (arith, two)) few in
        omega (arith, all, quotient, less)

  -- after one page was taken, where one was needed
  pub once-most : (new : List Node) (count : ℕ) → 1 < fewest → GrowsOnce nodes new → length (entries_under nodes (height_of nodes) 0) ≤ count → length nodes ≤ most_pages fewest count → length new ≤ most_pages fewest count
  once-most new count two grows few fits = by tree.free (grows-free nodes new tree.free tree.are_free grows) tree-length
    where
      by : (free : List ℕ) → length new + length free ≤ length nodes + 1 + length (drop 1 free) → length nodes ≡ length (pages_under nodes (height_of nodes) 0) + length free → length new ≤ most_pages fewest count
      by [] grown all = within-most new count two few (omega (arith, grown, all))
      by (first ∷ free) grown all = omega (arith, grown, fits)

  -- and another one behind it
  pub twice-most : (between new : List Node) (count : ℕ) → 1 < fewest → GrowsOnce nodes between → AreFree between (node_at between 0).next (drop 1 tree.free) → GrowsOnce between new
      → length (entries_under nodes (height_of nodes) 0) ≤ count → length nodes ≤ most_pages fewest count → length new ≤ most_pages fewest count
  twice-most between new count two first are_free second few fits =
      by tree.free (grows-free nodes between tree.free tree.are_free first) (grows-free between new (drop 1 tree.free) are_free second) tree-length
    where
      by : (free : List ℕ) → length between + length free ≤ length nodes + 1 + length (drop 1 free) → length new + length (drop 1 free) ≤ length between + 1 + length (drop 1 (drop 1 free)) → length nodes ≡ length (pages_under nodes (height_of nodes) 0) + length free → length new ≤ most_pages fewest count
      by [] one grown all = within-most new count two few (omega (arith, one, grown, all))
      by (q ∷ []) one grown all = within-most new count two few (omega (arith, one, grown, all))
      by (q ∷ (r ∷ free)) one grown all = omega (arith, one, grown, fits)

  -- where none is free, all pages are in the tree; and all but one, where the one that was taken was the last
  pub none-free : (node_at nodes 0).next ≡ 0 → length nodes ≤ length (pages_under nodes (height_of nodes) 0)
  none-free none = by tree.free tree.are_free tree-length
    where
      by : (free : List ℕ) → AreFree nodes (node_at nodes 0).next free → length nodes ≡ length (pages_under nodes (height_of nodes) 0) + length free → length nodes ≤ length (pages_under nodes (height_of nodes) 0)
      by [] are all = omega (arith, all)
      by (first ∷ free) are all = absurd (are.1 (sym are.0 ∙ none))

  pub one-free : (between : List Node) → AreFree between (node_at between 0).next (drop 1 tree.free) → (node_at between 0).next ≡ 0 → length nodes ≤ length (pages_under nodes (height_of nodes) 0) + 1
  one-free between are_free none = by tree.free are_free tree-length
    where
      by : (free : List ℕ) → AreFree between (node_at between 0).next (drop 1 free) → length nodes ≡ length (pages_under nodes (height_of nodes) 0) + length free → length nodes ≤ length (pages_under nodes (height_of nodes) 0) + 1
      by [] are all = omega (arith, all)
      by (first ∷ []) are all = omega (arith, all)
      by (first ∷ (next ∷ free)) are all = absurd (are.1 (sym are.0 ∙ none))
