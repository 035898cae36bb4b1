-- What the pages of a tree say after one of them was written, and after one more stands behind them.
use Rattle.std.proofs.Common.{◌≡◌, ◌≢◌, ℕ, ◌<◌, List, ◌++◌, length, Option, inl, inr, ap, sym, ◌∙◌, arith, get_or-set_other, get_or-set_same}
use Rattle.std.proofs.lemmas.Bool.{cases_eq}
use Rattle.std.proofs.lemmas.List.{length-set, get_or_append_left}
use Rattle.hy_trees.specs.Nodes.{Node, no_node, node_at, with_node}
use Rattle.hy_trees.specs.Trees.{IsSubtree, KeepItems, entries_under, pages_under, times}
use Rattle.hy_trees.proofs.FrameLaws.{IsSubtree-kept, entries_under-kept, pages_under-kept}

pub length-with_node : (nodes : List Node) (page : ℕ) (node : Node) → length (with_node nodes page node) ≡ length nodes
length-with_node nodes page node = length-set nodes page node

pub node_at-with_node_same : (nodes : List Node) (page : ℕ) (node : Node) → page < length nodes
    → node_at (with_node nodes page node) page ≡ node
node_at-with_node_same nodes page node within = get_or-set_same nodes page node no_node within

pub node_at-with_node_other : (nodes : List Node) (page : ℕ) (node : Node) (q : ℕ) → q ≢ page
    → node_at (with_node nodes page node) q ≡ node_at nodes q
node_at-with_node_other nodes page node q differs = get_or-set_other nodes page q node no_node differs

pub node_at-more : (nodes more : List Node) (q : ℕ) → q < length nodes → node_at (nodes ++ more) q ≡ node_at nodes q
node_at-more nodes more q within = get_or_append_left nodes more no_node q within

-- pages among which the written one isn't
pub KeepItems-outside : (nodes : List Node) (page : ℕ) (node : Node) (pages : List ℕ) → times page pages ≡ 0
    → KeepItems nodes (with_node nodes page node) pages
KeepItems-outside nodes page node pages none q there = elim (cases_eq q page) [
  | inl same ↦ absurd (let at : times q pages ≡ 0 = ap (λ k. times k pages) same ∙ none in omega (arith, at, there))
  | inr differs ↦ ap (λ (n : Node). n.items) (node_at-with_node_other nodes page node q differs)
]

-- any pages, where the written one has its items still
pub KeepItems-same_items : (nodes : List Node) (page : ℕ) (node : Node) (pages : List ℕ) → page < length nodes
    → node.items ≡ (node_at nodes page).items → KeepItems nodes (with_node nodes page node) pages
KeepItems-same_items nodes page node pages within same q there = elim (cases_eq q page) [
  | inl at ↦
      ap (λ k. (node_at (with_node nodes page node) k).items) at
      ∙ ap (λ (n : Node). n.items) (node_at-with_node_same nodes page node within) ∙ same
      ∙ ap (λ k. (node_at nodes k).items) (sym at)
  | inr differs ↦ ap (λ (n : Node). n.items) (node_at-with_node_other nodes page node q differs)
]

-- pages of a segment, where others are added to it
pub KeepItems-more : (nodes more : List Node) (pages : List ℕ) → ((q : ℕ) → 0 < times q pages → q < length nodes)
    → KeepItems nodes (nodes ++ more) pages
KeepItems-more nodes more pages within q there = ap (λ (n : Node). n.items) (node_at-more nodes more q (within q there))

-- a subtree to which the written page doesn't belong
module _ (nodes : List Node) (q : ℕ) (node : Node) (depth page : ℕ) (none : times q (pages_under nodes depth page) ≡ 0) where
  pub entries_under-outside : entries_under (with_node nodes q node) depth page ≡ entries_under nodes depth page
  entries_under-outside =
      entries_under-kept nodes (with_node nodes q node) depth page
      (KeepItems-outside nodes q node (pages_under nodes depth page) none)

  pub pages_under-outside : pages_under (with_node nodes q node) depth page ≡ pages_under nodes depth page
  pages_under-outside =
      pages_under-kept nodes (with_node nodes q node) depth page
      (KeepItems-outside nodes q node (pages_under nodes depth page) none)

  pub IsSubtree-outside : (fewest most top : ℕ) (low : List ℕ) (high : Option (List ℕ))
      → IsSubtree nodes fewest most depth top low high page
      → IsSubtree (with_node nodes q node) fewest most depth top low high page
  IsSubtree-outside fewest most top low high tree =
      IsSubtree-kept nodes (with_node nodes q node) fewest most depth top low high page
      (KeepItems-outside nodes q node (pages_under nodes depth page) none) tree
