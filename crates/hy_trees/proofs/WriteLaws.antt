-- One page gets other items.
use Rattle.std.proofs.Common.{◌≡◌, ℕ, ◌<◌, List, length, inl, inr, refl, ap, sym, ◌∙◌}
use Rattle.std.proofs.lemmas.Bool.{cases_eq}
use Rattle.hy_trees.specs.Nodes.{Item, Node, node_at, with_height, with_items, with_node}
use Rattle.hy_trees.specs.Trees.{AreFree, height_of}
use Rattle.hy_trees.specs.Groups.{SetsItems}
use Rattle.hy_trees.proofs.NodeLaws.{length-with_node, node_at-with_node_other, node_at-with_node_same}
use Rattle.hy_trees.proofs.FreeLaws.{AreFree-with_node, times-root}

pub height_of-with_node : (nodes : List Node) (page : ℕ) (node : Node) → page < length nodes
    → node.height ≡ (node_at nodes page).height → height_of (with_node nodes page node) ≡ height_of nodes
height_of-with_node nodes page node within same = elim (cases_eq 0 page) [
  | inl is ↦
      ap (λ (k : ℕ). (node_at (with_node nodes page node) k).height) is
      ∙ ap (λ (n : Node). n.height) (node_at-with_node_same nodes page node within) ∙ same
      ∙ ap (λ (k : ℕ). (node_at nodes k).height) (sym is)
  | inr differs ↦ ap (λ (n : Node). n.height) (node_at-with_node_other nodes page node 0 differs)
]

pub SetsItems-with_items : (nodes : List Node) (page : ℕ) (items : List Item) → page < length nodes
    → SetsItems nodes (with_node nodes page (with_items (node_at nodes page) items)) page items
SetsItems-with_items nodes page items within = record {
  pages = length-with_node nodes page (with_items (node_at nodes page) items);
  at = ap (λ (n : Node). n.items) (node_at-with_node_same nodes page (with_items (node_at nodes page) items) within);
  others = λ q differs.
      ap (λ (n : Node). n.items) (node_at-with_node_other nodes page (with_items (node_at nodes page) items) q differs);
  free = λ free none are_free.
      AreFree-with_node nodes page (with_items (node_at nodes page) items) free within none refl are_free;
  height = height_of-with_node nodes page (with_items (node_at nodes page) items) within refl;
}

-- the height is written
pub items-with_height : (nodes : List Node) (height q : ℕ) → 0 < length nodes
    → (node_at (with_node nodes 0 (with_height (node_at nodes 0) height)) q).items ≡ (node_at nodes q).items
items-with_height nodes height q some = elim (cases_eq q 0) [
  | inl is ↦
      ap (λ (k : ℕ). (node_at (with_node nodes 0 (with_height (node_at nodes 0) height)) k).items) is
      ∙ ap (λ (n : Node). n.items) (node_at-with_node_same nodes 0 (with_height (node_at nodes 0) height) some)
      ∙ ap (λ (k : ℕ). (node_at nodes k).items) (sym is)
  | inr differs ↦
      ap (λ (n : Node). n.items) (node_at-with_node_other nodes 0 (with_height (node_at nodes 0) height) q differs)
]

pub height_of-with_height : (nodes : List Node) (height : ℕ) → 0 < length nodes
    → height_of (with_node nodes 0 (with_height (node_at nodes 0) height)) ≡ height
height_of-with_height nodes height some =
    ap (λ (n : Node). n.height) (node_at-with_node_same nodes 0 (with_height (node_at nodes 0) height) some)

pub AreFree-with_height : (nodes : List Node) (height : ℕ) (free : List ℕ) → 0 < length nodes
    → AreFree nodes (node_at nodes 0).next free
    → AreFree (with_node nodes 0 (with_height (node_at nodes 0) height))
    (node_at (with_node nodes 0 (with_height (node_at nodes 0) height)) 0).next free
AreFree-with_height nodes height free some are_free =
    AreFree-with_node nodes 0 (with_height (node_at nodes 0) height) free some
    (times-root nodes (node_at nodes 0).next free are_free) refl are_free
