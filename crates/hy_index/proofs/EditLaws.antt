-- A tree in which the leaf to which a key leads has other items: one more, one with another number, or one less.
use Rattle.std.proofs.Common.{◌≡◌, ◌⊎◌, inl, inr, ℕ, zero, suc, ◌<◌, List, [], ◌∷◌, ◌++◌, length, None, refl, ap, arith}
use Rattle.hy_trees.specs.Nodes.{Item, Node, node_at, with_items, with_node}
use Rattle.hy_trees.specs.Trees.{IsTree, entries_under, height_of, pages_under, root_least, times}
use Rattle.hy_trees.specs.Groups.{IsRooted}
use Rattle.hy_trees.specs.Leaves.{AreAbove, AreBelow, EditsLeaf, Leads, LeadsToLeaf, leaf_least}
use Rattle.hy_trees.specs.Searches.{with_item, without}
use Rattle.hy_trees.proofs.CountLaws.{has_page-le, times-append, times-first}
use Rattle.hy_trees.proofs.NodeLaws.{node_at-with_node_same}
use Rattle.hy_trees.proofs.RootLaws.{IsRooted-from_tree, IsTree-from_rooted}
use Rattle.hy_trees.proofs.EditLaws.{EditsLeaf-with_items, once-under}
use Rattle.hy_trees.proofs.EntryLaws.{IsRooted-inserted, IsRooted-numbered, IsRooted-removed}
use Rattle.hy_trees.proofs.LeadsLaws.{LeadsToLeaf-leads}
use Rattle.hy_trees.proofs.PlaceLaws.{reached}

module _ (fewest most : ℕ) (least key : List ℕ) (nodes : List Node) (tree : IsTree fewest most least nodes) (leaf : ℕ)
    (leads : Leads nodes fewest most (height_of nodes) (root_least (height_of nodes)) least key 0 leaf) where
  abbrev least_of_root : ℕ
  least_of_root = root_least (height_of nodes)

  rooted : IsRooted fewest most least_of_root least nodes tree.free
  rooted = IsRooted-from_tree fewest most least nodes tree

  pub within_leaf : leaf < length nodes
  within_leaf = reached nodes fewest most least key (height_of nodes) 0 leaf tree refl leads

  to_leaf : LeadsToLeaf nodes fewest most (height_of nodes) least_of_root least None 0 key leaf
  to_leaf = LeadsToLeaf-leads nodes fewest most (height_of nodes) least_of_root least key leaf leads (once-under fewest most least_of_root least nodes tree.free rooted)

  none_free : times leaf tree.free ≡ 0
  none_free =
      let once = rooted.once leaf in
      let all = times-append leaf (pages_under nodes (height_of nodes) 0) tree.free in
      let one = has_page-le nodes leaf in
      omega (arith, once, all, one, to_leaf.there)

  module _ (items : List Item) where
    abbrev changed : List Node
    changed = with_node nodes leaf (with_items (node_at nodes leaf) items)

    edits : EditsLeaf nodes changed tree.free leaf
    edits = EditsLeaf-with_items nodes tree.free leaf items within_leaf none_free tree.are_free

    items_are : (node_at changed leaf).items ≡ items
    items_are = ap (λ (node : Node). node.items) (node_at-with_node_same nodes leaf (with_items (node_at nodes leaf) items) within_leaf)

    a_tree : IsRooted fewest most least_of_root least changed tree.free → IsTree fewest most least changed
    a_tree is = IsTree-from_rooted fewest most least_of_root least changed tree.free is (let same = ap root_least edits.height in omega (arith, same))

  -- an item more
  pub tree-inserted : (number : ℕ) (xs ys : List Item) → (node_at nodes leaf).items ≡ xs ++ ys → AreBelow key xs → AreAbove key ys → length (node_at nodes leaf).items < most
      → IsTree fewest most least (with_node nodes leaf (with_items (node_at nodes leaf) (xs ++ (record { key = key; number = number } ∷ ys))))
      × (entries_under (with_node nodes leaf (with_items (node_at nodes leaf) (xs ++ (record { key = key; number = number } ∷ ys)))) (height_of (with_node nodes leaf (with_items (node_at nodes leaf) (xs ++ (record { key = key; number = number } ∷ ys))))) 0
      ≡ with_item key number (entries_under nodes (height_of nodes) 0))
  tree-inserted number xs ys is below above room =
      let all : List Item = xs ++ (record { key = key; number = number } ∷ ys) in
      let done = IsRooted-inserted fewest most least_of_root least nodes (changed all) tree.free key leaf rooted to_leaf (edits all) number xs ys is below above room (items_are all) in
      (a_tree all done.0, done.1)

  -- an item with another number
  pub tree-numbered : (number : ℕ) (xs : List Item) (item : Item) (ys : List Item) → (node_at nodes leaf).items ≡ xs ++ (item ∷ ys) → item.key ≡ key → AreBelow key xs → AreAbove key ys
      → IsTree fewest most least (with_node nodes leaf (with_items (node_at nodes leaf) (xs ++ (record { key = key; number = number } ∷ ys))))
      × (entries_under (with_node nodes leaf (with_items (node_at nodes leaf) (xs ++ (record { key = key; number = number } ∷ ys)))) (height_of (with_node nodes leaf (with_items (node_at nodes leaf) (xs ++ (record { key = key; number = number } ∷ ys))))) 0
      ≡ with_item key number (entries_under nodes (height_of nodes) 0))
  tree-numbered number xs item ys is same below above =
      let all : List Item = xs ++ (record { key = key; number = number } ∷ ys) in
      let done = IsRooted-numbered fewest most least_of_root least nodes (changed all) tree.free key leaf rooted to_leaf (edits all) number xs item ys is same below above (items_are all) in
      (a_tree all done.0, done.1)

  -- an item less
  enough : (leaf ≡ 0) ⊎ (fewest < length (node_at nodes leaf).items) → 0 < length (node_at nodes leaf).items → leaf_least (height_of nodes) least_of_root fewest < length (node_at nodes leaf).items
  enough spare some = by (height_of nodes) refl leads.is_top
    where
      by : (h : ℕ) → h ≡ height_of nodes → ((0 < height_of nodes) × (leads.top ≡ fewest)) ⊎ ((0 ≡ height_of nodes) × (leaf ≡ 0) × (leads.top ≡ root_least (height_of nodes))) → leaf_least h (root_least h) fewest < length (node_at nodes leaf).items
      by zero is top = some
      by (suc h) is (inl below) =
          let outer = leads.root below.0 in
          let once = once-under fewest most least_of_root least nodes tree.free rooted 0 in
          let all = leads.pages nodes (λ q some. refl) 0 in
          elim spare [
            | inl root ↦ let here : times 0 (leaf ∷ []) ≡ times 0 (0 ∷ []) = ap (λ (q : ℕ). times 0 (q ∷ [])) root in
                let one = times-first 0 [] in absurd (omega (arith, outer, once, all, here, one))
            | inr more ↦ more
          ]
      by (suc h) is (inr root) = absurd (omega (arith, is, root.0))

  pub tree-removed : (xs : List Item) (item : Item) (ys : List Item) → (node_at nodes leaf).items ≡ xs ++ (item ∷ ys) → item.key ≡ key → AreBelow key xs → AreAbove key ys → (leaf ≡ 0) ⊎ (fewest < length (node_at nodes leaf).items) → 0 < length (node_at nodes leaf).items
      → IsTree fewest most least (with_node nodes leaf (with_items (node_at nodes leaf) (xs ++ ys)))
      × (entries_under (with_node nodes leaf (with_items (node_at nodes leaf) (xs ++ ys))) (height_of (with_node nodes leaf (with_items (node_at nodes leaf) (xs ++ ys)))) 0
      ≡ without key (entries_under nodes (height_of nodes) 0))
  tree-removed xs item ys is same below above spare some =
      let done = IsRooted-removed fewest most least_of_root least nodes (changed (xs ++ ys)) tree.free key leaf rooted to_leaf (edits (xs ++ ys)) xs item ys is same below above (enough spare some) (items_are (xs ++ ys)) in
      (a_tree (xs ++ ys) done.0, done.1)
