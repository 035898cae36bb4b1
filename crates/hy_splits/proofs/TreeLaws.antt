-- A child was split: the tree is one still, and the key leads to the half.
use Rattle.std.proofs.Common.{◌≡◌, inl, inr, ℕ, zero, suc, ◌+◌, ◌<◌, ◌≤◌, true, false, None, List, [], ◌∷◌, ◌++◌, length, take, drop, slice_index_or, sym, ap, ◌∙◌, subst, arith}
use Rattle.std.proofs.lemmas.List.{append_assoc}
use Rattle.hy_trees.specs.Nodes.{Item, Node, no_item, node_at}
use Rattle.hy_trees.specs.Trees.{IsBelow, IsSubtree, IsTree, StandOnce, Reshapes, entries_under, height_of, is_less_bytes, next_key, pages_under, root_least}
use Rattle.hy_trees.specs.Groups.{IsRooted, Splits}
use Rattle.hy_trees.specs.Leaves.{Leads}
use Rattle.hy_trees.proofs.ChildLaws.{IsSubtree-split, Reshapes-split}
use Rattle.hy_trees.proofs.LeadsLaws.{IsRooted-leads, Leads-child, StandOnce-leads}
use Rattle.hy_trees.proofs.NumberLaws.{length-pages_all}
use Rattle.hy_trees.proofs.PlaceLaws.{Leads-within, filled_at}
use Rattle.hy_trees.proofs.ReshapeLaws.{Reshapes-refl}
use Rattle.hy_trees.proofs.RootLaws.{IsTree-from_rooted, StandOnce-rooted}
use Rattle.hy_splits.specs.Splits.{SplitsChild, child_at}
use Rattle.hy_splits.proofs.NumberLaws.{GrowsOnce, grows-free, tree-length, tree-rooted}

-- the next key is that of the item at a place, if one is there
next_key-from : (items : List Item) (place : ℕ) (key : List ℕ) → (place < length items → is_less_bytes key (slice_index_or items place no_item).key ≡ true) → IsBelow (next_key (drop place items) None) key
next_key-from [] zero key less = tt
next_key-from [] (suc place) key less = tt
next_key-from (item ∷ items) zero key less = less (omega arith)
next_key-from (item ∷ items) (suc place) key less = next_key-from items place key (λ within. less (omega (arith, within)))

some-place : (items : List Item) (place : ℕ) → 0 < length (take place items) → 0 < place
some-place items zero some = absurd (omega (arith, some))
some-place items (suc place) some = omega arith

module _ (fewest most : ℕ) (least : List ℕ) (old : List Node) (tree : IsTree fewest most least old) (key : List ℕ) (depth page : ℕ)
    (leads : Leads old fewest most (height_of old) (root_least (height_of old)) least key depth page) where
  pub leads-once : StandOnce old tree.free depth page
  leads-once =
      StandOnce-leads old fewest most (height_of old) (root_least (height_of old)) least key depth page leads old tree.free tree.free
      (StandOnce-rooted fewest most (root_least (height_of old)) least old tree.free (tree-rooted fewest most least old tree))
      (Reshapes-refl old tree.free depth page tree.are_free)

module _ (fewest most : ℕ) (least : List ℕ) (old new : List Node) (tree : IsTree fewest most least old) (key : List ℕ) (depth page place half : ℕ)
    (leads : Leads old fewest most (height_of old) (root_least (height_of old)) least key (suc depth) page)
    (split : SplitsChild fewest most old new key page place half) (some : 0 < fewest)
    (room : length (node_at old page).items < most) (within : place < length (node_at old page).items) where
  splits : Splits old new tree.free (drop 1 tree.free) page (take place (node_at old page).items) (child_at old page place) split.right (drop (place + 1) (node_at old page).items)
  splits = split.splits tree.free depth tree.are_free (leads-once fewest most least old tree key (suc depth) page leads)

  reshapes : Reshapes old new tree.free (drop 1 tree.free) (suc depth) page
  reshapes =
      Reshapes-split old new tree.free (drop 1 tree.free) depth page (take place (node_at old page).items) (child_at old page place) split.right (drop (place + 1) (node_at old page).items) splits
      (leads-once fewest most least old tree key (suc depth) page leads)

  subtree : IsSubtree new fewest most (suc depth) leads.top leads.low leads.high page
  subtree =
      let filled = filled_at old fewest most (suc depth) leads.top leads.low leads.high page leads.subtree in
      IsSubtree-split old new tree.free (drop 1 tree.free) depth page (take place (node_at old page).items) (child_at old page place) split.right (drop (place + 1) (node_at old page).items) splits
      (leads-once fewest most least old tree key (suc depth) page leads) fewest most leads.top leads.top leads.low leads.high some leads.subtree room
      (let enough = filled.enough in omega (arith, enough)) split.left.enough split.behind.enough

  all : IsRooted fewest most (root_least (height_of old)) least new (drop 1 tree.free) × Reshapes old new tree.free (drop 1 tree.free) (height_of old) 0
      × Leads new fewest most (height_of new) (root_least (height_of old)) least key (suc depth) page
  all = IsRooted-leads fewest most (root_least (height_of old)) least key old new tree.free (drop 1 tree.free) (suc depth) page (tree-rooted fewest most least old tree) leads reshapes subtree

  same_height : height_of new ≡ height_of old
  same_height = splits.height

  pub split-tree : IsTree fewest most least new
  split-tree =
      IsTree-from_rooted fewest most (root_least (height_of old)) least new (drop 1 tree.free) all.0
      (let same : root_least (height_of new) ≡ root_least (height_of old) = ap root_least same_height in omega (arith, same))

  pub split-entries : entries_under new (height_of new) 0 ≡ entries_under old (height_of old) 0
  split-entries = ap (λ (h : ℕ). entries_under new h 0) same_height ∙ all.1.entries

  pub split-longer : length old ≤ length new
  split-longer = splits.longer

  pub split-few : GrowsOnce old new → length (pages_under new (height_of new) 0) ≤ length (pages_under old (height_of old) 0) + 1
  split-few grows =
      let was = tree-length fewest most least old tree in
      let is = length-pages_all fewest most (root_least (height_of old)) least new (drop 1 tree.free) all.0 in
      let grown = grows-free old new tree.free tree.are_free grows in
      omega (arith, was, is, grown)

  leads-page : Leads new fewest most (height_of new) (root_least (height_of new)) least key (suc depth) page
  leads-page = subst (λ (fewest_root : ℕ). Leads new fewest most (height_of new) fewest_root least key (suc depth) page) (ap root_least (sym same_height)) all.2

  module _ (from : 0 < place → is_less_bytes key (child_at old page place).key ≡ false)
      (behind : place + 1 < length (node_at old page).items → is_less_bytes key (child_at old page (place + 1)).key ≡ true) where
    pub split-leads : Leads new fewest most (height_of new) (root_least (height_of new)) least key depth half
    split-leads = elim split.leads [
      | inl left ↦ subst (λ (q : ℕ). Leads new fewest most (height_of new) (root_least (height_of new)) least key depth q) (sym left.1)
          (Leads-child new fewest most (height_of new) (root_least (height_of new)) least key depth page (take place (node_at old page).items) (child_at old page place) (split.right ∷ drop (place + 1) (node_at old page).items)
          some leads-page high splits.new_items (λ front. from (some-place (node_at old page).items place front)) left.0)
      | inr right ↦ subst (λ (q : ℕ). Leads new fewest most (height_of new) (root_least (height_of new)) least key depth q) (sym right.1)
          (Leads-child new fewest most (height_of new) (root_least (height_of new)) least key depth page (take place (node_at old page).items ++ child_at old page place ∷ []) split.right (drop (place + 1) (node_at old page).items)
          some leads-page high
          (splits.new_items ∙ sym (append_assoc (take place (node_at old page).items) (child_at old page place ∷ []) (split.right ∷ drop (place + 1) (node_at old page).items)))
          (λ front. right.0) (next_key-from (node_at old page).items (place + 1) key behind))
    ]
      where
        high : suc depth ≤ height_of new
        high = Leads-within new fewest most (height_of new) (root_least (height_of new)) least key (suc depth) page leads-page

    pub split-room : length (node_at new half).items < most
    split-room = elim split.leads [
      | inl left ↦ subst (λ (q : ℕ). length (node_at new q).items < most) (sym left.1) split.left.room
      | inr right ↦ subst (λ (q : ℕ). length (node_at new q).items < most) (sym right.1) split.behind.room
    ]
