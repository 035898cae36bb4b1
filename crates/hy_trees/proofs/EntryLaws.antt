-- A tree after its leaf for a key got an entry more, one with another number, or one less: its entries are the former ones
-- with the key's number, or without the key.
use Rattle.std.proofs.Common.{◌≡◌, ℕ, ◌<◌, List, [], ◌∷◌, ◌++◌, length, Option, None, ap, sym, subst, ◌∙◌, arith}
use Rattle.hy_trees.specs.Nodes.{Item, Node, node_at}
use Rattle.hy_trees.specs.Trees.{IsBelow, IsFrom, IsLeaf, entries_under, height_of, leaf_for, next_key}
use Rattle.hy_trees.specs.Groups.{IsRooted}
use Rattle.hy_trees.specs.Leaves.{AreAbove, AreBelow, EditsLeaf, LeadsToLeaf, leaf_least}
use Rattle.hy_trees.specs.Searches.{with_item, without}
use Rattle.hy_trees.proofs.EditLaws.{IsLeaf-inserted, IsLeaf-removed, IsLeaf-same_key, IsRooted-edited, once-under}
use Rattle.hy_trees.proofs.LeafLaws.{LeadsToLeaf-of}
use Rattle.hy_trees.proofs.RangeLaws.{with_item-leaf, without-leaf}
use Rattle.hy_trees.proofs.SearchLaws.{with_item-new, with_item-there, without-there}

below-next : (key : List ℕ) (items : List Item) (to : Option (List ℕ)) → AreAbove key items → IsBelow to key
    → IsBelow (next_key items to) key
below-next key [] to above below = below
below-next key (item ∷ items) to above below = above.0

module _ (fewest most top : ℕ) (least_key : List ℕ) (old new : List Node) (free : List ℕ) (key : List ℕ) (leaf : ℕ)
    (rooted : IsRooted fewest most top least_key old free)
    (leads : LeadsToLeaf old fewest most (height_of old) top least_key None 0 key leaf)
    (edits : EditsLeaf old new free leaf) where
  edited : (items : List Item) → (node_at new leaf).items ≡ items
      → IsLeaf (leaf_least (height_of old) top fewest) most leads.from leads.to items
      → IsRooted fewest most top least_key new free
      × (entries_under new (height_of new) 0 ≡ leads.front ++ (items ++ leads.behind))
  edited items is is_leaf =
      let all = IsRooted-edited fewest most top least_key old new free key leaf rooted leads edits
      (subst (IsLeaf (leaf_least (height_of old) top fewest) most leads.from leads.to) (sym is) is_leaf) in
      (all.0, all.1 ∙ ap (λ i. leads.front ++ (i ++ leads.behind)) is)

  pub IsRooted-inserted : (number : ℕ) (xs ys : List Item) → (node_at old leaf).items ≡ xs ++ ys → AreBelow key xs
      → AreAbove key ys → length (node_at old leaf).items < most
      → (node_at new leaf).items ≡ xs ++ (record { key = key; number = number } ∷ ys)
      → IsRooted fewest most top least_key new free
      × (entries_under new (height_of new) 0 ≡ with_item key number (entries_under old (height_of old) 0))
  IsRooted-inserted number xs ys was below above room is =
      let all = edited (xs ++ (record { key = key; number = number } ∷ ys)) is
      (IsLeaf-inserted (leaf_least (height_of old) top fewest) most leads.from leads.to xs ys
      (record { key = key; number = number })
      (subst (IsLeaf (leaf_least (height_of old) top fewest) most leads.from leads.to) was leads.is_leaf)
      (let same = ap length was in omega (arith, same, room)) leads.above below (below-next key ys leads.to above leads.below)) in (
        all.0,
        all.1
            ∙ ap (λ i. leads.front ++ (i ++ leads.behind))
            (sym (with_item-new key number xs ys below above) ∙ ap (with_item key number) (sym was))
            ∙ sym (with_item-leaf old fewest most (height_of old) top least_key None 0 key leaf leads number),
      )

  pub IsRooted-numbered : (number : ℕ) (xs : List Item) (item : Item) (ys : List Item)
      → (node_at old leaf).items ≡ xs ++ (item ∷ ys) → item.key ≡ key → AreBelow key xs → AreAbove key ys
      → (node_at new leaf).items ≡ xs ++ (record { key = key; number = number } ∷ ys)
      → IsRooted fewest most top least_key new free
      × (entries_under new (height_of new) 0 ≡ with_item key number (entries_under old (height_of old) 0))
  IsRooted-numbered number xs item ys was same below above is =
      let all = edited (xs ++ (record { key = key; number = number } ∷ ys)) is
      (IsLeaf-same_key (leaf_least (height_of old) top fewest) most leads.from leads.to xs ys item
      (record { key = key; number = number }) (sym same)
      (subst (IsLeaf (leaf_least (height_of old) top fewest) most leads.from leads.to) was leads.is_leaf)) in (
        all.0,
        all.1
            ∙ ap (λ i. leads.front ++ (i ++ leads.behind))
            (sym (with_item-there key number xs item ys same below above) ∙ ap (with_item key number) (sym was))
            ∙ sym (with_item-leaf old fewest most (height_of old) top least_key None 0 key leaf leads number),
      )

  pub IsRooted-removed : (xs : List Item) (item : Item) (ys : List Item)
      → (node_at old leaf).items ≡ xs ++ (item ∷ ys) → item.key ≡ key → AreBelow key xs → AreAbove key ys
      → leaf_least (height_of old) top fewest < length (node_at old leaf).items → (node_at new leaf).items ≡ xs ++ ys
      → IsRooted fewest most top least_key new free
      × (entries_under new (height_of new) 0 ≡ without key (entries_under old (height_of old) 0))
  IsRooted-removed xs item ys was same below above spare is =
      let all = edited (xs ++ ys) is
      (IsLeaf-removed (leaf_least (height_of old) top fewest) most leads.from leads.to xs ys item
      (subst (IsLeaf (leaf_least (height_of old) top fewest) most leads.from leads.to) was leads.is_leaf)
      (let longer = ap length was in omega (arith, longer, spare))) in (
        all.0,
        all.1
            ∙ ap (λ i. leads.front ++ (i ++ leads.behind))
            (sym (without-there key xs item ys same below above) ∙ ap (without key) (sym was))
            ∙ sym (without-leaf old fewest most (height_of old) top least_key None 0 key leaf leads),
      )

-- a key that is no less than the least one leads from the root to a leaf
pub LeadsToLeaf-root : (fewest most top : ℕ) (least_key : List ℕ) (nodes : List Node) (free : List ℕ) (key : List ℕ)
    → 0 < fewest → (0 < height_of nodes → 0 < top) → IsRooted fewest most top least_key nodes free
    → IsFrom least_key key
    → LeadsToLeaf nodes fewest most (height_of nodes) top least_key None 0 key (leaf_for nodes key (height_of nodes) 0)
LeadsToLeaf-root fewest most top least_key nodes free key some root rooted from =
    LeadsToLeaf-of nodes fewest most some (height_of nodes) 0 top least_key None key
    (once-under fewest most top least_key nodes free rooted) from tt root rooted.subtree
