-- A search in the leaf of a key, in the words of the whole tree.
use Rattle.std.proofs.Common.{◌≡◌, ℕ, suc, ◌+◌, ◌<◌, ◌≤◌, Bool, true, false, List, [], ◌∷◌, ◌++◌, length, take, drop, slice_index_or, refl, ap, ◌∙◌, arith, length-drop}
use Rattle.std.specs.List.{AllByRecursion}
use Rattle.std.proofs.lemmas.List.{get_or-drop, get_or-take, length-take-le}
use Rattle.hy_space.specs.Space.{SpaceState, IsSound}
use Rattle.hy_trees.specs.Nodes.{Item, no_item, node_at}
use Rattle.hy_trees.specs.Trees.{is_less_bytes}
use Rattle.hy_trees.specs.Leaves.{AreAbove, AreBelow}
use Rattle.hy_trees.proofs.OrderLaws.{same-from_not}
use Rattle.hy_trees.proofs.PlaceLaws.{split_at}
use Rattle.hy_joins.specs.of_nodes.declared.pages.Tree.{Tree}
use Rattle.hy_joins.specs.of_nodes.Nodes.{item_at, item_count, key_at}
use Rattle.hy_joins.specs.of_nodes.Pages.{nodes_in, page_in}
use Rattle.hy_joins.specs.of_nodes.Places.{IsSought}
use Rattle.hy_joins.specs.of_nodes.Ways.{HasTree, LeadsTo}
use Rattle.hy_joins.proofs.of_nodes.PlaceLaws.{above-behind}
use Rattle.hy_joins.proofs.of_nodes.ReachLaws.{reached-count, reached-item, reached-rising}
use Rattle.hy_index.proofs.FoundLaws.{behind-absent}

-- what holds of each place holds of all
pub all-places : {X : Type 0} (P : X → Type 0) (xs : List X) (d : X) → ((i : ℕ) → i < length xs → P (slice_index_or xs i d)) → AllByRecursion P xs
all-places P [] d each = tt
all-places P (x ∷ xs) d each = (each 0 (omega arith), all-places P xs d (λ i within. each (suc i) (omega (arith, within))))

module _ (n : ℕ) (space : SpaceState) (tree : Tree) (key : List ℕ) (there : tree.segment < length space.owner) (sound : IsSound n space) (has : HasTree n space tree)
    (leaf : ℕ) (leads : LeadsTo n space tree key 0 leaf) (place : ℕ) where
  abbrev items : List Item
  items = (node_at (nodes_in space tree) leaf).items

  count_is : length items ≡ item_count (page_in space tree leaf)
  count_is = reached-count n space tree key there sound has 0 leaf leads (page_in space tree leaf) refl

  item_is : (k : ℕ) → k < item_count (page_in space tree leaf) → slice_index_or items k no_item ≡ item_at tree.key_bytes (page_in space tree leaf) k
  item_is k within = reached-item n space tree key there sound has 0 leaf leads (page_in space tree leaf) refl k within

  pub front-below : (is_there : Bool) → IsSought tree.key_bytes (page_in space tree leaf) key place is_there → AreBelow key (take place items)
  front-below is_there sought =
      let size = length-take-le place items (omega (arith, sought.bound.within, count_is)) in
      all-places (λ (item : Item). is_less_bytes item.key key ≡ true) (take place items) no_item (λ i within.
      ap (λ (item : Item). is_less_bytes item.key key) (get_or-take place items i no_item (omega (arith, within, size)) ∙ item_is i (omega (arith, within, size, sought.bound.within)))
      ∙ sought.bound.before i (omega (arith, within, size)))

  -- from a place on all stand behind the key
  above-from : (from : ℕ) → ((k : ℕ) → from ≤ k → k < item_count (page_in space tree leaf) → is_less_bytes key (key_at tree.key_bytes (page_in space tree leaf) k) ≡ true) → AreAbove key (drop from items)
  above-from from behind =
      let size = length-drop from items in
      all-places (λ (item : Item). is_less_bytes key item.key ≡ true) (drop from items) no_item (λ i within.
      ap (λ (item : Item). is_less_bytes key item.key) (get_or-drop from items i no_item ∙ item_is (from + i) (omega (arith, within, size, count_is)))
      ∙ behind (from + i) (omega arith) (omega (arith, within, size, count_is)))

  pub rest-above : IsSought tree.key_bytes (page_in space tree leaf) key place false → AreAbove key (drop place items)
  rest-above sought = above-from place (behind-absent tree.key_bytes (page_in space tree leaf) key place (reached-rising n space tree key there sound has 0 leaf leads (page_in space tree leaf) refl) sought)

  module _ (sought : IsSought tree.key_bytes (page_in space tree leaf) key place true) where
    pub within_items : place < length items
    within_items = omega (arith, (sought.there refl).0, count_is)

    pub items-there : items ≡ take place items ++ (slice_index_or items place no_item ∷ drop (suc place) items)
    items-there = split_at items place within_items

    pub key-there : (slice_index_or items place no_item).key ≡ key
    key-there =
        ap (λ (item : Item). item.key) (item_is place (sought.there refl).0)
        ∙ same-from_not (key_at tree.key_bytes (page_in space tree leaf) place) key (sought.bound.behind place (omega arith) (sought.there refl).0) (sought.there refl).1

    pub above-there : AreAbove key (drop (suc place) items)
    above-there = above-from (suc place) (λ k from within.
        above-behind tree.key_bytes (page_in space tree leaf) key (item_count (page_in space tree leaf)) (reached-rising n space tree key there sound has 0 leaf leads (page_in space tree leaf) refl) place k (omega (arith, from)) within
        (sought.bound.behind place (omega arith) (sought.there refl).0))
