-- An index as a map: its entries, and what a search in its tree finds.
use Rattle.std.proofs.Common.{slice_index_or, ◌≡◌, ℕ, zero, suc, ◌+◌, ◌/◌, ◌<◌, ◌≤◌, ◌^◌, Bool, cond, None, List, [], ◌∷◌, length, map, refl, sym, ap, ap₂, ◌∙◌, subst, arith, replicate}
use Rattle.std.specs.List.{AllByRecursion}
use Rattle.std.proofs.lemmas.List.{get_or-map, length-map}
use Rattle.std.proofs.Math.Dec.{eqb-zero-suc}
use Rattle.std.proofs.Math.Nat.{le-max_right}
use Rattle.hy_index.specs.declared.key.Entry.{Entry}
use Rattle.hy_index.specs.Index.{IsInOrder, found}
use Rattle.hy_trees.specs.Trees.{IsTree, entries_under, height_of, is_less_bytes, root_least, times}
use Rattle.hy_index.specs.Writes.{IsIndex, IsSpelled, entries, entry_of, leaf_items}
use Rattle.hy_trees.specs.Nodes.{Item, Node, capacity, least_items, no_item, no_node}
use Rattle.hy_joins.specs.of_nodes.Nodes.{nodes_of}
use Rattle.hy_index.specs.Searches.{found_in}
use Rattle.hy_joins.proofs.of_nodes.NodeLaws.{node-zeros}
use Rattle.hy_trees.proofs.RiseLaws.{AllPairs-entries}
use Rattle.hy_trees.proofs.NumberLaws.{reads-entries}
use Rattle.hy_index.proofs.FoundLaws.{found-entries}

-- what holds of each element holds of the one at a place
all-at : {X : Type 0} (P : X → Type 0) (xs : List X) → AllByRecursion P xs → (i : ℕ) (d : X) → i < length xs → P (slice_index_or xs i d)
all-at P [] all i d within = absurd (omega (arith, within))
all-at P (x ∷ xs) all zero d within = all.0
all-at P (x ∷ xs) all (suc i) d within = all-at P xs all.1 i d (omega (arith, within))

module _ {Key : Type 0} (n kw : ℕ) (bytes_of_key : Key → List ℕ) (key_of_bytes : List ℕ → Key) (IsKey : Key → Type 0) (is_less : Key → Key → Bool)
    (ordered : (one other : Key) → IsKey one → IsKey other → is_less one other ≡ is_less_bytes (bytes_of_key one) (bytes_of_key other))
    (pages : List (List ℕ)) (index : IsIndex n kw bytes_of_key key_of_bytes IsKey pages) where
  -- what is found among the items of the leaves is found among the entries
  pub found-index : (key : Key) → IsKey key → found_in (bytes_of_key key) (leaf_items kw pages) ≡ found is_less key (entries n kw key_of_bytes pages)
  unfolding entries
  found-index key is_key = found-entries bytes_of_key key_of_bytes IsKey is_less ordered key is_key (leaf_items kw pages) index.keys

  length-entries : length (entries n kw key_of_bytes pages) ≡ length (leaf_items kw pages)
  unfolding entries
  length-entries = length-map (leaf_items kw pages) (entry_of key_of_bytes)

  -- the tree has no more levels than binary digits spell the number of entries
  pub height-entries : (digits : ℕ) → length (entries n kw key_of_bytes pages) < 2 ^ digits → height_of (nodes_of kw pages) ≤ digits
  height-entries digits few =
      let levels = reads-entries (least_items n kw) (capacity n kw) (replicate kw 0) (nodes_of kw pages) digits (le-max_right (capacity n kw / 4) 2) index.tree (omega (arith, few, length-entries)) in
      omega (arith, levels)

  -- the keys are in order
  pub in_order : 1 ≤ least_items n kw → IsInOrder is_less (entries n kw key_of_bytes pages)
  unfolding entries
  in_order some i j d before within =
      let items = leaf_items kw pages in
      let f : Item → Entry Key = entry_of key_of_bytes in
      let below : j < length items = omega (arith, within, length-map items f) in
      let first = all-at (λ (item : Item). IsSpelled bytes_of_key key_of_bytes IsKey item.key) items index.keys i no_item (omega (arith, below, before)) in
      let second = all-at (λ (item : Item). IsSpelled bytes_of_key key_of_bytes IsKey item.key) items index.keys j no_item below in
      ap₂ (λ (one : Entry Key) (other : Entry Key). is_less one.key other.key) (get_or-map f items i no_item d (omega (arith, below, before))) (get_or-map f items j no_item d below)
      ∙ ordered _ _ first.is_key second.is_key
      ∙ ap₂ is_less_bytes first.same second.same
      ∙ AllPairs-entries (nodes_of kw pages) (least_items n kw) (capacity n kw) some (height_of (nodes_of kw pages)) 0 (root_least (height_of (nodes_of kw pages))) (replicate kw 0) None index.tree.subtree i j no_item before below

-- a page of zeros is the empty index
empty-tree : (fewest most : ℕ) (least : List ℕ) → IsTree fewest most least (no_node ∷ [])
empty-tree fewest most least = record {
  first = omega arith;
  subtree = record { filled = record { enough = omega arith; fits = omega arith }; begin = tt; rising = tt };
  free = [];
  are_free = refl;
  once = λ page within. ap (λ (q : ℕ). times q (0 ∷ [])) (let same : page ≡ 0 = omega (arith, within) in same);
  no_others = λ page past. by page past;
}
  where
    by : (page : ℕ) → 1 ≤ page → times page (0 ∷ []) ≡ 0
    by zero past = absurd (omega (arith, past))
    by (suc page) past = ap {B = ℕ} (λ b. cond b 1 0 + 0) (eqb-zero-suc page)

module _ {Key : Type 0} (n kw : ℕ) (bytes_of_key : Key → List ℕ) (key_of_bytes : List ℕ → Key) (IsKey : Key → Type 0) (pages : List (List ℕ)) (header : 8 ≤ n) (only : pages ≡ replicate n 0 ∷ []) where
  nodes_empty : nodes_of kw pages ≡ no_node ∷ []
  nodes_empty = ap (nodes_of kw) only ∙ ap (λ (node : Node). node ∷ []) (node-zeros kw n header)

  items_empty : leaf_items kw pages ≡ []
  items_empty = ap (λ (nodes : List Node). entries_under nodes (height_of nodes) 0) nodes_empty

  pub empty-index : IsIndex n kw bytes_of_key key_of_bytes IsKey pages
  empty-index = record {
    tree = subst (λ (nodes : List Node). IsTree (least_items n kw) (capacity n kw) (replicate kw 0) nodes) (sym nodes_empty) (empty-tree (least_items n kw) (capacity n kw) (replicate kw 0));
    keys = subst (λ (items : List Item). AllByRecursion (λ item. IsSpelled bytes_of_key key_of_bytes IsKey item.key) items) (sym items_empty) tt;
  }

  pub empty-entries : entries n kw key_of_bytes pages ≡ []
  unfolding entries
  empty-entries = ap (map (entry_of key_of_bytes)) items_empty
