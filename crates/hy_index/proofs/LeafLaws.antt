-- What a search in the leaf of a key says of the tree, and what a write into that leaf leaves.
use Rattle.std.proofs.Common.{◌≡◌, ℕ, zero, suc, ◌+◌, ◌*◌, ◌<◌, ◌^◌, Bool, true, false, List, [], ◌∷◌, ◌++◌, length, take, drop, replicate, slice_index_or, Option, None, Some, refl, sym, ap, ap₂, ◌∙◌, subst, arith, ◌⊎◌, ◌≤◌, length-append}
use Rattle.std.specs.Prelude.{IsSome, find, slice_set}
use Rattle.std.proofs.lemmas.Bool.{false≢true}
use Rattle.std.proofs.lemmas.List.{append-nil, drop_at, take-append-drop, take_all, take_at}
use Rattle.hy_page.specs.Bytes.{bytes_at, bytes_of, number_of}
use Rattle.hy_page.proofs.ByteLaws.{length-bytes_of, number_of-bytes_of}
use Rattle.hy_space.specs.Space.{SpaceState, IsSound}
use Rattle.hy_trees.specs.Nodes.{Item, Node, capacity, least_items, no_item, node_at, with_items, with_more, with_node, with_number, without_items}
use Rattle.hy_trees.specs.Trees.{IsTree, entries_under, height_of, root_least}
use Rattle.hy_trees.specs.Searches.{is_at, with_item, without}
use Rattle.hy_trees.proofs.SearchLaws.{filter-above, filter-below, without-part}
use Rattle.hy_joins.specs.of_nodes.declared.pages.Tree.{Tree}
use Rattle.hy_joins.specs.of_nodes.Nodes.{item_at}
use Rattle.hy_joins.specs.of_nodes.Pages.{items_in, nodes_in, page_in}
use Rattle.hy_joins.specs.of_nodes.Places.{IsSought}
use Rattle.hy_joins.specs.of_nodes.Ways.{HasTree, LeadsTo, entries_in}
use Rattle.hy_joins.proofs.of_nodes.ReachLaws.{reached-items, reached-rising}
use Rattle.hy_index.proofs.EditLaws.{tree-inserted, tree-numbered, tree-removed}
use Rattle.hy_index.proofs.FoundLaws.{behind-absent, find-absent, find-there}
use Rattle.hy_index.proofs.SoughtLaws.{above-there, front-below, items-there, key-there, rest-above, within_items}

-- an element in the place of another
pub set-there : {A : Type 0} (xs : List A) (place : ℕ) (x : A) → place < length xs → slice_set xs place x ≡ take place xs ++ (x ∷ drop (suc place) xs)
set-there [] place x within = absurd (omega (arith, within))
set-there (y ∷ ys) zero x within = refl
set-there (y ∷ ys) (suc place) x within = ap (λ rest. y ∷ rest) (set-there ys place x (omega (arith, within)))

-- the bytes of an item say it
pub item-made : (key : List ℕ) (slot kw : ℕ) → length key ≡ kw → slot < 256 ^ 8 → items_in kw (key ++ bytes_of 8 slot) 1 ≡ (record { key = key; number = slot }) ∷ []
item-made key slot kw long small =
    ap₂ (λ (bytes : List ℕ) (number : ℕ). (record { key = bytes; number = number }) ∷ [])
    (ap (λ (from : ℕ). bytes_at (key ++ bytes_of 8 slot) from kw) (let none : 0 * (kw + 8) ≡ 0 = omega arith in none) ∙ take_at key (bytes_of 8 slot) kw long)
    (ap (λ (from : ℕ). number_of (bytes_at (key ++ bytes_of 8 slot) from 8)) (let at : 0 * (kw + 8) + kw ≡ kw = omega arith in at)
    ∙ ap (λ (bytes : List ℕ). number_of (take 8 bytes)) (drop_at key (bytes_of 8 slot) kw long)
    ∙ ap number_of (take_all 8 (bytes_of 8 slot) (omega (arith, length-bytes_of 8 slot)))
    ∙ number_of-bytes_of 8 slot small)

module _ (n : ℕ) (space : SpaceState) (tree : Tree) (key : List ℕ) (there : tree.segment < length space.owner) (sound : IsSound n space) (has : HasTree n space tree)
    (leaf : ℕ) (leads : LeadsTo n space tree key 0 leaf) (place : ℕ) where
  abbrev nodes : List Node
  nodes = nodes_in space tree

  abbrev items : List Item
  items = (node_at nodes leaf).items

  pub found-sought : IsSought tree.key_bytes (page_in space tree leaf) key place true → find (is_at key) (entries_in space tree) ≡ Some (item_at tree.key_bytes (page_in space tree leaf) place)
  found-sought sought =
      find-there nodes (least_items n tree.key_bytes) (capacity n tree.key_bytes) (height_of nodes) (root_least (height_of nodes)) (replicate tree.key_bytes 0) key leaf leads tree.key_bytes (page_in space tree leaf) place
      (reached-items n space tree key there sound has 0 leaf leads (page_in space tree leaf) refl) sought

  pub absent-sought : IsSought tree.key_bytes (page_in space tree leaf) key place false → find (is_at key) (entries_in space tree) ≡ None
  absent-sought sought =
      find-absent nodes (least_items n tree.key_bytes) (capacity n tree.key_bytes) (height_of nodes) (root_least (height_of nodes)) (replicate tree.key_bytes 0) key leaf leads tree.key_bytes (page_in space tree leaf) place
      (reached-items n space tree key there sound has 0 leaf leads (page_in space tree leaf) refl)
      (behind-absent tree.key_bytes (page_in space tree leaf) key place (reached-rising n space tree key there sound has 0 leaf leads (page_in space tree leaf) refl) sought) sought

  -- where the key isn't there, taking it away changes nothing
  pub without-absent : IsSought tree.key_bytes (page_in space tree leaf) key place false → entries_in space tree ≡ without key (entries_in space tree)
  without-absent sought =
      let xs = take place items in
      let ys = drop place items in
      let below = front-below n space tree key there sound has leaf leads place false sought in
      let above = rest-above n space tree key there sound has leaf leads place sought in
      let whole : xs ++ ys ≡ items = take-append-drop place items in
      let none : without key (xs ++ ys) ≡ xs ++ ys =
      ap₂ ◌++◌ (filter-below key xs [] ys below above ∙ append-nil xs) (filter-above key xs [] ys below above) in
      leads.entries nodes (λ q some. refl)
      ∙ ap (λ (all : List Item). leads.before ++ (all ++ leads.behind)) (sym whole ∙ sym none ∙ ap (without key) whole)
      ∙ sym (without-part key leads.before items leads.behind leads.are_before leads.are_behind)
      ∙ ap (without key) (sym (leads.entries nodes (λ q some. refl)))

  -- what a search says follows from what is found in the whole tree
  pub sought-absent : (is_there : Bool) → IsSought tree.key_bytes (page_in space tree leaf) key place is_there → find (is_at key) (entries_in space tree) ≡ None → IsSought tree.key_bytes (page_in space tree leaf) key place false
  sought-absent false sought none = sought
  sought-absent true sought none = absurd (let some = found-sought sought in cc)

  pub sought-found : (is_there : Bool) → IsSought tree.key_bytes (page_in space tree leaf) key place is_there → IsSome (find (is_at key) (entries_in space tree)) → IsSought tree.key_bytes (page_in space tree leaf) key place true
  sought-found true sought some = sought
  sought-found false sought some = absurd (false≢true (subst IsSome (absent-sought sought) some))

  -- a tree, and what its entries are, after a write that left other pages
  abbrev Leaves : SpaceState → List Item → Type 0
  Leaves new entries = HasTree n new tree × (entries_in new tree ≡ entries)

  became : (new : SpaceState) (changed : List Node) (entries : List Item) → nodes_in new tree ≡ changed
      → IsTree (least_items n tree.key_bytes) (capacity n tree.key_bytes) (replicate tree.key_bytes 0) changed × (entries_under changed (height_of changed) 0 ≡ entries) → Leaves new entries
  became new changed entries written done = (
    subst (IsTree (least_items n tree.key_bytes) (capacity n tree.key_bytes) (replicate tree.key_bytes 0)) (sym written) done.0,
    ap (λ (all : List Node). entries_under all (height_of all) 0) written ∙ done.1,
  )

  pub put : IsSought tree.key_bytes (page_in space tree leaf) key place false → length items < capacity n tree.key_bytes → (number : ℕ) (new : SpaceState)
      → nodes_in new tree ≡ with_node nodes leaf (with_more (node_at nodes leaf) place ((record { key = key; number = number }) ∷ [])) → Leaves new (with_item key number (entries_in space tree))
  put sought room number new written =
      became new (with_node nodes leaf (with_more (node_at nodes leaf) place ((record { key = key; number = number }) ∷ []))) (with_item key number (entries_in space tree)) written
      (tree-inserted (least_items n tree.key_bytes) (capacity n tree.key_bytes) (replicate tree.key_bytes 0) key nodes has leaf leads number (take place items) (drop place items) (whole items)
      (front-below n space tree key there sound has leaf leads place false sought) (rest-above n space tree key there sound has leaf leads place sought) room)
    where
      whole : (xs : List Item) → xs ≡ take place xs ++ drop place xs
      whole xs = sym (take-append-drop place xs)

  module _ (sought : IsSought tree.key_bytes (page_in space tree leaf) key place true) where
    pub numbered : (number : ℕ) (new : SpaceState) → nodes_in new tree ≡ with_node nodes leaf (with_number (node_at nodes leaf) place number) → Leaves new (with_item key number (entries_in space tree))
    numbered number new written =
        let item = slice_index_or items place no_item in
        let same = key-there n space tree key there sound has leaf leads place sought in
        became new (with_node nodes leaf (with_items (node_at nodes leaf) (take place items ++ ((record { key = key; number = number }) ∷ drop (suc place) items)))) (with_item key number (entries_in space tree))
        (written ∙ ap (λ (all : List Item). with_node nodes leaf (with_items (node_at nodes leaf) all))
        (set-there items place (record { key = item.key; number = number }) (within_items n space tree key there sound has leaf leads place sought)
        ∙ ap (λ (k : List ℕ). take place items ++ ((record { key = k; number = number }) ∷ drop (suc place) items)) same))
        (tree-numbered (least_items n tree.key_bytes) (capacity n tree.key_bytes) (replicate tree.key_bytes 0) key nodes has leaf leads number (take place items) item (drop (suc place) items)
        (items-there n space tree key there sound has leaf leads place sought) same (front-below n space tree key there sound has leaf leads place true sought) (above-there n space tree key there sound has leaf leads place sought))

    pub taken : (leaf ≡ 0) ⊎ (least_items n tree.key_bytes < length items) → (new : SpaceState) → nodes_in new tree ≡ with_node nodes leaf (without_items (node_at nodes leaf) place (place + 1)) → Leaves new (without key (entries_in space tree))
    taken spare new written =
        let item = slice_index_or items place no_item in
        let next : place + 1 ≡ suc place = omega arith in
        became new (with_node nodes leaf (with_items (node_at nodes leaf) (take place items ++ drop (suc place) items))) (without key (entries_in space tree))
        (written ∙ ap (λ (from : ℕ). with_node nodes leaf (with_items (node_at nodes leaf) (take place items ++ drop from items))) next)
        (tree-removed (least_items n tree.key_bytes) (capacity n tree.key_bytes) (replicate tree.key_bytes 0) key nodes has leaf leads (take place items) item (drop (suc place) items)
        (items-there n space tree key there sound has leaf leads place sought) (key-there n space tree key there sound has leaf leads place sought) (front-below n space tree key there sound has leaf leads place true sought) (above-there n space tree key there sound has leaf leads place sought)
        spare (omega (arith, within_items n space tree key there sound has leaf leads place sought)))

  -- a leaf has no more entries than the tree
  pub leaf-entries : length items ≤ length (entries_in space tree)
  leaf-entries =
      let all = ap length (leads.entries nodes (λ q some. refl)) in
      omega (arith, all, length-append leads.before (items ++ leads.behind), length-append items leads.behind)

-- where nothing is found, nothing is there
pub none-some : {A : Type 0} (found : Option A) → found ≡ None → IsSome found → ⊥
none-some found none some = false≢true (subst IsSome none some)

pub is_some : {A : Type 0} (found : Option A) (x : A) → found ≡ Some x → IsSome found
is_some found x is = subst IsSome (sym is) refl
