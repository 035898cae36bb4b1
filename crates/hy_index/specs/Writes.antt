-- The bytes of a segment as an index, and the numbers of its pages.
use Rattle.std.specs.Prelude.{◌≡◌, ℕ, ◌+◌, ◌≤◌, List, length, map, replicate}
use Rattle.std.specs.List.{AllByRecursion}
use Rattle.hy_trees.specs.Nodes.{Item, Node, capacity, least_items}
use Rattle.hy_trees.specs.Trees.{IsTree, entries_under, height_of, most_pages, pages_under}
use Rattle.hy_joins.specs.of_nodes.Nodes.{nodes_of}
use Rattle.hy_index.specs.declared.key.Entry.{Entry}

-- the items of the leaves, in order
abbrev pub leaf_items : ℕ → List (List ℕ) → List Item
leaf_items key_width pages = entries_under (nodes_of key_width pages) (height_of (nodes_of key_width pages)) 0

-- how many pages stand above each leaf of the tree
abbrev pub pages_above : ℕ → List (List ℕ) → ℕ
pages_above key_width pages = height_of (nodes_of key_width pages)

-- an item as an entry
abbrev pub entry_of : {Key : Type 0} → (List ℕ → Key) → Item → Entry Key
entry_of key_of_bytes item = record { key = key_of_bytes item.key; slot = item.number }

-- the entries that the pages of a segment say, of n bytes each, with keys of so many bytes
unfoldable pub entries : {Key : Type 0} → ℕ → ℕ → (List ℕ → Key) → List (List ℕ) → List (Entry Key)
entries n key_width key_of_bytes pages = map (entry_of key_of_bytes) (leaf_items key_width pages)

-- bytes are those of a key
pub record IsSpelled {Key : Type 0} (bytes_of_key : Key → List ℕ) (key_of_bytes : List ℕ → Key) (IsKey : Key → Type 0)
    (bytes : List ℕ) : Type 0 where
  pub is_key : IsKey (key_of_bytes bytes)
  pub same : bytes_of_key (key_of_bytes bytes) ≡ bytes

-- the pages of a segment are an index: they are a tree, whose entries are in order, and each entry is that of a key
pub record IsIndex {Key : Type 0} (n key_width : ℕ) (bytes_of_key : Key → List ℕ) (key_of_bytes : List ℕ → Key)
    (IsKey : Key → Type 0) (pages : List (List ℕ)) : Type 0 where
  pub tree : IsTree (least_items n key_width) (capacity n key_width) (replicate key_width 0) (nodes_of key_width pages)
  pub keys : AllByRecursion (λ item. IsSpelled bytes_of_key key_of_bytes IsKey item.key) (leaf_items key_width pages)

-- the pages are no more than those of an index that never had more than so many entries
abbrev pub HasPagesFor : ℕ → ℕ → ℕ → List (List ℕ) → Type 0
HasPagesFor n key_width count pages = length pages ≤ most_pages (least_items n key_width) count

-- a change of an index that has so many entries adds no page without need: where its pages were no more than those for
-- some number of entries, and this was no less, they are no more still
abbrev pub KeepsPagesFor : ℕ → ℕ → ℕ → List (List ℕ) → List (List ℕ) → Type 0
KeepsPagesFor n key_width count old new =
    (most : ℕ) → count ≤ most → HasPagesFor n key_width most old → HasPagesFor n key_width most new

-- so many entries fill a leaf, and the free pages may be fewer than those that the splits for another entry take
pub record IsFull (most count : ℕ) (nodes : List Node) : Type 0 where
  pub entries : most ≤ count
  pub few : length nodes ≤ length (pages_under nodes (height_of nodes) 0) + (height_of nodes + 3)

abbrev pub FillsPages : ℕ → ℕ → ℕ → List (List ℕ) → Type 0
FillsPages n key_width count pages = IsFull (capacity n key_width) count (nodes_of key_width pages)
