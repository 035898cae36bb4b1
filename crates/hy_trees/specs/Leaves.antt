-- The leaf of a key, and what stands before it and behind it.
use Rattle.std.specs.Prelude.{◌≡◌, ◌≢◌, ◌⊎◌, ℕ, ◌+◌, ◌<◌, true, Option, None, List, ◌++◌, length, zero, suc}
use Rattle.std.specs.List.{AllByRecursion}
use Rattle.hy_trees.specs.Nodes.{Item, Node, node_at}
use Rattle.hy_trees.specs.Trees.{AreFree, height_of, IsBelow, IsFrom, IsLeaf, IsSubtree, KeepItems, times, entries_under, is_less_bytes, pages_under}

-- how many items a leaf has at least: it is the page itself, or stands below it
abbrev pub leaf_least : ℕ → ℕ → ℕ → ℕ
leaf_least zero top fewest = top
leaf_least (suc depth) top fewest = fewest

abbrev pub AreBelow : List ℕ → List Item → Type 0
AreBelow key items = AllByRecursion (λ item. is_less_bytes item.key key ≡ true) items

abbrev pub AreAbove : List ℕ → List Item → Type 0
AreAbove key items = AllByRecursion (λ item. is_less_bytes key item.key ≡ true) items

-- the leaf to which a key leads from a page, between two bounds: the entries before it are below the key, those behind it
-- above it, and another leaf in its place changes nothing else
pub record LeadsToLeaf (nodes : List Node) (fewest most depth top : ℕ) (low : List ℕ) (high : Option (List ℕ)) (page : ℕ)
    (key : List ℕ) (leaf : ℕ) : Type 0 where
  pub front : List Item
  pub behind : List Item
  pub from : List ℕ
  pub to : Option (List ℕ)
  pub there : 0 < times leaf (pages_under nodes depth page)
  pub is_leaf : IsLeaf (leaf_least depth top fewest) most from to (node_at nodes leaf).items
  pub above : IsFrom from key
  pub below : IsBelow to key
  pub less : AreBelow key front
  pub greater : AreAbove key behind
  pub entries : entries_under nodes depth page
      ≡ front ++ ((node_at nodes leaf).items ++ behind)
  pub replaced : (new : List Node)
      → ((q : ℕ) → q ≢ leaf → 0 < times q (pages_under nodes depth page)
      → (node_at new q).items ≡ (node_at nodes q).items)
      → (entries_under new depth page
      ≡ front ++ ((node_at new leaf).items ++ behind))
      × ((q : ℕ) → times q (pages_under new depth page) ≡ times q (pages_under nodes depth page))
      × (IsLeaf (leaf_least depth top fewest) most from to (node_at new leaf).items
      → IsSubtree new fewest most depth top low high page)

-- the items of a leaf are others, and nothing else changed
pub record EditsLeaf (old new : List Node) (free : List ℕ) (leaf : ℕ) : Type 0 where
  pub pages : length new ≡ length old
  pub others : (q : ℕ) → q ≢ leaf → (node_at new q).items ≡ (node_at old q).items
  pub are_free : AreFree new (node_at new 0).next free
  pub height : height_of new ≡ height_of old

-- a key leads from the root to a page at a depth: the entries that aren't under this page stand before the key or behind
-- it, also when pages at this depth and below it get other items; and the tree is one still, where the part under this
-- page is. The page has as many items at least as each page but the root, or is the root
pub record Leads (nodes : List Node) (fewest most height root_fewest : ℕ) (least key : List ℕ) (depth page : ℕ) : Type 0 where
  pub top : ℕ
  pub low : List ℕ
  pub high : Option (List ℕ)
  pub is_top : ((depth < height) × (top ≡ fewest)) ⊎ ((depth ≡ height) × (page ≡ 0) × (top ≡ root_fewest))
  pub from : IsFrom low key
  pub below : IsBelow high key
  pub subtree : IsSubtree nodes fewest most depth top low high page
  pub before : List Item
  pub behind : List Item
  pub are_before : AreBelow key before
  pub are_behind : AreAbove key behind
  pub outside : List ℕ
  pub root : depth < height → 0 < times 0 outside
  pub entries : (other : List Node) → KeepItems nodes other outside
      → entries_under other height 0 ≡ before ++ (entries_under other depth page ++ behind)
  pub pages : (other : List Node) → KeepItems nodes other outside
      → (q : ℕ) → times q (pages_under other height 0) ≡ times q outside + times q (pages_under other depth page)
  pub subtrees : (other : List Node) → KeepItems nodes other outside
      → IsSubtree other fewest most depth top low high page → IsSubtree other fewest most height root_fewest least None 0
