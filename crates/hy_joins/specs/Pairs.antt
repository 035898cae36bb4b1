-- Two children of a page that stand side by side, the way to one of them, and pages that have an item to spare.
use Rattle.std.specs.Prelude.{◌≡◌, ◌≢◌, ◌⊎◌, ℕ, ◌+◌, ◌<◌, ◌≤◌, true, false, List, ◌++◌, length, take, drop, slice_index_or, zero, suc}
use Rattle.hy_space.specs.Space.{SpaceState, HasPage}
use Rattle.hy_trees.specs.Nodes.{Item, Node, capacity, least_items, no_item, node_at}
use Rattle.hy_trees.specs.Trees.{AreFree, StandOnce, height_of, is_less_bytes}
use Rattle.hy_trees.specs.Groups.{Joins, Shares}
use Rattle.hy_nodes.specs.declared.pages.Tree.{Tree}
use Rattle.hy_nodes.specs.Pages.{nodes_in}
use Rattle.hy_nodes.specs.Ways.{LeadsTo}
use Rattle.hy_joins.specs.declared.Pair.{Pair}

-- the items of a page
abbrev pub items_at : List Node → ℕ → List Item
items_at nodes page = (node_at nodes page).items

-- the item at a place of a page
abbrev pub child_at : List Node → ℕ → ℕ → Item
child_at nodes page place = slice_index_or (items_at nodes page) place no_item

-- a page that is there, with no more items than fit
pub record IsPage (n : ℕ) (space : SpaceState) (tree : Tree) (page : ℕ) : Type 0 where
  pub there : HasPage space tree.segment page
  pub fits : length (items_at (nodes_in space tree) page) ≤ capacity n tree.key_bytes

-- two children of a page that stand side by side, and how many items each has: they are pages of their own, each has as
-- many items as it must, and none is the root
pub record IsPair (n : ℕ) (space : SpaceState) (tree : Tree) (pair : Pair) : Type 0 where
  pub root : HasPage space tree.segment 0
  pub above : IsPage n space tree pair.page
  pub one : IsPage n space tree pair.first
  pub two : IsPage n space tree pair.second
  pub within : pair.left + 1 < length (items_at (nodes_in space tree) pair.page)
  pub is_first : pair.first ≡ (child_at (nodes_in space tree) pair.page pair.left).number
  pub is_second : pair.second ≡ (child_at (nodes_in space tree) pair.page (pair.left + 1)).number
  pub is_count : pair.count ≡ length (items_at (nodes_in space tree) pair.first)
  pub is_more : pair.more ≡ length (items_at (nodes_in space tree) pair.second)
  pub enough_one : least_items n tree.key_bytes ≤ pair.count
  pub enough_two : least_items n tree.key_bytes ≤ pair.more
  pub one_above : pair.first ≢ pair.page
  pub two_above : pair.second ≢ pair.page
  pub two_one : pair.second ≢ pair.first
  pub not_root : pair.second ≢ 0
  pub first_not_root : pair.first ≢ 0

-- a key stands under the child at a place: the keys of the items behind it are above the key, and its own isn't, unless
-- it is the first one
pub record IsWay (items : List Item) (key : List ℕ) (place : ℕ) : Type 0 where
  pub within : place < length items
  pub from : 0 < place → is_less_bytes key (slice_index_or items place no_item).key ≡ false
  pub behind : (k : ℕ) → place < k → k < length items → is_less_bytes key (slice_index_or items k no_item).key ≡ true

-- a key leads to an inner page, and from it to the child at a place
pub record LeadsOn (n : ℕ) (space : SpaceState) (tree : Tree) (key : List ℕ) (depth page place : ℕ) : Type 0 where
  pub leads : LeadsTo n space tree key (suc depth) page
  pub way : IsWay (items_at (nodes_in space tree) page) key place

-- the child at a place and the one behind it were joined
abbrev pub JoinsAt : List Node → List Node → List ℕ → ℕ → ℕ → Type 0
JoinsAt old new free page left =
    Joins old new free page (take left (items_at old page)) (child_at old page left) (child_at old page (left + 1))
    (drop (left + 2) (items_at old page))

-- so many first items of the second child stand behind those of the first one
pub record SharesLeft (old new : List Node) (free : List ℕ) (page left moved : ℕ) : Type 0 where
  pub shares : Shares old new free page (take left (items_at old page)) (child_at old page left)
      (child_at old page (left + 1))
      (slice_index_or (drop moved (items_at old (child_at old page (left + 1)).number)) 0 no_item).key
      (drop (left + 2) (items_at old page))
  pub one : items_at new (child_at old page left).number
      ≡ items_at old (child_at old page left).number
      ++ take moved (items_at old (child_at old page (left + 1)).number)
  pub two : items_at new (child_at old page (left + 1)).number
      ≡ drop moved (items_at old (child_at old page (left + 1)).number)

-- the items of the first child from a place on stand before those of the second one
pub record SharesRight (old new : List Node) (free : List ℕ) (page left start : ℕ) : Type 0 where
  pub shares : Shares old new free page (take left (items_at old page)) (child_at old page left)
      (child_at old page (left + 1))
      (slice_index_or (drop start (items_at old (child_at old page left).number)) 0 no_item).key
      (drop (left + 2) (items_at old page))
  pub one : items_at new (child_at old page left).number
      ≡ take start (items_at old (child_at old page left).number)
  pub two : items_at new (child_at old page (left + 1)).number
      ≡ drop start (items_at old (child_at old page left).number)
      ++ items_at old (child_at old page (left + 1)).number

-- what holds of a change whatever pages are free, and however deep the page stands
abbrev pub AtEach : List Node → ℕ → (List ℕ → Type 0) → Type 0
AtEach nodes page Holds =
    (free : List ℕ) (depth : ℕ) → AreFree nodes (node_at nodes 0).next free → StandOnce nodes free (suc depth) page
    → Holds free

-- an inner page that keeps enough items where two of its children are joined: it has more than the least number, or is
-- the root and has more than two, or two that don't fit in one page
abbrev pub HasChildToSpare : ℕ → ℕ → List Node → ℕ → Type 0
HasChildToSpare least most nodes page =
    (least < length (items_at nodes page))
    ⊎ ((page ≡ 0) × ((2 < length (items_at nodes page))
    ⊎ (most < length (items_at nodes (child_at nodes page 0).number) + length (items_at nodes (child_at nodes page 1).number))))

-- a page that has an item to spare, by how many pages stand below it
abbrev pub HasSpare : ℕ → ℕ → List Node → ℕ → ℕ → Type 0
HasSpare least most nodes zero page = (page ≡ 0) ⊎ (least < length (items_at nodes page))
HasSpare least most nodes (suc depth) page = HasChildToSpare least most nodes page

-- the root's two children fit in one page
pub record IsSmallRoot (n : ℕ) (space : SpaceState) (tree : Tree) (pair : Pair) : Type 0 where
  pub is_pair : IsPair n space tree pair
  pub page : pair.page ≡ 0
  pub left : pair.left ≡ 0
  pub high : 0 < height_of (nodes_in space tree)
  pub two : length (items_at (nodes_in space tree) 0) ≡ 2
  pub fits : pair.count + pair.more ≤ capacity n tree.key_bytes

-- the child at a place has no item to spare. It is the first of two where it is the first of all, and else the second
abbrev pub IsWanting : ℕ → Pair → ℕ → Type 0
IsWanting least pair place =
    ((place ≡ 0) × (pair.left ≡ 0) × (pair.count ≤ least)) ⊎ ((place ≡ pair.left + 1) × (pair.more ≤ least))
