-- What the steps of a split leave of the pages of a tree.
use Rattle.std.specs.Prelude.{◌≡◌, ◌⊎◌, ℕ, ◌+◌, ◌-◌, ◌<◌, ◌≤◌, true, false, List, length, take, drop, slice_index_or, suc}
use Rattle.hy_trees.specs.Nodes.{Item, Node, TakesPage, no_item, node_at, with_more, without_items}
use Rattle.hy_trees.specs.Trees.{AreFree, StandOnce, has_page, is_less_bytes, same_as, times}
use Rattle.hy_trees.specs.Groups.{Raises, SetsItems, Splits}

-- the free pages are pages of the segment, each once, and so is another page, which isn't one of them
pub record HasFree (nodes : List Node) (page : ℕ) : Type 0 where
  pub free : List ℕ
  pub are_free : AreFree nodes (node_at nodes 0).next free
  pub once : (q : ℕ) → same_as q page + times q free ≤ has_page nodes q

-- the item at a place of a page
abbrev pub child_at : List Node → ℕ → ℕ → Item
child_at nodes page place = slice_index_or (node_at nodes page).items place no_item

-- the items of a page from a place on were put before those of another page, and taken out then
pub record MovesItems (old new : List Node) (page place right : ℕ) : Type 0 where
  pub between : List Node
  pub put : SetsItems old between right (with_more (node_at old right) 0
      (take (length (node_at old page).items - place) (drop place (node_at old page).items))).items
  pub cut : SetsItems between new page
      (without_items (node_at between page) place (length (node_at old page).items)).items

-- the other page was taken for them
pub record MovesOut (old new : List Node) (page place right : ℕ) : Type 0 where
  pub taken : List Node
  pub takes : TakesPage old taken right
  pub moves : MovesItems taken new page place right

-- all items of the root moved to a page that was taken for them, and is its only child
pub record RaisesRoot (old new : List Node) (least_key : List ℕ) : Type 0 where
  pub child : ℕ
  pub raises : (free : List ℕ) → AreFree old (node_at old 0).next free → ((q : ℕ) → times q free ≤ has_page old q)
      → Raises old new free (drop 1 free) least_key child

-- a page that has room has a full child at a place, whose keys rise
pub record IsFullChild (most : ℕ) (nodes : List Node) (page place : ℕ) : Type 0 where
  pub free : List ℕ
  pub depth : ℕ
  pub are_free : AreFree nodes (node_at nodes 0).next free
  pub once : StandOnce nodes free (suc depth) page
  pub within : place < length (node_at nodes page).items
  pub room : length (node_at nodes page).items < most
  pub full : length (node_at nodes (child_at nodes page place).number).items ≡ most
  pub rising : (i j : ℕ) → i < j → j < length (node_at nodes (child_at nodes page place).number).items
      → is_less_bytes (child_at nodes (child_at nodes page place).number i).key
      (child_at nodes (child_at nodes page place).number j).key ≡ true

-- a page has as many items as it has to, and room for another
pub record IsHalf (fewest most : ℕ) (nodes : List Node) (page : ℕ) : Type 0 where
  pub enough : fewest ≤ length (node_at nodes page).items
  pub room : length (node_at nodes page).items < most

-- a child was split, and a key that led to it leads to this half of it
pub record SplitsChild (fewest most : ℕ) (old new : List Node) (key : List ℕ) (page place half : ℕ) : Type 0 where
  pub right : Item
  pub splits : (free : List ℕ) (depth : ℕ) → AreFree old (node_at old 0).next free → StandOnce old free (suc depth) page
      → Splits old new free (drop 1 free) page (take place (node_at old page).items) (child_at old page place) right
      (drop (place + 1) (node_at old page).items)
  pub left : IsHalf fewest most new (child_at old page place).number
  pub behind : IsHalf fewest most new right.number
  pub leads : ((is_less_bytes key right.key ≡ true) × (half ≡ (child_at old page place).number))
      ⊎ ((is_less_bytes key right.key ≡ false) × (half ≡ right.number))
