-- Some children of a page get their items anew, in the same order.
use Rattle.std.specs.Prelude.{◌≡◌, ◌≢◌, ⊤, ℕ, ◌+◌, ◌<◌, ◌≤◌, Option, None, List, [], ◌∷◌, ◌++◌, length, zero, suc}
use Rattle.hy_trees.specs.Nodes.{Item, Node, node_at}
use Rattle.hy_trees.specs.Trees.{AreFree, same_as, BeginsFrom, BeginsWith, IsBelow, IsFilled, IsSubtree, times, has_page, height_of, items_below, numbers, pages_under}

-- in a page some items become others, whose children have, one behind another, the items that the children of the former
-- ones had. What comes was free or is new, and what goes is free. No page elsewhere gets other items
pub record Regroups (old new : List Node) (was_free is_free : List ℕ) (page : ℕ) (before was is behind : List Item) : Type 0 where
  pub longer : length old ≤ length new
  pub old_items : (node_at old page).items ≡ before ++ (was ++ behind)
  pub new_items : (node_at new page).items ≡ before ++ (is ++ behind)
  pub below : items_below new is ≡ items_below old was
  pub are_free : AreFree new (node_at new 0).next is_free
  pub free : (q : ℕ) → times q is_free + times q (numbers is) + has_page old q
      ≡ times q was_free + times q (numbers was) + has_page new q
  pub others : (q : ℕ) → q < length old → q ≢ page → times q (numbers was) ≡ 0 → times q was_free ≡ 0
      → (node_at new q).items ≡ (node_at old q).items
  pub height : height_of new ≡ height_of old

-- each child that some items name is filled, and begins with the item's key
abbrev pub AreFilled : List Node → ℕ → ℕ → List Item → Type 0
AreFilled nodes fewest most [] = ⊤
AreFilled nodes fewest most (item ∷ items) =
    IsFilled fewest most (node_at nodes item.number).items × AreFilled nodes fewest most items

abbrev pub AreKeyed : List Node → List Item → Type 0
AreKeyed nodes [] = ⊤
AreKeyed nodes (item ∷ items) = BeginsWith item.key (node_at nodes item.number).items × AreKeyed nodes items

-- what an item of a page stands for, by how many pages stand below it, and how the items begin
abbrev pub PartAt : List Node → ℕ → ℕ → ℕ → List ℕ → Option (List ℕ) → ℕ → Type 0
PartAt nodes fewest most zero key next number = IsBelow next key
PartAt nodes fewest most (suc depth) key next number = IsSubtree nodes fewest most depth fewest key next number

abbrev pub BeginsAt : ℕ → List ℕ → List Item → Type 0
BeginsAt zero low items = BeginsFrom low items
BeginsAt (suc depth) low items = BeginsWith low items

-- a page without items was taken out of the free ones, or stands behind all others; nothing else has other items
pub record Taken (old new : List Node) (was_free is_free : List ℕ) (page : ℕ) : Type 0 where
  pub longer : length old ≤ length new
  pub within : page < length new
  pub differs : page ≢ 0
  pub empty : (node_at new page).items ≡ []
  pub are_free : AreFree new (node_at new 0).next is_free
  pub free : (q : ℕ) → times q is_free + same_as q page + has_page old q ≡ times q was_free + has_page new q
  pub same : (q : ℕ) → (node_at new q).items ≡ (node_at old q).items
  pub height : height_of new ≡ height_of old

-- a child was split: its last items are those of a page that was taken for them
pub record Splits (old new : List Node) (was_free is_free : List ℕ) (page : ℕ) (before : List Item) (item right : Item)
    (behind : List Item) : Type 0 where
  pub longer : length old ≤ length new
  pub old_items : (node_at old page).items ≡ before ++ (item ∷ behind)
  pub new_items : (node_at new page).items ≡ before ++ (item ∷ (right ∷ behind))
  pub halves : (node_at new item.number).items ++ (node_at new right.number).items ≡ (node_at old item.number).items
  pub key : BeginsWith right.key (node_at new right.number).items
  pub are_free : AreFree new (node_at new 0).next is_free
  pub free : (q : ℕ) → times q is_free + same_as q right.number + has_page old q ≡ times q was_free + has_page new q
  pub others : (q : ℕ) → q < length old → q ≢ page → q ≢ item.number → times q was_free ≡ 0
      → (node_at new q).items ≡ (node_at old q).items
  pub height : height_of new ≡ height_of old

-- two children that stand side by side were joined: the first one has the items of both, and the second one's page is
-- the first free one
pub record Joins (old new : List Node) (free : List ℕ) (page : ℕ) (before : List Item) (one two : Item)
    (behind : List Item) : Type 0 where
  pub pages : length new ≡ length old
  pub old_items : (node_at old page).items ≡ before ++ (one ∷ (two ∷ behind))
  pub new_items : (node_at new page).items ≡ before ++ (one ∷ behind)
  pub joined : (node_at new one.number).items ≡ (node_at old one.number).items ++ (node_at old two.number).items
  pub are_free : AreFree new (node_at new 0).next (two.number ∷ free)
  pub others : (q : ℕ) → q < length old → q ≢ page → q ≢ one.number → q ≢ two.number
      → (node_at new q).items ≡ (node_at old q).items
  pub height : height_of new ≡ height_of old

-- items moved between two children that stand side by side, and the second one has a new least key
pub record Shares (old new : List Node) (free : List ℕ) (page : ℕ) (before : List Item) (one two : Item) (least : List ℕ)
    (behind : List Item) : Type 0 where
  pub pages : length new ≡ length old
  pub old_items : (node_at old page).items ≡ before ++ (one ∷ (two ∷ behind))
  pub new_items : (node_at new page).items ≡ before ++ (one ∷ (record { key = least; number = two.number } ∷ behind))
  pub moved : (node_at new one.number).items ++ (node_at new two.number).items
      ≡ (node_at old one.number).items ++ (node_at old two.number).items
  pub key : BeginsWith least (node_at new two.number).items
  pub are_free : AreFree new (node_at new 0).next free
  pub others : (q : ℕ) → q < length old → q ≢ page → q ≢ one.number → q ≢ two.number
      → (node_at new q).items ≡ (node_at old q).items
  pub height : height_of new ≡ height_of old

-- the pages of a segment are a tree whose root has so many items at least, and these free pages
pub record IsRooted (fewest most top : ℕ) (least_key : List ℕ) (nodes : List Node) (free : List ℕ) : Type 0 where
  pub first : 0 < length nodes
  pub subtree : IsSubtree nodes fewest most (height_of nodes) top least_key None 0
  pub are_free : AreFree nodes (node_at nodes 0).next free
  pub once : (q : ℕ) → times q (pages_under nodes (height_of nodes) 0 ++ free) ≡ has_page nodes q

-- all items of the root moved to a page that was taken for them, and is its only child
pub record Raises (old new : List Node) (was_free is_free : List ℕ) (least_key : List ℕ) (child : ℕ) : Type 0 where
  pub longer : length old ≤ length new
  pub root : (node_at new 0).items ≡ record { key = least_key; number = child } ∷ []
  pub moved : (node_at new child).items ≡ (node_at old 0).items
  pub are_free : AreFree new (node_at new 0).next is_free
  pub free : (q : ℕ) → times q is_free + same_as q child + has_page old q ≡ times q was_free + has_page new q
  pub others : (q : ℕ) → q < length old → q ≢ 0 → times q was_free ≡ 0
      → (node_at new q).items ≡ (node_at old q).items
  pub height : height_of new ≡ suc (height_of old)

-- the items of the root's only child are the root's own, and the child's page is the first free one
pub record Lowers (old new : List Node) (free : List ℕ) (child : Item) : Type 0 where
  pub pages : length new ≡ length old
  pub root : (node_at old 0).items ≡ child ∷ []
  pub moved : (node_at new 0).items ≡ (node_at old child.number).items
  pub are_free : AreFree new (node_at new 0).next (child.number ∷ free)
  pub others : (q : ℕ) → q < length old → q ≢ 0 → q ≢ child.number
      → (node_at new q).items ≡ (node_at old q).items
  pub height : height_of old ≡ suc (height_of new)

-- one page was written: it has these items, and all else is as it was
pub record SetsItems (old new : List Node) (page : ℕ) (items : List Item) : Type 0 where
  pub pages : length new ≡ length old
  pub at : (node_at new page).items ≡ items
  pub others : (q : ℕ) → q ≢ page → (node_at new q).items ≡ (node_at old q).items
  pub free : (free : List ℕ) → times page free ≡ 0 → AreFree old (node_at old 0).next free
      → AreFree new (node_at new 0).next free
  pub height : height_of new ≡ height_of old
