-- Trees of pages. Page 0 is the root. Below an inner page stand its children, in the order of its items, and all leaves
-- are at one depth. Each page of the segment is in the tree or is free, once.
use Rattle.std.specs.Prelude.{◌≡◌, ◌≢◌, ⊤, ℕ, ◌+◌, ◌-◌, ◌/◌, ◌<◌, ◌≤◌, ◌==◌, nat_lt, Bool, cond, false, true, Option, None, Some, List, [], ◌∷◌, ◌++◌, length, map, zero, suc}
use Rattle.std.specs.List.{flat_map}
use Rattle.std.specs.Ordering.{is_lt, nat_cmp}
use Rattle.std.specs.Cmp.Lexicographic.{slice_cmp}
use Rattle.hy_trees.specs.Nodes.{Item, Node, node_at}

-- the first byte at which they differ is less, or one is a part of the other from its begin on and shorter
abbrev pub is_less_bytes : List ℕ → List ℕ → Bool
is_less_bytes one other = is_lt (slice_cmp nat_cmp one other)

-- 1 for the same number, and 0 for another one
abbrev pub same_as : ℕ → ℕ → ℕ
same_as number other = cond (other == number) 1 0

-- how often a number stands in a list
abbrev pub times : ℕ → List ℕ → ℕ
times number [] = 0
times number (other ∷ others) = same_as number other + times number others

-- the items of the leaves under a page, in order, where so many pages stand above each leaf
abbrev pub entries_under : List Node → ℕ → ℕ → List Item
entries_under nodes zero page = (node_at nodes page).items
entries_under nodes (suc depth) page =
    flat_map (λ item. entries_under nodes depth item.number) (node_at nodes page).items

-- the pages of the tree under a page, itself among them
abbrev pub pages_under : List Node → ℕ → ℕ → List ℕ
pages_under nodes zero page = page ∷ []
pages_under nodes (suc depth) page =
    page ∷ flat_map (λ item. pages_under nodes depth item.number) (node_at nodes page).items

-- the entries and the pages under the children that some items name, one child behind another, and the children's items
abbrev pub entries_below : List Node → ℕ → List Item → List Item
entries_below nodes depth items = flat_map (λ item. entries_under nodes depth item.number) items

abbrev pub pages_below : List Node → ℕ → List Item → List ℕ
pages_below nodes depth items = flat_map (λ item. pages_under nodes depth item.number) items

abbrev pub items_below : List Node → List Item → List Item
items_below nodes items = flat_map (λ item. (node_at nodes item.number).items) items

abbrev pub numbers : List Item → List ℕ
numbers items = map (λ item. item.number) items

-- the free pages from one on, each of which names the next one and has no items; 0 is none
abbrev pub AreFree : List Node → ℕ → List ℕ → Type 0
AreFree nodes first [] = first ≡ 0
AreFree nodes first (page ∷ pages) =
    (first ≡ page) × (page ≢ 0) × ((node_at nodes page).items ≡ []) × AreFree nodes (node_at nodes page).next pages

abbrev pub height_of : List Node → ℕ
height_of nodes = (node_at nodes 0).height

-- 1 for a page that the segment has, and 0 for another number
abbrev pub has_page : List Node → ℕ → ℕ
has_page nodes page = cond (nat_lt page (length nodes)) 1 0

-- a key is no less than a least one, and is below a bound, if there is one
abbrev pub IsFrom : List ℕ → List ℕ → Type 0
IsFrom low key = is_less_bytes key low ≡ false

abbrev pub IsBelow : Option (List ℕ) → List ℕ → Type 0
IsBelow None key = ⊤
IsBelow (Some high) key = is_less_bytes key high ≡ true

-- the key of the first item, or else the bound behind the items
abbrev pub next_key : List Item → Option (List ℕ) → Option (List ℕ)
next_key [] high = high
next_key (item ∷ items) high = Some item.key

-- each item stands for a part of the keys: those from its key on, below the key of the next item
abbrev pub HasParts : (List ℕ → Option (List ℕ) → ℕ → Type 0) → List Item → Option (List ℕ) → Type 0
HasParts IsPart [] high = ⊤
HasParts IsPart (item ∷ items) high =
    IsPart item.key (next_key items high) item.number × HasParts IsPart items high

-- the first key is no less than another one
abbrev pub BeginsFrom : List ℕ → List Item → Type 0
BeginsFrom low [] = ⊤
BeginsFrom low (item ∷ items) = IsFrom low item.key

-- the first key is this one
abbrev pub BeginsWith : List ℕ → List Item → Type 0
BeginsWith low [] = ⊤
BeginsWith low (item ∷ items) = item.key ≡ low

-- a page has so many items at least, and no more than fit
pub record IsFilled (fewest most : ℕ) (items : List Item) : Type 0 where
  pub enough : fewest ≤ length items
  pub fits : length items ≤ most

-- the keys of a leaf rise, from a least one on, below a bound
pub record IsLeaf (fewest most : ℕ) (low : List ℕ) (high : Option (List ℕ)) (items : List Item) : Type 0 where
  pub filled : IsFilled fewest most items
  pub begin : BeginsFrom low items
  pub rising : HasParts (λ key next number. IsBelow next key) items high

-- the children of an inner page, of which the first one begins with the page's own least key
pub record IsInner (IsPart : List ℕ → Option (List ℕ) → ℕ → Type 0) (fewest most : ℕ) (low : List ℕ) (high : Option (List ℕ))
    (items : List Item) : Type 0 where
  pub filled : IsFilled fewest most items
  pub begin : BeginsWith low items
  pub parts : HasParts IsPart items high

-- the tree under a page: `top` items at least in this page, `fewest` in each other one, and `most` in each
abbrev pub IsSubtree : List Node → ℕ → ℕ → ℕ → ℕ → List ℕ → Option (List ℕ) → ℕ → Type 0
IsSubtree nodes fewest most zero top low high page = IsLeaf top most low high (node_at nodes page).items
IsSubtree nodes fewest most (suc depth) top low high page =
    IsInner (IsSubtree nodes fewest most depth fewest) top most low high (node_at nodes page).items

-- the root has two children at least, or it is a leaf
abbrev pub root_least : ℕ → ℕ
root_least zero = 0
root_least (suc depth) = 2

-- the pages of a segment are a tree, and these free pages
pub record IsTree (fewest most : ℕ) (least_key : List ℕ) (nodes : List Node) : Type 0 where
  pub first : 0 < length nodes
  pub subtree : IsSubtree nodes fewest most (height_of nodes) (root_least (height_of nodes)) least_key None 0
  pub free : List ℕ
  pub are_free : AreFree nodes (node_at nodes 0).next free
  pub once : (page : ℕ) → page < length nodes → times page (pages_under nodes (height_of nodes) 0 ++ free) ≡ 1
  pub no_others : (page : ℕ) → length nodes ≤ page → times page (pages_under nodes (height_of nodes) 0 ++ free) ≡ 0

-- each page of a subtree and each free one is a page of the segment, and is there once
abbrev pub StandOnce : List Node → List ℕ → ℕ → ℕ → Type 0
StandOnce nodes free depth page =
    (q : ℕ) → times q (pages_under nodes depth page ++ free) ≤ has_page nodes q

-- some pages have the same items as before
abbrev pub KeepItems : List Node → List Node → List ℕ → Type 0
KeepItems old new pages = (q : ℕ) → 0 < times q pages → (node_at new q).items ≡ (node_at old q).items

-- the tree under a page takes another form with the same entries; pages elsewhere in the tree keep their items; a page
-- is grown, used and freed so that each stands in the subtree or among the free ones as often as before. Free were some
-- pages, and are others
pub record Reshapes (old new : List Node) (was_free is_free : List ℕ) (depth page : ℕ) : Type 0 where
  pub longer : length old ≤ length new
  pub entries : entries_under new depth page ≡ entries_under old depth page
  pub are_free : AreFree new (node_at new 0).next is_free
  pub places : (q : ℕ) → times q (pages_under new depth page ++ is_free) + has_page old q
      ≡ times q (pages_under old depth page ++ was_free) + has_page new q
  pub others : (q : ℕ) → q < length old → times q (pages_under old depth page ++ was_free) ≡ 0
      → (node_at new q).items ≡ (node_at old q).items
  pub height : height_of new ≡ height_of old

-- the leaf to which a key leads from a page: under the last item whose key isn't above it, or else under the first one
abbrev pub child_for : List ℕ → ℕ → List Item → ℕ
child_for key found [] = found
child_for key found (item ∷ items) = cond (is_less_bytes key item.key) found (child_for key item.number items)

abbrev pub first_number : List Item → ℕ
first_number [] = 0
first_number (item ∷ items) = item.number

abbrev pub leaf_for : List Node → List ℕ → ℕ → ℕ → ℕ
leaf_for nodes key zero page = page
leaf_for nodes key (suc depth) page =
    leaf_for nodes key depth (child_for key (first_number (node_at nodes page).items) (node_at nodes page).items)

-- how many pages a segment has at most, whose tree never had more than so many entries: its root, one for each least
-- fill but one, and two that a refused split of the root may leave
abbrev pub most_pages : ℕ → ℕ → ℕ
most_pages fewest count = count / (fewest - 1) + 3
