-- A tree that the checker computes: keys of one byte on pages of 40 bytes, so that a page has three items at most.
use Rattle.std.specs.Prelude.{◌≡◌, ℕ, Some, None, List, [], ◌∷◌, ◌++◌, replicate}
use Rattle.std.proofs.Common.{refl}
use Rattle.hy_page.specs.Bytes.{bytes_of}
use Rattle.hy_index.specs.Writes.{leaf_items}
use Rattle.hy_trees.specs.Nodes.{Item, Node, capacity, least_items, node_at, with_free, with_more, with_number, without_items}
use Rattle.hy_joins.specs.of_nodes.Nodes.{nodes_of}
use Rattle.hy_trees.specs.Trees.{height_of, pages_under, times}
use Rattle.hy_index.specs.Searches.{found_in}

abbrev item : ℕ → ℕ → Item
item key number = record { key = key ∷ []; number = number }

abbrev bytes_of_item : ℕ → ℕ → List ℕ
bytes_of_item key number = key ∷ bytes_of 8 number

abbrev header : ℕ → ℕ → ℕ → List ℕ
header count height next = bytes_of 2 count ++ bytes_of 2 height ++ bytes_of 4 next

-- page 0 has two children, the pages 1 and 2; page 3 is free
abbrev pages : List (List ℕ)
pages =
    (header 2 1 3 ++ bytes_of_item 0 1 ++ bytes_of_item 20 2 ++ replicate 14 0)
    ∷ (header 2 0 0 ++ bytes_of_item 10 70 ++ bytes_of_item 15 71 ++ replicate 14 0)
    ∷ (header 3 0 0 ++ bytes_of_item 20 72 ++ bytes_of_item 25 73 ++ bytes_of_item 30 74 ++ replicate 5 0)
    ∷ replicate 40 0
    ∷ []

abbrev nodes : List Node
nodes = nodes_of 1 pages

three_at_most : capacity 40 1 ≡ 3
three_at_most = refl

two_at_least : least_items 40 1 ≡ 2
two_at_least = refl

-- what a page of 256 bytes has of keys of 48, and one of 4,096 of keys of 8
four_at_most : capacity 256 48 ≡ 4
four_at_most = refl

many_at_most : capacity 4096 8 ≡ 255
many_at_most = refl

a_quarter : least_items 4096 8 ≡ 63
a_quarter = refl

levels : height_of nodes ≡ 1
levels = refl

-- the entries are those of the leaves, in order
all_entries : leaf_items 1 pages ≡ item 10 70 ∷ item 15 71 ∷ item 20 72 ∷ item 25 73 ∷ item 30 74 ∷ []
all_entries = refl

tree_pages : pages_under nodes 1 0 ≡ 0 ∷ 1 ∷ 2 ∷ []
tree_pages = refl

first_free : (node_at nodes 0).next ≡ 3
first_free = refl

free_once : times 3 (pages_under nodes 1 0 ++ 3 ∷ []) ≡ 1
free_once = refl

found_there : found_in (25 ∷ []) (leaf_items 1 pages) ≡ Some 73
found_there = refl

found_absent : found_in (12 ∷ []) (leaf_items 1 pages) ≡ None
found_absent = refl

-- an item more in the first leaf, before its second one; one taken out of the other; and another slot
one_more : (with_more (node_at nodes 1) 1 (item 12 75 ∷ [])).items ≡ item 10 70 ∷ item 12 75 ∷ item 15 71 ∷ []
one_more = refl

one_less : (without_items (node_at nodes 2) 1 2).items ≡ item 20 72 ∷ item 30 74 ∷ []
one_less = refl

another_slot : (with_number (node_at nodes 1) 1 99).items ≡ item 10 70 ∷ item 15 99 ∷ []
another_slot = refl

-- a page that falls out of the tree is the first free one, and names the one that was
freed : node_at (with_free nodes 2) 2 ≡ record { items = []; height = 0; next = 3 }
freed = refl

freed_first : (node_at (with_free nodes 2) 0).next ≡ 2
freed_first = refl
