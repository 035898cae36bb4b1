-- How a page of a tree is read. It has a header of eight bytes, and behind it so many items as the header says, in rising
-- order of their keys. An item is the bytes of its key, and a number in eight bytes: in a leaf the slot of the key, in an
-- inner page the page of a child. Numbers have their lowest byte first.
use Rattle.std.specs.Prelude.{ℕ, ◌+◌, ◌*◌, List, [], ◌∷◌, ◌++◌, map, slice_index_or, zero, suc}
use Rattle.hy_page.specs.Bytes.{number_of, bytes_at}
use Rattle.hy_trees.specs.Nodes.{Item, Node, item_width}

-- the list at a place of a list of lists, or the empty one
abbrev pub list_at : {Item : Type 0} → List (List Item) → ℕ → List Item
list_at lists place = slice_index_or lists place []

-- the first items of a sequence, in order
abbrev pub first_items : {Item : Type 0} → (ℕ → Item) → ℕ → List Item
first_items item zero = []
first_items item (suc k) = first_items item k ++ item k ∷ []

-- where an item begins
abbrev pub item_offset : ℕ → ℕ → ℕ
item_offset key_width place = 8 + place * item_width key_width

-- the fields of a header: how many items there are, the height of the tree, and the next free page
abbrev pub item_count : List ℕ → ℕ
item_count page = number_of (bytes_at page 0 2)

abbrev pub height_field : List ℕ → ℕ
height_field page = number_of (bytes_at page 2 2)

abbrev pub next_field : List ℕ → ℕ
next_field page = number_of (bytes_at page 4 4)

-- the item that begins at an offset
abbrev pub item_from : ℕ → List ℕ → ℕ → Item
item_from key_width bytes offset =
    record { key = bytes_at bytes offset key_width; number = number_of (bytes_at bytes (offset + key_width) 8) }

-- the item at a place
abbrev pub item_at : ℕ → List ℕ → ℕ → Item
item_at key_width page place = item_from key_width page (item_offset key_width place)

abbrev pub key_at : ℕ → List ℕ → ℕ → List ℕ
key_at key_width page place = bytes_at page (item_offset key_width place) key_width

abbrev pub number_at : ℕ → List ℕ → ℕ → ℕ
number_at key_width page place = number_of (bytes_at page (item_offset key_width place + key_width) 8)

abbrev pub items_of : ℕ → List ℕ → List Item
items_of key_width page = first_items (item_at key_width page) (item_count page)

abbrev pub node_of : ℕ → List ℕ → Node
node_of key_width page =
    record { items = items_of key_width page; height = height_field page; next = next_field page }

-- what the pages of a segment say
abbrev pub nodes_of : ℕ → List (List ℕ) → List Node
nodes_of key_width pages = map (node_of key_width) pages
