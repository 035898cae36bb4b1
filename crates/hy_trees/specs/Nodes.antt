-- What the pages of a tree say, and pages with other items in them.
use Rattle.std.specs.Prelude.{◌≡◌, ◌≢◌, ℕ, ◌+◌, ◌-◌, ◌/◌, max, List, [], ◌∷◌, ◌++◌, length, take, drop, slice_index_or, slice_set}

-- how many bytes an item has
abbrev pub item_width : ℕ → ℕ
item_width key_width = key_width + 8

-- how many items a page of n bytes has at most, and how many each but the root has at least
abbrev pub capacity : ℕ → ℕ → ℕ
capacity n key_width = (n - 8) / item_width key_width

abbrev pub least_items : ℕ → ℕ → ℕ
least_items n key_width = max (capacity n key_width / 4) 2

-- a key, and the slot that it has or the page under which the keys from it on stand
pub record Item : Type 0 where
  pub key : List ℕ
  pub number : ℕ

-- an item that isn't there
abbrev pub no_item : Item
no_item = record { key = []; number = 0 }

-- what a page says: its items, and, in page 0, how many pages stand above each leaf, and the first free page. A free
-- page names the next one; 0 is none
pub record Node : Type 0 where
  pub items : List Item
  pub height : ℕ
  pub next : ℕ

-- a page that isn't there
abbrev pub no_node : Node
no_node = record { items = []; height = 0; next = 0 }

abbrev pub node_at : List Node → ℕ → Node
node_at nodes page = slice_index_or nodes page no_node

-- the pages of a tree with another one in the place of one
abbrev pub with_node : List Node → ℕ → Node → List Node
with_node nodes page node = slice_set nodes page node

-- a page with other items, with another height, and with another next free page
abbrev pub with_items : Node → List Item → Node
with_items node items = record { items = items; height = node.height; next = node.next }

abbrev pub with_height : Node → ℕ → Node
with_height node height = record { items = node.items; height = height; next = node.next }

abbrev pub with_next : Node → ℕ → Node
with_next node next = record { items = node.items; height = node.height; next = next }

-- a page with other items from a place on
abbrev pub with_tail : Node → ℕ → List Item → Node
with_tail node place tail = with_items node (take place node.items ++ tail)

-- a page with more items before those from a place on
abbrev pub with_more : Node → ℕ → List Item → Node
with_more node place items = with_tail node place (items ++ drop place node.items)

-- a page without the items from one place to another
abbrev pub without_items : Node → ℕ → ℕ → Node
without_items node start end = with_tail node start (drop end node.items)

-- a page in which the item at a place has another number, or another key
abbrev pub with_number : Node → ℕ → ℕ → Node
with_number node place number = with_items node
    (slice_set node.items place (record { key = (slice_index_or node.items place no_item).key; number = number }))

abbrev pub with_key : Node → ℕ → List ℕ → Node
with_key node place key = with_items node
    (slice_set node.items place (record { key = key; number = (slice_index_or node.items place no_item).number }))

-- a page without items was taken: the first of the free ones, or one behind all others
pub record TakesPage (old new : List Node) (page : ℕ) : Type 0 where
  pub free : (node_at old 0).next ≢ 0
      → (page ≡ (node_at old 0).next) × (new ≡ with_node old 0 (with_next (node_at old 0) (node_at old page).next))
  pub grown : (node_at old 0).next ≡ 0 → (page ≡ length old) × (new ≡ old ++ no_node ∷ [])

-- a page that is the first of the free ones
abbrev pub with_free : List Node → ℕ → List Node
with_free nodes page =
    with_node (with_node nodes page
    (record { items = []; height = (node_at nodes page).height; next = (node_at nodes 0).next }))
    0 (with_next (node_at nodes 0) page)
