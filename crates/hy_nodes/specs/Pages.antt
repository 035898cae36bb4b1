-- What writes into one page leave of the pages of a tree.
use Rattle.std.specs.Prelude.{ℕ, ◌*◌, List, slice_set}
use Rattle.hy_page.specs.Bytes.{overwritten}
use Rattle.hy_space.specs.Space.{SpaceState}
use Rattle.hy_nodes.specs.declared.pages.Tree.{Tree}
use Rattle.hy_nodes.specs.Writes.{pages_of}
use Rattle.hy_trees.specs.Nodes.{Item, Node, item_width}
use Rattle.hy_nodes.specs.Nodes.{first_items, item_from, list_at, nodes_of}

-- the bytes of a page of a tree, and what all its pages say
abbrev pub page_in : SpaceState → Tree → ℕ → List ℕ
page_in space tree page = list_at (pages_of space tree.segment) page

abbrev pub nodes_in : SpaceState → Tree → List Node
nodes_in space tree = nodes_of tree.key_bytes (pages_of space tree.segment)

-- pages with other bytes in one of them from an offset on
abbrev pub with_bytes : List (List ℕ) → ℕ → ℕ → List ℕ → List (List ℕ)
with_bytes pages page offset bytes = slice_set pages page (overwritten (list_at pages page) offset bytes)

-- so many items, one behind another from the begin of some bytes on
abbrev pub items_in : ℕ → List ℕ → ℕ → List Item
items_in key_width bytes count = first_items (λ k. item_from key_width bytes (k * item_width key_width)) count
