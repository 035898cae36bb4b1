-- The pages of a segment as a tree, the way from its root to where a key stands, and changes that keep its entries.
use Rattle.std.specs.Prelude.{◌≡◌, ℕ, ◌+◌, ◌≤◌, List, length, replicate}
use Rattle.hy_space.specs.Space.{SpaceState}
use Rattle.hy_trees.specs.Nodes.{Item, capacity, least_items}
use Rattle.hy_trees.specs.Trees.{IsTree, entries_under, height_of, most_pages, pages_under, root_least}
use Rattle.hy_trees.specs.Leaves.{Leads}
use Rattle.hy_nodes.specs.declared.pages.Tree.{Tree}
use Rattle.hy_nodes.specs.Pages.{nodes_in}

-- the pages of a segment are a tree
abbrev pub HasTree : ℕ → SpaceState → Tree → Type 0
HasTree n space tree =
    IsTree (least_items n tree.key_bytes) (capacity n tree.key_bytes) (replicate tree.key_bytes 0) (nodes_in space tree)

-- a key leads to a page of it
abbrev pub LeadsTo : ℕ → SpaceState → Tree → List ℕ → ℕ → ℕ → Type 0
LeadsTo n space tree key depth page =
    Leads (nodes_in space tree) (least_items n tree.key_bytes) (capacity n tree.key_bytes) (height_of (nodes_in space tree))
    (root_least (height_of (nodes_in space tree))) (replicate tree.key_bytes 0) key depth page

-- the entries of a tree, and its pages, without the free ones
abbrev pub entries_in : SpaceState → Tree → List Item
entries_in space tree = entries_under (nodes_in space tree) (height_of (nodes_in space tree)) 0

abbrev pub tree_pages : SpaceState → Tree → List ℕ
tree_pages space tree = pages_under (nodes_in space tree) (height_of (nodes_in space tree)) 0

-- a tree with the same entries, and so many pages more in it at most; none left the segment
pub record KeepsEntries (n : ℕ) (tree : Tree) (old new : SpaceState) (more : ℕ) : Type 0 where
  pub is_tree : HasTree n new tree
  pub entries : entries_in new tree ≡ entries_in old tree
  pub longer : length (nodes_in old tree) ≤ length (nodes_in new tree)
  pub few : length (tree_pages new tree) ≤ length (tree_pages old tree) + more

-- no page is added without need: where the pages were no more than those for some number of entries, which is no less
-- than that of the tree, they are no more still
abbrev pub KeepsPages : ℕ → Tree → SpaceState → SpaceState → Type 0
KeepsPages n tree old new =
    (count : ℕ) → length (entries_in old tree) ≤ count
    → length (nodes_in old tree) ≤ most_pages (least_items n tree.key_bytes) count
    → length (nodes_in new tree) ≤ most_pages (least_items n tree.key_bytes) count

-- the free pages may be fewer than so many
abbrev pub HasFewFree : Tree → SpaceState → ℕ → Type 0
HasFewFree tree space more = length (nodes_in space tree) ≤ length (tree_pages space tree) + more
