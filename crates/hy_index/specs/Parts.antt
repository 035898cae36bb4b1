-- A part of a tree: a page with all that stands below it.
use Rattle.std.specs.Prelude.{ℕ, ◌<◌, List, Option}
use Rattle.hy_space.specs.Space.{SpaceState}
use Rattle.hy_trees.specs.Nodes.{capacity, least_items}
use Rattle.hy_trees.specs.Trees.{IsSubtree, StandOnce}
use Rattle.hy_joins.specs.of_nodes.declared.pages.Tree.{Tree}
use Rattle.hy_joins.specs.of_nodes.Pages.{nodes_in}

-- a tree stands under a page, above so many pages, between some bounds, and each of its pages is one of the segment
pub record IsPartAt (n : ℕ) (space : SpaceState) (tree : Tree) (depth page : ℕ) : Type 0 where
  pub top : ℕ
  pub low : List ℕ
  pub high : Option (List ℕ)
  pub subtree : IsSubtree (nodes_in space tree) (least_items n tree.key_bytes) (capacity n tree.key_bytes) depth top low high page
  pub some : 0 < depth → 0 < top
  pub free : List ℕ
  pub once : StandOnce (nodes_in space tree) free depth page
