-- Pages that are there, before writes and behind them.
use Rattle.std.proofs.Common.{◌≡◌, ◌≢◌, ℕ, ◌<◌, ◌≤◌, ◌^◌, List, length, slice_index_or, ap, sym, subst, ◌∙◌, arith}
use Rattle.std.proofs.lemmas.List.{length-map}
use Rattle.hy_space.specs.Space.{SpaceState, HasPage, IsSound, page_count}
use Rattle.hy_undo.specs.UndoLog.{UndoLog}
use Rattle.hy_trees.specs.Nodes.{Item, Node, capacity, no_item, with_node}
use Rattle.hy_trees.specs.Trees.{height_of}
use Rattle.hy_trees.proofs.NodeLaws.{node_at-with_node_other, node_at-with_node_same}
use Rattle.hy_nodes.specs.declared.pages.Tree.{Tree}
use Rattle.hy_nodes.specs.Nodes.{height_field, item_at, item_count, item_offset, key_at, node_of, number_at}
use Rattle.hy_nodes.specs.Pages.{nodes_in, page_in}
use Rattle.hy_nodes.specs.Writes.{WritesSegment, pages_of}
use Rattle.hy_nodes.proofs.NodeLaws.{count-node, node_at-nodes, number-node}
use Rattle.hy_nodes.proofs.ReachLaws.{capacity_fits}
use Rattle.hy_nodes.proofs.SequenceLaws.{get_or-first_items}
use Rattle.hy_nodes.proofs.WriteLaws.{writes-then}
use Rattle.hy_nodes.proofs.SpaceLaws.{has_page, page_number-small, page_there}
use Rattle.hy_joins.specs.Pairs.{IsPage, child_at, items_at}

module _ (space : SpaceState) (tree : Tree) (page : ℕ) where
  pub node_there : HasPage space tree.segment page → page < length (nodes_in space tree)
  node_there there =
      omega (arith, page_there space tree.segment page there, length-map (pages_of space tree.segment) (node_of tree.key_bytes))

  pub there-node : tree.segment < length space.owner → page < length (nodes_in space tree) → HasPage space tree.segment page
  there-node segment within =
      has_page space tree.segment segment page
      (omega (arith, within, length-map (pages_of space tree.segment) (node_of tree.key_bytes)))

  pub count-items : HasPage space tree.segment page
      → length (items_at (nodes_in space tree) page) ≡ item_count (page_in space tree page)
  count-items there = count-node tree.key_bytes (pages_of space tree.segment) page (page_there space tree.segment page there)

  -- so many items end within the page
  pub offset-page : (n : ℕ) → 8 ≤ n → IsPage n space tree page
      → item_offset tree.key_bytes (item_count (page_in space tree page)) ≤ n
  offset-page n header is =
      capacity_fits n tree.key_bytes (item_count (page_in space tree page)) header
      (omega (arith, is.fits, count-items is.there))

  -- the number of a child is small
  pub child-small : (n place : ℕ) → IsSound n space → HasPage space tree.segment page
      → place < length (items_at (nodes_in space tree) page)
      → HasPage space tree.segment (child_at (nodes_in space tree) page place).number
      → number_at tree.key_bytes (page_in space tree page) place < 2 ^ 32
  child-small n place sound there within child =
      subst (λ (number : ℕ). number < 2 ^ 32)
      (number-node tree.key_bytes (pages_of space tree.segment) page place (page_there space tree.segment page there)
      (omega (arith, within, count-items there)))
      (page_number-small space tree.segment there.0 n (child_at (nodes_in space tree) page place).number sound
      (page_there space tree.segment (child_at (nodes_in space tree) page place).number child))

  -- the key of the first item
  pub key-first : HasPage space tree.segment page → 0 < length (items_at (nodes_in space tree) page)
      → key_at tree.key_bytes (page_in space tree page) 0 ≡ (child_at (nodes_in space tree) page 0).key
  key-first there some =
      sym (ap (λ (node : Node). (slice_index_or node.items 0 no_item).key)
      (node_at-nodes tree.key_bytes (pages_of space tree.segment) page (page_there space tree.segment page there))
      ∙ ap (λ (item : Item). item.key)
      (get_or-first_items (item_at tree.key_bytes (page_in space tree page)) (item_count (page_in space tree page)) 0 no_item
      (omega (arith, some, count-items there))))

-- a page is there behind writes that add none and take none
pub there-after : (n segment page : ℕ) (old new : SpaceState) (before after : UndoLog)
    → WritesSegment n segment old new before after → page_count new segment ≡ page_count old segment
    → HasPage old segment page → HasPage new segment page
there-after n segment page old new before after writes same there =
    (omega (arith, writes.segments, there.0), omega (arith, same, there.1))

-- the items of a page that was written, and those of each other page
pub items-written : (old new : List Node) (page : ℕ) (node : Node) → page < length old → new ≡ with_node old page node
    → items_at new page ≡ node.items
items-written old new page node within written =
    ap (λ (nodes : List Node). items_at nodes page) written
    ∙ ap (λ (at : Node). at.items) (node_at-with_node_same old page node within)

pub items-other : (old new : List Node) (page : ℕ) (node : Node) (q : ℕ) → q ≢ page → new ≡ with_node old page node
    → items_at new q ≡ items_at old q
items-other old new page node q differs written =
    ap (λ (nodes : List Node). items_at nodes q) written
    ∙ ap (λ (at : Node). at.items) (node_at-with_node_other old page node q differs)

-- pages with their items behind a write
module _ (n : ℕ) (tree : Tree) (old new : SpaceState) (before after : UndoLog) (page : ℕ) (node : Node)
    (writes : WritesSegment n tree.segment old new before after)
    (same : page_count new tree.segment ≡ page_count old tree.segment)
    (written : nodes_in new tree ≡ with_node (nodes_in old tree) page node) where
  pub IsPage-other : (q : ℕ) → q ≢ page → IsPage n old tree q → IsPage n new tree q
  IsPage-other q differs is = record {
    there = there-after n tree.segment q old new before after writes same is.there;
    fits =
        let items = items-other (nodes_in old tree) (nodes_in new tree) page node q differs written in
        omega (arith, is.fits, ap (λ (all : List Item). length all) items);
  }

  pub IsPage-written : IsPage n old tree page → length node.items ≤ capacity n tree.key_bytes → IsPage n new tree page
  IsPage-written is fits = record {
    there = there-after n tree.segment page old new before after writes same is.there;
    fits =
        let items = items-written (nodes_in old tree) (nodes_in new tree) page node (node_there old tree page is.there) written in
        omega (arith, fits, ap (λ (all : List Item). length all) items);
  }

  -- how many items a page has that wasn't written
  pub count-other : (q : ℕ) → q ≢ page → length (items_at (nodes_in new tree) q) ≡ length (items_at (nodes_in old tree) q)
  count-other q differs =
      ap (λ (all : List Item). length all) (items-other (nodes_in old tree) (nodes_in new tree) page node q differs written)

  -- and one that was
  pub count-written : HasPage old tree.segment page → length (items_at (nodes_in new tree) page) ≡ length node.items
  count-written there =
      ap (λ (all : List Item). length all)
      (items-written (nodes_in old tree) (nodes_in new tree) page node (node_there old tree page there) written)

-- three runs of writes, one behind another
pub writes-three : (n segment : ℕ) (first second third fourth : SpaceState) (one two three four : UndoLog)
    → WritesSegment n segment first second one two → WritesSegment n segment second third two three
    → WritesSegment n segment third fourth three four → WritesSegment n segment first fourth one four
writes-three n segment first second third fourth one two three four a b c =
    writes-then n segment first third fourth one three four (writes-then n segment first second third one two three a b) c

-- the height that the root says
pub height-root : (space : SpaceState) (tree : Tree) → HasPage space tree.segment 0
    → height_of (nodes_in space tree) ≡ height_field (page_in space tree 0)
height-root space tree there =
    ap (λ (node : Node). node.height)
    (node_at-nodes tree.key_bytes (pages_of space tree.segment) 0 (page_there space tree.segment 0 there))
