-- The pages of a segment, by the items that they have.
use Rattle.std.proofs.Common.{◌≡◌, ℕ, ◌+◌, ◌*◌, ◌<◌, ◌≤◌, ◌^◌, true, List, [], ◌∷◌, ◌++◌, length, take, slice_index_or, sym, ap, ◌∙◌, subst, arith}
use Rattle.std.proofs.Math.Path.{ap₂}
use Rattle.std.proofs.lemmas.List.{drop_at, length-map, take_all, take_at}
use Rattle.hy_page.specs.Bytes.{bytes_at, bytes_of, number_of}
use Rattle.hy_page.proofs.ByteLaws.{length-bytes_of, number_of-bytes_of}
use Rattle.hy_space.specs.Space.{SpaceState, HasPage, IsSound, page_count}
use Rattle.hy_trees.specs.Nodes.{Item, Node, capacity, item_width, no_item, node_at, with_more, with_node}
use Rattle.hy_trees.specs.Groups.{SetsItems}
use Rattle.hy_trees.proofs.WriteLaws.{SetsItems-with_items}
use Rattle.hy_nodes.specs.declared.pages.Tree.{Tree}
use Rattle.hy_nodes.specs.Nodes.{item_at, item_count, item_from, item_offset, node_of, number_at}
use Rattle.hy_nodes.specs.Places.{AreRising}
use Rattle.hy_trees.specs.Trees.{is_less_bytes}
use Rattle.hy_nodes.specs.Pages.{items_in, nodes_in, page_in}
use Rattle.hy_nodes.specs.Writes.{pages_of}
use Rattle.hy_nodes.proofs.NodeLaws.{count-node, node_at-nodes}
use Rattle.hy_nodes.proofs.ReachLaws.{capacity_fits}
use Rattle.hy_nodes.proofs.SequenceLaws.{get_or-first_items}
use Rattle.hy_nodes.proofs.SpaceLaws.{length-pages_of, page_number-small, page_there}

-- a page is there, where no page came or went
pub page-kept : (old new : SpaceState) (segment page : ℕ) → HasPage old segment page → length new.owner ≡ length old.owner → page_count new segment ≡ page_count old segment → HasPage new segment page
page-kept old new segment page there segments pages = (omega (arith, there.0, segments), omega (arith, there.1, pages))

module _ (space : SpaceState) (tree : Tree) where
  pub length-nodes : tree.segment < length space.owner → length (nodes_in space tree) ≡ page_count space tree.segment
  length-nodes there = length-map (pages_of space tree.segment) (node_of tree.key_bytes) ∙ length-pages_of space tree.segment there

  pub page_of-node : (page : ℕ) → tree.segment < length space.owner → page < length (nodes_in space tree) → HasPage space tree.segment page
  page_of-node page there within = (there, omega (arith, within, length-nodes there))

  pub node_of-page : (page : ℕ) → HasPage space tree.segment page → page < length (nodes_in space tree)
  node_of-page page there = omega (arith, there.1, length-nodes there.0)

  pub item_count-node : (page : ℕ) → HasPage space tree.segment page → item_count (page_in space tree page) ≡ length (node_at (nodes_in space tree) page).items
  item_count-node page there = sym (count-node tree.key_bytes (pages_of space tree.segment) page (page_there space tree.segment page there))

  -- so many items more fit too
  pub fits-more : (n page more : ℕ) → 256 ≤ n → HasPage space tree.segment page → length (node_at (nodes_in space tree) page).items + more ≤ capacity n tree.key_bytes
      → item_offset tree.key_bytes (item_count (page_in space tree page) + more) ≤ n
  fits-more n page more large there within =
      capacity_fits n tree.key_bytes (item_count (page_in space tree page) + more) (omega (arith, large)) (omega (arith, within, item_count-node page there))

  pub fits-node : (n page : ℕ) → 256 ≤ n → HasPage space tree.segment page → length (node_at (nodes_in space tree) page).items ≤ capacity n tree.key_bytes
      → item_offset tree.key_bytes (item_count (page_in space tree page)) ≤ n
  fits-node n page large there within =
      capacity_fits n tree.key_bytes (item_count (page_in space tree page)) (omega (arith, large)) (omega (arith, within, item_count-node page there))

  -- the item at a place
  pub item-node : (page place : ℕ) → HasPage space tree.segment page → place < length (node_at (nodes_in space tree) page).items
      → slice_index_or (node_at (nodes_in space tree) page).items place no_item ≡ item_at tree.key_bytes (page_in space tree page) place
  item-node page place there within =
      ap (λ (node : Node). slice_index_or node.items place no_item) (node_at-nodes tree.key_bytes (pages_of space tree.segment) page (page_there space tree.segment page there))
      ∙ get_or-first_items (item_at tree.key_bytes (page_in space tree page)) (item_count (page_in space tree page)) place no_item (omega (arith, within, item_count-node page there))

  -- a child that the segment has is named by a small number
  pub child-small : (n page place : ℕ) → IsSound n space → HasPage space tree.segment page → place < length (node_at (nodes_in space tree) page).items
      → (slice_index_or (node_at (nodes_in space tree) page).items place no_item).number < length (nodes_in space tree) → number_at tree.key_bytes (page_in space tree page) place < 2 ^ 32
  child-small n page place sound there within child =
      let small = page_number-small space tree.segment there.0 n (slice_index_or (node_at (nodes_in space tree) page).items place no_item).number sound
      (omega (arith, child, length-map (pages_of space tree.segment) (node_of tree.key_bytes))) in
      omega (arith, small, ap (λ (item : Item). item.number) (item-node page place there within))

  -- keys that rise by the items do so by the bytes
  pub rising-node : (page : ℕ) (whole : List ℕ) → HasPage space tree.segment page → whole ≡ page_in space tree page
      → ((i j : ℕ) → i < j → j < length (node_at (nodes_in space tree) page).items → is_less_bytes (slice_index_or (node_at (nodes_in space tree) page).items i no_item).key (slice_index_or (node_at (nodes_in space tree) page).items j no_item).key ≡ true)
      → AreRising tree.key_bytes whole (item_count whole)
  rising-node page whole there is rising =
      subst (λ (bytes : List ℕ). AreRising tree.key_bytes bytes (item_count bytes)) (sym is)
      (λ i j before within.
      let long = item_count-node page there in
      ap₂ (λ (one other : Item). is_less_bytes one.key other.key) (sym (item-node page i there (omega (arith, before, within, long)))) (sym (item-node page j there (omega (arith, within, long))))
      ∙ rising i j before (omega (arith, within, long)))

-- the bytes of a key and of a number are those of one item
item_from-parts : (kw : ℕ) (key bytes digits : List ℕ) (number offset : ℕ) → offset ≡ 0 → length key ≡ kw → length digits ≡ 8 → number_of digits ≡ number → bytes ≡ key ++ digits → item_from kw bytes offset ≡ record { key = key; number = number }
item_from-parts kw key bytes digits number offset begin long eight value is =
    let behind : offset + kw ≡ kw = omega (arith, begin) in
    ap₂ (λ (k : List ℕ) (n : ℕ). record { key = k; number = n })
    (ap₂ (λ (b : List ℕ) (from : ℕ). bytes_at b from kw) is begin ∙ take_at key digits kw long)
    (ap₂ (λ (b : List ℕ) (from : ℕ). number_of (bytes_at b from 8)) is behind
    ∙ ap (λ (b : List ℕ). number_of (take 8 b)) (drop_at key digits kw long)
    ∙ ap number_of (take_all 8 digits (omega (arith, eight)))
    ∙ value)

pub items_in-one : (kw : ℕ) (key bytes : List ℕ) (number child : ℕ) → length key ≡ kw → child < 2 ^ 32 → number ≡ child → bytes ≡ key ++ bytes_of 8 number → items_in kw bytes 1 ≡ record { key = key; number = child } ∷ []
items_in-one kw key bytes number child long small same is =
    ap (λ (item : Item). item ∷ [])
    (item_from-parts kw key bytes (bytes_of 8 number) child (0 * item_width kw) (omega arith) long (length-bytes_of 8 number) (number_of-bytes_of 8 number (omega (arith, small, same)) ∙ same) is)

-- a write that put these items into a page, which are others by another name
pub SetsItems-with_more : (nodes new : List Node) (page place : ℕ) (items others : List Item) → page < length nodes → items ≡ others
    → new ≡ with_node nodes page (with_more (node_at nodes page) place items) → SetsItems nodes new page (with_more (node_at nodes page) place others).items
SetsItems-with_more nodes new page place items others there same is =
    subst (λ (all : List Node). SetsItems nodes all page (with_more (node_at nodes page) place others).items)
    (sym (is ∙ ap (λ (i : List Item). with_node nodes page (with_more (node_at nodes page) place i)) same))
    (SetsItems-with_items nodes page (with_more (node_at nodes page) place others).items there)
