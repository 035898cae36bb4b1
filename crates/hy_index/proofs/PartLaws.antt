-- What a page of a part of a tree has, and the parts below it.
use Rattle.std.proofs.Common.{◌≡◌, ℕ, zero, suc, ◌-◌, ◌<◌, ◌^◌, inl, inr, List, [], length, take, drop, replicate, slice_index_or, None, sym, ap, ◌∙◌, subst, arith}
use Rattle.std.proofs.lemmas.Bool.{cases_lt}
use Rattle.std.proofs.lemmas.List.{length-map}
use Rattle.hy_space.specs.Space.{SpaceState, HasPage, IsSound}
use Rattle.hy_trees.specs.Nodes.{Item, Node, capacity, least_items, no_item, node_at}
use Rattle.hy_trees.specs.Trees.{IsFilled, height_of, is_less_bytes, next_key, pages_under, root_least, times}
use Rattle.hy_trees.proofs.CountLaws.{has_page-no, times-append, times-first}
use Rattle.hy_trees.proofs.LiftLaws.{IsSubtree-child, StandOnce-child}
use Rattle.hy_trees.proofs.RootLaws.{IsRooted-from_tree, StandOnce-rooted}
use Rattle.hy_trees.proofs.PlaceLaws.{filled_at, items-rise, rises-at, split_at}
use Rattle.hy_joins.specs.of_nodes.declared.pages.Tree.{Tree}
use Rattle.hy_joins.specs.of_nodes.Nodes.{item_at, item_count, items_of, key_at, node_of, number_at}
use Rattle.hy_joins.specs.of_nodes.Pages.{nodes_in, page_in}
use Rattle.hy_joins.specs.of_nodes.Places.{AreRising, HasItems}
use Rattle.hy_joins.specs.of_nodes.Ways.{HasTree}
use Rattle.hy_joins.specs.of_nodes.Writes.{pages_of}
use Rattle.hy_joins.proofs.of_nodes.SpaceLaws.{length-pages_of, page_number-small}
use Rattle.hy_joins.proofs.of_nodes.SequenceLaws.{get_or-first_items, length-first_items}
use Rattle.hy_joins.proofs.of_nodes.NodeLaws.{node_at-nodes}
use Rattle.hy_joins.proofs.of_nodes.ReachLaws.{capacity_fits, some_least}
use Rattle.hy_index.specs.Parts.{IsPartAt}

-- the whole tree
pub whole-tree : (n : ℕ) (space : SpaceState) (tree : Tree) → HasTree n space tree → IsPartAt n space tree (height_of (nodes_in space tree)) 0
whole-tree n space tree has = record {
  top = root_least (height_of (nodes_in space tree));
  low = replicate tree.key_bytes 0;
  high = None;
  subtree = has.subtree;
  some = some_root (height_of (nodes_in space tree));
  free = has.free;
  once = StandOnce-rooted (least_items n tree.key_bytes) (capacity n tree.key_bytes) (root_least (height_of (nodes_in space tree))) (replicate tree.key_bytes 0) (nodes_in space tree) has.free
      (IsRooted-from_tree (least_items n tree.key_bytes) (capacity n tree.key_bytes) (replicate tree.key_bytes 0) (nodes_in space tree) has);
}
  where
    some_root : (height : ℕ) → 0 < height → 0 < root_least height
    some_root zero some = absurd (omega (arith, some))
    some_root (suc height) some = omega arith

module _ (n : ℕ) (space : SpaceState) (tree : Tree) (there : tree.segment < length space.owner) (sound : IsSound n space) where
  pub part-within : (depth page : ℕ) → IsPartAt n space tree depth page → page < length (pages_of space tree.segment)
  part-within depth page part =
      let once = part.once page in
      let all = times-append page (pages_under (nodes_in space tree) depth page) part.free in
      let here = itself depth in
      elim (cases_lt page (length (nodes_in space tree))) [
        | inl below ↦ omega (arith, below, length-map (pages_of space tree.segment) (node_of tree.key_bytes))
        | inr past ↦ absurd (omega (arith, once, all, here, has_page-no (nodes_in space tree) page past))
      ]
    where
      itself : (d : ℕ) → 0 < times page (pages_under (nodes_in space tree) d page)
      itself zero = times-first page []
      itself (suc d) = times-first page _

  pub part-page : (depth page : ℕ) → IsPartAt n space tree depth page → HasPage space tree.segment page
  part-page depth page part = (there, omega (arith, part-within depth page part, length-pages_of space tree.segment there))

  pub part-small : (depth page : ℕ) → IsPartAt n space tree depth page → page < 2 ^ 32
  part-small depth page part = page_number-small space tree.segment there n page sound (part-within depth page part)

  module _ (depth page : ℕ) (part : IsPartAt n space tree depth page) (whole : List ℕ) (is : whole ≡ page_in space tree page) where
    node_is : node_at (nodes_in space tree) page ≡ node_of tree.key_bytes whole
    node_is = node_at-nodes tree.key_bytes (pages_of space tree.segment) page (part-within depth page part) ∙ ap (node_of tree.key_bytes) (sym is)

    pub part-items : (node_at (nodes_in space tree) page).items ≡ items_of tree.key_bytes whole
    part-items = ap (λ (node : Node). node.items) node_is

    pub part-count : length (node_at (nodes_in space tree) page).items ≡ item_count whole
    part-count = ap (λ (node : Node). length node.items) node_is ∙ length-first_items (item_at tree.key_bytes whole) (item_count whole)

    pub part-item : (place : ℕ) → place < item_count whole → slice_index_or (node_at (nodes_in space tree) page).items place no_item ≡ item_at tree.key_bytes whole place
    part-item place within = ap (λ (node : Node). slice_index_or node.items place no_item) node_is ∙ get_or-first_items (item_at tree.key_bytes whole) (item_count whole) place no_item within

    filled : IsFilled part.top (capacity n tree.key_bytes) (node_at (nodes_in space tree) page).items
    filled = filled_at (nodes_in space tree) (least_items n tree.key_bytes) (capacity n tree.key_bytes) depth part.top part.low part.high page part.subtree

    pub part-fits : length whole ≡ n → HasItems tree.key_bytes whole
    part-fits full =
        let fits = capacity_fits n tree.key_bytes (item_count whole) (omega (arith, sound.size.smallest)) (omega (arith, filled.fits, part-count)) in
        omega (arith, fits, full)

    pub part-rising : AreRising tree.key_bytes whole (item_count whole)
    part-rising i j before within =
        ap (λ (item : Item). is_less_bytes (key_at tree.key_bytes whole i) item.key) (sym (part-item j within))
        ∙ ap (λ (item : Item). is_less_bytes item.key (slice_index_or (node_at (nodes_in space tree) page).items j no_item).key) (sym (part-item i (omega (arith, before, within))))
        ∙ rises-at (node_at (nodes_in space tree) page).items part.high i j
        (items-rise (nodes_in space tree) (least_items n tree.key_bytes) (capacity n tree.key_bytes) depth part.top part.low part.high page (some_least n tree.key_bytes) part.subtree) before (omega (arith, within, part-count))

    pub part-some : 0 < depth → 0 < item_count whole
    part-some inner =
        omega (arith, filled.enough, part.some inner, part-count)

  -- the part under a child
  pub part-down : (depth page : ℕ) → 0 < depth → IsPartAt n space tree depth page → (whole : List ℕ) → whole ≡ page_in space tree page → (place : ℕ) → place < item_count whole → IsPartAt n space tree (depth - 1) (number_at tree.key_bytes whole place)
  part-down zero page inner part whole is place within = absurd (omega (arith, inner))
  part-down (suc depth) page inner part whole is place within =
      let items = (node_at (nodes_in space tree) page).items in
      let item = part-item (suc depth) page part whole is place within in
      let count = part-count (suc depth) page part whole is in
      let split = split_at items place (omega (arith, within, count)) in
      let less : depth ≡ suc depth - 1 = omega arith in
      subst (λ (d : ℕ). IsPartAt n space tree d (number_at tree.key_bytes whole place)) less
      (subst (λ (child : ℕ). IsPartAt n space tree depth child) (ap (λ (i : Item). i.number) item)
      (record {
        top = least_items n tree.key_bytes;
        low = (slice_index_or items place no_item).key;
        high = next_key (drop (suc place) items) part.high;
        subtree = IsSubtree-child (nodes_in space tree) (least_items n tree.key_bytes) (capacity n tree.key_bytes) depth part.top part.low part.high page (take place items) (slice_index_or items place no_item) (drop (suc place) items) split part.subtree;
        some = λ below. some_least n tree.key_bytes;
        free = part.free;
        once = StandOnce-child (nodes_in space tree) depth page (take place items) (slice_index_or items place no_item) (drop (suc place) items) split part.free part.once;
      }))
