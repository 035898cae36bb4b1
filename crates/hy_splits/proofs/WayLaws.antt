-- The way from a page to the next one, and what a split below it leaves of a space.
use Rattle.std.proofs.Common.{◌≡◌, ◌≢◌, ℕ, suc, ◌+◌, ◌-◌, ◌<◌, ◌≤◌, ◌^◌, true, false, List, length, replicate, refl, sym, ap, ◌∙◌, subst, arith}
use Rattle.hy_space.specs.Space.{SpaceState, HasPage, IsSound, page_count}
use Rattle.hy_trees.specs.Nodes.{Item, capacity, least_items, node_at}
use Rattle.hy_trees.specs.Trees.{is_less_bytes}
use Rattle.hy_trees.proofs.FillLaws.{least_items-some}
use Rattle.hy_trees.proofs.PlaceLaws.{filled_at, items-rise, rises-at}
use Rattle.hy_nodes.specs.declared.pages.Tree.{Tree}
use Rattle.hy_nodes.specs.Nodes.{number_at}
use Rattle.hy_nodes.specs.Pages.{nodes_in, page_in}
use Rattle.hy_nodes.specs.Places.{IsChildPlace}
use Rattle.hy_nodes.specs.Ways.{HasFewFree, HasTree, KeepsEntries, KeepsPages, LeadsTo}
use Rattle.hy_nodes.proofs.ReachLaws.{LeadsTo-down, reached-page, reached-small}
use Rattle.hy_splits.specs.Splits.{IsFullChild, SplitsChild, child_at}
use Rattle.hy_splits.proofs.NumberLaws.{GrowsOnce, none-free, once-most}
use Rattle.hy_splits.proofs.PageLaws.{item-node, item_count-node, length-nodes}
use Rattle.hy_splits.proofs.TreeLaws.{leads-once, split-entries, split-few, split-leads, split-longer, split-room, split-tree}

-- what a call says of the number of pages, in the words of the pages
pub grows-pages : (old new : SpaceState) (tree : Tree) → tree.segment < length old.owner → tree.segment < length new.owner → page_count new tree.segment ≤ page_count old tree.segment + 1
    → ((node_at (nodes_in old tree) 0).next ≢ 0 → page_count new tree.segment ≡ page_count old tree.segment) → GrowsOnce (nodes_in old tree) (nodes_in new tree)
grows-pages old new tree there here less kept =
    let one = length-nodes old tree there in let two = length-nodes new tree here in
    (omega (arith, less, one, two), λ some. two ∙ kept some ∙ sym one)

-- what it means for a tree
module _ (n : ℕ) (old : SpaceState) (tree : Tree) (has : HasTree n old tree) where
  pub KeepsPages-grown : (new : SpaceState) → GrowsOnce (nodes_in old tree) (nodes_in new tree) → KeepsPages n tree old new
  KeepsPages-grown new grows count few fits =
      once-most (least_items n tree.key_bytes) (capacity n tree.key_bytes) (replicate tree.key_bytes 0) (nodes_in old tree) has (nodes_in new tree) count (omega (arith, least_items-some n tree.key_bytes)) grows few fits

  pub HasFewFree-none : (more : ℕ) → (node_at (nodes_in old tree) 0).next ≡ 0 → HasFewFree tree old more
  HasFewFree-none more none =
      let all = none-free (least_items n tree.key_bytes) (capacity n tree.key_bytes) (replicate tree.key_bytes 0) (nodes_in old tree) has none in
      omega (arith, all)

module _ (n : ℕ) (space : SpaceState) (tree : Tree) (key : List ℕ) (there : tree.segment < length space.owner) (sound : IsSound n space) (has : HasTree n space tree)
    (depth page place : ℕ) (inner : 0 < depth) (leads : LeadsTo n space tree key depth page) (at : IsChildPlace tree.key_bytes (page_in space tree page) key place) where
  here : HasPage space tree.segment page
  here = reached-page n space tree key there sound has depth page leads

  pub way-within : place < length (node_at (nodes_in space tree) page).items
  way-within = omega (arith, at.within, item_count-node space tree page here)

  leads-deep : LeadsTo n space tree key (suc (depth - 1)) page
  leads-deep = subst (λ (d : ℕ). LeadsTo n space tree key d page) (let same : depth ≡ suc (depth - 1) = omega (arith, inner) in same) leads

  pub way-small : number_at tree.key_bytes (page_in space tree page) place < 2 ^ 32
  way-small = reached-small n space tree key there sound has (depth - 1) (number_at tree.key_bytes (page_in space tree page) place) (LeadsTo-down n space tree key there sound has depth page inner leads (page_in space tree page) refl place at)

  -- the next page
  pub way-down : LeadsTo n space tree key (depth - 1) (child_at (nodes_in space tree) page place).number
  way-down =
      subst (λ (child : ℕ). LeadsTo n space tree key (depth - 1) child) (sym (ap (λ (item : Item). item.number) (item-node space tree page place here way-within)))
      (LeadsTo-down n space tree key there sound has depth page inner leads (page_in space tree page) refl place at)

  pub way-page : HasPage space tree.segment (child_at (nodes_in space tree) page place).number
  way-page = reached-page n space tree key there sound has (depth - 1) (child_at (nodes_in space tree) page place).number way-down

  pub way-fits : length (node_at (nodes_in space tree) (child_at (nodes_in space tree) page place).number).items ≤ capacity n tree.key_bytes
  way-fits =
      let filled = filled_at (nodes_in space tree) (least_items n tree.key_bytes) (capacity n tree.key_bytes) (depth - 1) way-down.top way-down.low way-down.high (child_at (nodes_in space tree) page place).number way-down.subtree in
      omega (arith, filled.fits)

  way-from : 0 < place → is_less_bytes key (child_at (nodes_in space tree) page place).key ≡ false
  way-from some = ap (λ (item : Item). is_less_bytes key item.key) (item-node space tree page place here way-within) ∙ at.from some

  way-behind : place + 1 < length (node_at (nodes_in space tree) page).items → is_less_bytes key (child_at (nodes_in space tree) page (place + 1)).key ≡ true
  way-behind more =
      ap (λ (item : Item). is_less_bytes key item.key) (item-node space tree page (place + 1) here more)
      ∙ at.behind (place + 1) (omega arith) (omega (arith, more, item_count-node space tree page here))

  module _ (room : length (node_at (nodes_in space tree) page).items < capacity n tree.key_bytes) where
    pub way-full : length (node_at (nodes_in space tree) (child_at (nodes_in space tree) page place).number).items ≡ capacity n tree.key_bytes
        → IsFullChild (capacity n tree.key_bytes) (nodes_in space tree) page place
    way-full full = record {
      free = has.free;
      depth = depth - 1;
      are_free = has.are_free;
      once = leads-once (least_items n tree.key_bytes) (capacity n tree.key_bytes) (replicate tree.key_bytes 0) (nodes_in space tree) has key (suc (depth - 1)) page leads-deep;
      within = way-within;
      room = room;
      full = full;
      rising = λ i j before within. rises-at (node_at (nodes_in space tree) (child_at (nodes_in space tree) page place).number).items way-down.high i j
          (items-rise (nodes_in space tree) (least_items n tree.key_bytes) (capacity n tree.key_bytes) (depth - 1) way-down.top way-down.low way-down.high (child_at (nodes_in space tree) page place).number
          (omega (arith, least_items-some n tree.key_bytes)) way-down.subtree) before within;
    }

    module _ (new : SpaceState) (half : ℕ) (split : SplitsChild (least_items n tree.key_bytes) (capacity n tree.key_bytes) (nodes_in space tree) (nodes_in new tree) key page place half) where
      some : 0 < least_items n tree.key_bytes
      some = omega (arith, least_items-some n tree.key_bytes)

      pub way-keeps : GrowsOnce (nodes_in space tree) (nodes_in new tree) → KeepsEntries n tree space new 1
      way-keeps grows = record {
        is_tree = split-tree (least_items n tree.key_bytes) (capacity n tree.key_bytes) (replicate tree.key_bytes 0) (nodes_in space tree) (nodes_in new tree) has key (depth - 1) page place half leads-deep split some room way-within;
        entries = split-entries (least_items n tree.key_bytes) (capacity n tree.key_bytes) (replicate tree.key_bytes 0) (nodes_in space tree) (nodes_in new tree) has key (depth - 1) page place half leads-deep split some room way-within;
        longer = split-longer (least_items n tree.key_bytes) (capacity n tree.key_bytes) (replicate tree.key_bytes 0) (nodes_in space tree) (nodes_in new tree) has key (depth - 1) page place half leads-deep split some room way-within;
        few = split-few (least_items n tree.key_bytes) (capacity n tree.key_bytes) (replicate tree.key_bytes 0) (nodes_in space tree) (nodes_in new tree) has key (depth - 1) page place half leads-deep split some room way-within grows;
      }

      pub way-half : LeadsTo n new tree key (depth - 1) half
      way-half = split-leads (least_items n tree.key_bytes) (capacity n tree.key_bytes) (replicate tree.key_bytes 0) (nodes_in space tree) (nodes_in new tree) has key (depth - 1) page place half leads-deep split some room way-within way-from way-behind

      pub way-room : length (node_at (nodes_in new tree) half).items < capacity n tree.key_bytes
      way-room = split-room (least_items n tree.key_bytes) (capacity n tree.key_bytes) (replicate tree.key_bytes 0) (nodes_in space tree) (nodes_in new tree) has key (depth - 1) page place half leads-deep split some room way-within way-from way-behind
