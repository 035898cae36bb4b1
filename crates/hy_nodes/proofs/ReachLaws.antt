-- What a page that is reached in a search has, and the page that the key leads to next.
use Rattle.std.proofs.Common.{◌≡◌, ℕ, zero, suc, ◌+◌, ◌-◌, ◌*◌, ◌/◌, ◌<◌, ◌≤◌, ◌^◌, List, length, replicate, slice_index_or, refl, sym, ap, ◌∙◌, subst, arith}
use Rattle.std.proofs.lemmas.List.{length-map}
use Rattle.std.proofs.Math.Nat.{div-mul-le_self, le-max_right, mul-le-mul_right}
use Rattle.hy_space.specs.Space.{SpaceState, HasPage, IsSound}
use Rattle.hy_trees.specs.Nodes.{Item, Node, capacity, item_width, least_items, no_item, node_at}
use Rattle.hy_trees.specs.Trees.{IsFilled, IsFrom, height_of, is_less_bytes, root_least}
use Rattle.hy_trees.proofs.LeadsLaws.{Leads-root}
use Rattle.hy_trees.proofs.PlaceLaws.{Leads-at, Leads-some, Leads-within, filled_at, items-rise, reached, rises-at, zeros-least}
use Rattle.hy_nodes.specs.declared.pages.Tree.{Tree}
use Rattle.hy_nodes.specs.Nodes.{item_at, item_count, item_offset, items_of, key_at, node_of, number_at}
use Rattle.hy_nodes.specs.Pages.{nodes_in, page_in}
use Rattle.hy_nodes.specs.Places.{AreRising, HasItems, IsChildPlace}
use Rattle.hy_nodes.specs.Ways.{HasTree, LeadsTo}
use Rattle.hy_nodes.specs.Writes.{pages_of}
use Rattle.hy_nodes.proofs.SpaceLaws.{length-pages_of, page_number-small}
use Rattle.hy_nodes.proofs.SequenceLaws.{get_or-first_items, length-first_items}
use Rattle.hy_nodes.proofs.NodeLaws.{node_at-nodes}

-- so many items fit in a page
pub capacity_fits : (n kw count : ℕ) → 8 ≤ n → count ≤ capacity n kw → item_offset kw count ≤ n
capacity_fits n kw count header within =
    let all : capacity n kw * item_width kw ≤ n - 8 = div-mul-le_self (n - 8) (item_width kw) in
    let some : count * item_width kw ≤ capacity n kw * item_width kw = mul-le-mul_right (item_width kw) within in
    omega (arith, all, some, header)

pub some_least : (n kw : ℕ) → 1 ≤ least_items n kw
some_least n kw = omega (arith, le-max_right (capacity n kw / 4) 2)

-- a key that is as long as the keys of a tree begins at its root
pub LeadsTo-root : (n : ℕ) (space : SpaceState) (tree : Tree) (key : List ℕ) (height : ℕ) → HasTree n space tree → length key ≡ tree.key_bytes → height ≡ height_of (nodes_in space tree) → LeadsTo n space tree key height 0
LeadsTo-root n space tree key height has long same =
    subst (λ (h : ℕ). LeadsTo n space tree key h 0) (sym same)
    (Leads-root (nodes_in space tree) (least_items n tree.key_bytes) (capacity n tree.key_bytes) (height_of (nodes_in space tree)) (root_least (height_of (nodes_in space tree))) (replicate tree.key_bytes 0) key
    (subst (λ (size : ℕ). IsFrom (replicate size 0) key) long (zeros-least key))
    has.subtree)

module _ (n : ℕ) (space : SpaceState) (tree : Tree) (key : List ℕ) (there : tree.segment < length space.owner) (sound : IsSound n space) (has : HasTree n space tree) where
  pub reached-within : (depth page : ℕ) → LeadsTo n space tree key depth page → page < length (pages_of space tree.segment)
  reached-within depth page leads =
      let below = reached (nodes_in space tree) (least_items n tree.key_bytes) (capacity n tree.key_bytes) (replicate tree.key_bytes 0) key (height_of (nodes_in space tree)) depth page has refl leads in
      omega (arith, below, length-map (pages_of space tree.segment) (node_of tree.key_bytes))

  pub reached-page : (depth page : ℕ) → LeadsTo n space tree key depth page → HasPage space tree.segment page
  reached-page depth page leads = (there, omega (arith, reached-within depth page leads, length-pages_of space tree.segment there))

  pub reached-small : (depth page : ℕ) → LeadsTo n space tree key depth page → page < 2 ^ 32
  reached-small depth page leads = page_number-small space tree.segment there n page sound (reached-within depth page leads)

  module _ (depth page : ℕ) (leads : LeadsTo n space tree key depth page) (whole : List ℕ) (is : whole ≡ page_in space tree page) where
    node_is : node_at (nodes_in space tree) page ≡ node_of tree.key_bytes whole
    node_is = node_at-nodes tree.key_bytes (pages_of space tree.segment) page (reached-within depth page leads) ∙ ap (node_of tree.key_bytes) (sym is)

    pub reached-items : (node_at (nodes_in space tree) page).items ≡ items_of tree.key_bytes whole
    reached-items = ap (λ (node : Node). node.items) node_is

    pub reached-count : length (node_at (nodes_in space tree) page).items ≡ item_count whole
    reached-count = ap (λ (node : Node). length node.items) node_is ∙ length-first_items (item_at tree.key_bytes whole) (item_count whole)

    pub reached-item : (place : ℕ) → place < item_count whole → slice_index_or (node_at (nodes_in space tree) page).items place no_item ≡ item_at tree.key_bytes whole place
    reached-item place within = ap (λ (node : Node). slice_index_or node.items place no_item) node_is ∙ get_or-first_items (item_at tree.key_bytes whole) (item_count whole) place no_item within

    filled : IsFilled leads.top (capacity n tree.key_bytes) (node_at (nodes_in space tree) page).items
    filled = filled_at (nodes_in space tree) (least_items n tree.key_bytes) (capacity n tree.key_bytes) depth leads.top leads.low leads.high page leads.subtree

    pub reached-fits : length whole ≡ n → HasItems tree.key_bytes whole
    reached-fits full =
        let fits = capacity_fits n tree.key_bytes (item_count whole) (omega (arith, sound.size.smallest)) (omega (arith, filled.fits, reached-count)) in
        omega (arith, fits, full)

    pub reached-rising : AreRising tree.key_bytes whole (item_count whole)
    reached-rising i j before within =
        ap (λ (item : Item). is_less_bytes (key_at tree.key_bytes whole i) item.key) (sym (reached-item j within))
        ∙ ap (λ (item : Item). is_less_bytes item.key (slice_index_or (node_at (nodes_in space tree) page).items j no_item).key) (sym (reached-item i (omega (arith, before, within))))
        ∙ rises-at (node_at (nodes_in space tree) page).items leads.high i j
        (items-rise (nodes_in space tree) (least_items n tree.key_bytes) (capacity n tree.key_bytes) depth leads.top leads.low leads.high page (some_least n tree.key_bytes) leads.subtree) before (omega (arith, within, reached-count))

    pub reached-some : 0 < depth → 0 < item_count whole
    reached-some inner =
        let some = Leads-some (nodes_in space tree) (least_items n tree.key_bytes) (capacity n tree.key_bytes) (height_of (nodes_in space tree)) (replicate tree.key_bytes 0) key depth page (some_least n tree.key_bytes) inner leads in
        omega (arith, filled.enough, some, reached-count)

  -- the next page on the way
  pub LeadsTo-down : (depth page : ℕ) → 0 < depth → (leads : LeadsTo n space tree key depth page) (whole : List ℕ) → whole ≡ page_in space tree page → (place : ℕ) → IsChildPlace tree.key_bytes whole key place → LeadsTo n space tree key (depth - 1) (number_at tree.key_bytes whole place)
  LeadsTo-down zero page inner leads whole is place at = absurd (omega (arith, inner))
  LeadsTo-down (suc depth) page inner leads whole is place at =
      let count = reached-count (suc depth) page leads whole is in
      let item = reached-item (suc depth) page leads whole is in
      let items = (node_at (nodes_in space tree) page).items in
      let less : depth ≡ suc depth - 1 = omega arith in
      subst (λ (d : ℕ). LeadsTo n space tree key d (number_at tree.key_bytes whole place)) less
      (subst (λ (child : ℕ). LeadsTo n space tree key depth child) (ap (λ (i : Item). i.number) (item place at.within))
      (Leads-at (nodes_in space tree) (least_items n tree.key_bytes) (capacity n tree.key_bytes) (height_of (nodes_in space tree)) (root_least (height_of (nodes_in space tree))) (replicate tree.key_bytes 0) key depth page place (some_least n tree.key_bytes) leads
      (Leads-within (nodes_in space tree) (least_items n tree.key_bytes) (capacity n tree.key_bytes) (height_of (nodes_in space tree)) (root_least (height_of (nodes_in space tree))) (replicate tree.key_bytes 0) key (suc depth) page leads)
      (omega (arith, at.within, count))
      (λ some. ap (λ (i : Item). is_less_bytes key i.key) (item place at.within) ∙ at.from some)
      (λ more. ap (λ (i : Item). is_less_bytes key i.key) (item (place + 1) (omega (arith, more, count))) ∙ at.behind (place + 1) (omega arith) (omega (arith, more, count)))))
