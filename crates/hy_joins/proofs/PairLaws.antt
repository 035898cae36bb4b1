-- Two children of a page on the way to a key: that they are there.
use Rattle.std.proofs.Common.{◌≡◌, ◌≢◌, inl, inr, ℕ, zero, suc, ◌+◌, ◌-◌, ◌<◌, ◌≤◌, List, length, replicate, refl, ap, ap₂, sym, subst, ◌∙◌, arith}
use Rattle.std.proofs.lemmas.List.{length-replicate}
use Rattle.hy_space.specs.Space.{SpaceState, HasPage, IsSound}
use Rattle.hy_trees.specs.Nodes.{Item, Node, capacity, least_items}
use Rattle.hy_trees.specs.Trees.{IsFilled, height_of, is_less_bytes, root_least}
use Rattle.hy_trees.proofs.FillLaws.{least_items-some, least_items-two}
use Rattle.hy_trees.proofs.PlaceLaws.{Leads-at, Leads-within, filled_at}
use Rattle.hy_nodes.specs.declared.pages.Tree.{Tree}
use Rattle.hy_nodes.specs.Nodes.{item_count}
use Rattle.hy_nodes.specs.Pages.{nodes_in, page_in}
use Rattle.hy_nodes.specs.Places.{IsChildPlace}
use Rattle.hy_nodes.specs.Ways.{HasTree, KeepsEntries, LeadsTo}
use Rattle.hy_nodes.proofs.KeepLaws.{capacity-four}
use Rattle.hy_nodes.proofs.ReachLaws.{LeadsTo-root, reached-count, reached-item, reached-page, some_least}
use Rattle.hy_joins.specs.declared.Pair.{Pair}
use Rattle.hy_joins.specs.Pairs.{HasSpare, IsPage, IsPair, IsWanting, IsWay, LeadsOn, child_at, items_at}
use Rattle.hy_joins.proofs.PageLaws.{there-node}
use Rattle.hy_joins.proofs.SpareLaws.{KeepsTree, child-below, child-filled, child-there, has_two, one-above, other-above, other-one}

-- what the sizes of pages and of keys give
pub half-fits : (n key_width : ℕ) → 256 ≤ n → key_width ≤ 48
    → least_items n key_width + least_items n key_width ≤ capacity n key_width
half-fits n key_width large narrow = least_items-two n key_width (capacity-four n key_width large narrow)

-- a tree that keeps its entries
pub keeps-tree : (n : ℕ) (tree : Tree) (old new : SpaceState)
    → KeepsTree (least_items n tree.key_bytes) (capacity n tree.key_bytes) (replicate tree.key_bytes 0) (nodes_in old tree) (nodes_in new tree)
    → KeepsEntries n tree old new 0
keeps-tree n tree old new kept =
    record { is_tree = kept.is_tree; entries = kept.entries; longer = kept.longer; few = kept.few }

module _ (n : ℕ) (space : SpaceState) (tree : Tree) (there : tree.segment < length space.owner) (sound : IsSound n space)
    (has : HasTree n space tree) (large : 256 ≤ n) (narrow : tree.key_bytes ≤ 48) (key : List ℕ) (depth page : ℕ)
    (leads : LeadsTo n space tree key (suc depth) page) where
  abbrev nodes : List Node
  nodes = nodes_in space tree

  pub page-is : IsPage n space tree page
  page-is = record {
    there = reached-page n space tree key there sound has (suc depth) page leads;
    fits =
        let filled : IsFilled leads.top (capacity n tree.key_bytes) (items_at nodes page) =
        filled_at nodes (least_items n tree.key_bytes) (capacity n tree.key_bytes) (suc depth) leads.top leads.low
        leads.high page leads.subtree in
        filled.fits;
  }

  pub page-two : 2 ≤ length (items_at nodes page)
  page-two =
      has_two (least_items n tree.key_bytes) (capacity n tree.key_bytes) (least_items-some n tree.key_bytes)
      (half-fits n tree.key_bytes large narrow) (replicate tree.key_bytes 0) key nodes has depth page leads

  pub child-is : (place : ℕ) → place < length (items_at nodes page) → IsPage n space tree (child_at nodes page place).number
  child-is place within = record {
    there = there-node space tree (child_at nodes page place).number there
        (child-there (least_items n tree.key_bytes) (capacity n tree.key_bytes) (least_items-some n tree.key_bytes)
        (half-fits n tree.key_bytes large narrow) (replicate tree.key_bytes 0) key nodes has depth page leads place within);
    fits =
        let filled : IsFilled (least_items n tree.key_bytes) (capacity n tree.key_bytes) (items_at nodes (child_at nodes page place).number) =
        child-filled (least_items n tree.key_bytes) (capacity n tree.key_bytes) (least_items-some n tree.key_bytes)
        (half-fits n tree.key_bytes large narrow) (replicate tree.key_bytes 0) key nodes has depth page leads place within in
        filled.fits;
  }

  module _ (left : ℕ) (within : left + 1 < length (items_at nodes page)) where
    below : (place : ℕ) → place < length (items_at nodes page) → (child_at nodes page place).number ≢ 0
    below place inside =
        child-below (least_items n tree.key_bytes) (capacity n tree.key_bytes) (least_items-some n tree.key_bytes)
        (half-fits n tree.key_bytes large narrow) (replicate tree.key_bytes 0) key nodes has depth page leads place inside

    filled : (place : ℕ) → place < length (items_at nodes page)
        → IsFilled (least_items n tree.key_bytes) (capacity n tree.key_bytes) (items_at nodes (child_at nodes page place).number)
    filled place inside =
        child-filled (least_items n tree.key_bytes) (capacity n tree.key_bytes) (least_items-some n tree.key_bytes)
        (half-fits n tree.key_bytes large narrow) (replicate tree.key_bytes 0) key nodes has depth page leads place inside

    pub IsPair-at : (root : HasPage space tree.segment 0) (first second count more : ℕ)
        → first ≡ (child_at nodes page left).number → second ≡ (child_at nodes page (left + 1)).number
        → count ≡ length (items_at nodes first) → more ≡ length (items_at nodes second)
        → IsPair n space tree (record { page = page; left = left; first = first; second = second; count = count; more = more })
    IsPair-at root first second count more is_first is_second is_count is_more = record {
      root = root;
      above = page-is;
      one = subst (λ (q : ℕ). IsPage n space tree q) (sym is_first) (child-is left (omega (arith, within)));
      two = subst (λ (q : ℕ). IsPage n space tree q) (sym is_second) (child-is (left + 1) within);
      within = within;
      is_first = is_first;
      is_second = is_second;
      is_count = is_count;
      is_more = is_more;
      enough_one = omega (arith, is_count, ap (λ (q : ℕ). length (items_at nodes q)) is_first, (filled left (omega (arith, within))).enough);
      enough_two = omega (arith, is_more, ap (λ (q : ℕ). length (items_at nodes q)) is_second, (filled (left + 1) within).enough);
      one_above = λ same.
          one-above (least_items n tree.key_bytes) (capacity n tree.key_bytes) (least_items-some n tree.key_bytes)
          (half-fits n tree.key_bytes large narrow) (replicate tree.key_bytes 0) key nodes has depth page leads left within
          (sym is_first ∙ same);
      two_above = λ same.
          other-above (least_items n tree.key_bytes) (capacity n tree.key_bytes) (least_items-some n tree.key_bytes)
          (half-fits n tree.key_bytes large narrow) (replicate tree.key_bytes 0) key nodes has depth page leads left within
          (sym is_second ∙ same);
      two_one = λ same.
          other-one (least_items n tree.key_bytes) (capacity n tree.key_bytes) (least_items-some n tree.key_bytes)
          (half-fits n tree.key_bytes large narrow) (replicate tree.key_bytes 0) key nodes has depth page leads left within
          (sym is_second ∙ same ∙ is_first);
      not_root = λ same. below (left + 1) within (sym is_second ∙ same);
      first_not_root = λ same. below left (omega (arith, within)) (sym is_first ∙ same);
    }

-- the child under which a key stands, by the items of the page
pub way-at : (n : ℕ) (space : SpaceState) (tree : Tree) (key : List ℕ) (there : tree.segment < length space.owner)
    (sound : IsSound n space) (has : HasTree n space tree) (depth page : ℕ) (leads : LeadsTo n space tree key depth page)
    (whole : List ℕ) (is : whole ≡ page_in space tree page) (place : ℕ) → IsChildPlace tree.key_bytes whole key place
    → IsWay (items_at (nodes_in space tree) page) key place
way-at n space tree key there sound has depth page leads whole is place at =
    let count = reached-count n space tree key there sound has depth page leads whole is in
    let item = reached-item n space tree key there sound has depth page leads whole is in
    record {
      within = omega (arith, at.within, count);
      from = λ some. ap (λ (i : Item). is_less_bytes key i.key) (item place at.within) ∙ at.from some;
      behind = λ k after inside.
          let there : k < item_count whole = omega (arith, inside, count) in
          ap (λ (i : Item). is_less_bytes key i.key) (item k there) ∙ at.behind k after there;
    }

-- the way goes on to that child
pub LeadsOn-down : (n : ℕ) (space : SpaceState) (tree : Tree) (key : List ℕ) (depth page place : ℕ)
    → LeadsOn n space tree key depth page place
    → LeadsTo n space tree key depth (child_at (nodes_in space tree) page place).number
LeadsOn-down n space tree key depth page place on =
    let nodes = nodes_in space tree in
    Leads-at nodes (least_items n tree.key_bytes) (capacity n tree.key_bytes) (height_of nodes) (root_least (height_of nodes))
    (replicate tree.key_bytes 0) key depth page place (some_least n tree.key_bytes) on.leads
    (Leads-within nodes (least_items n tree.key_bytes) (capacity n tree.key_bytes) (height_of nodes)
    (root_least (height_of nodes)) (replicate tree.key_bytes 0) key (suc depth) page on.leads)
    on.way.within on.way.from (λ more. on.way.behind (place + 1) (omega arith) more)

-- a page with more items than each has at least
pub HasSpare-more : (least most : ℕ) (all : List Node) (depth page : ℕ) → least < length (items_at all page)
    → HasSpare least most all depth page
HasSpare-more least most all zero page more = inr more
HasSpare-more least most all (suc depth) page more = inl more

-- the child at a place is the first or the second one of the two that begin at the place before
pub IsWanting-at : (n : ℕ) (space : SpaceState) (tree : Tree) (pair : Pair) (page place : ℕ) → IsPair n space tree pair
    → pair.page ≡ page → pair.left ≡ place - 1
    → length (items_at (nodes_in space tree) (child_at (nodes_in space tree) page place).number) ≤ least_items n tree.key_bytes
    → IsWanting (least_items n tree.key_bytes) pair place
IsWanting-at n space tree pair page zero is same before few =
    let nodes = nodes_in space tree in
    let first : pair.left ≡ 0 = omega (arith, before) in
    let count = is.is_count ∙ ap (λ (q : ℕ). length (items_at nodes q)) is.is_first
    ∙ ap₂ (λ (p : ℕ) (l : ℕ). length (items_at nodes (child_at nodes p l).number)) same first in
    inl (refl, first, omega (arith, count, few))
IsWanting-at n space tree pair page (suc place) is same before few =
    let nodes = nodes_in space tree in
    let second : pair.left + 1 ≡ suc place = omega (arith, before) in
    let more = is.is_more ∙ ap (λ (q : ℕ). length (items_at nodes q)) is.is_second
    ∙ ap₂ (λ (p : ℕ) (l : ℕ). length (items_at nodes (child_at nodes p l).number)) same second in
    inr (sym second, omega (arith, more, few))

-- the least key leads to the root
pub LeadsTo-zeros : (n : ℕ) (space : SpaceState) (tree : Tree) → HasTree n space tree → (height : ℕ)
    → height ≡ height_of (nodes_in space tree) → LeadsTo n space tree (replicate tree.key_bytes 0) height 0
LeadsTo-zeros n space tree has height same =
    LeadsTo-root n space tree (replicate tree.key_bytes 0) height has (length-replicate tree.key_bytes 0) same
