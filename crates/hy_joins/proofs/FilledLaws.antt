-- What a join of two children and a move of items between them leave of a tree, in the words of the calls that do it.
use Rattle.std.proofs.Common.{◌≡◌, ◌≢◌, ◌⊎◌, inl, inr, ℕ, suc, ◌+◌, ◌-◌, ◌/◌, ◌<◌, ◌≤◌, List, [], ◌∷◌, length, take, drop, replicate, ap, ap₂, sym, subst, ◌∙◌, arith}
use Rattle.std.proofs.lemmas.List.{length-append}
use Rattle.hy_space.specs.Space.{SpaceState}
use Rattle.hy_trees.specs.Nodes.{Item, Node, capacity, least_items, node_at, with_free, with_height, with_more, with_node, without_items}
use Rattle.hy_trees.specs.Trees.{StandOnce, height_of, root_least}
use Rattle.hy_trees.proofs.FillLaws.{least_items-some}
use Rattle.hy_trees.proofs.RootLaws.{IsRooted-from_tree, StandOnce-rooted}
use Rattle.hy_trees.specs.Groups.{Lowers}
use Rattle.hy_nodes.specs.declared.pages.Tree.{Tree}
use Rattle.hy_nodes.specs.Pages.{nodes_in}
use Rattle.hy_nodes.specs.Ways.{HasTree, KeepsEntries, LeadsTo}
use Rattle.hy_joins.specs.declared.Pair.{Pair}
use Rattle.hy_joins.specs.Pairs.{AtEach, HasChildToSpare, IsPair, IsSmallRoot, IsWanting, JoinsAt, LeadsOn, SharesLeft, SharesRight, child_at, items_at}
use Rattle.hy_joins.proofs.PairLaws.{half-fits, keeps-tree}
use Rattle.hy_joins.proofs.WrittenLaws.{Lowers-of, sets}
use Rattle.hy_joins.proofs.SpareLaws.{joined-once, joined-root, kept-joined, kept-lowered, kept-shared_left, kept-shared_right, leads-joined, leads-shared_left, leads-shared_right, more-joined, more-lowered, more-shared_left, more-shared_right, room, stands-once}

module _ (n : ℕ) (old new : SpaceState) (tree : Tree) (pair : Pair) (place : ℕ) (has : HasTree n old tree) (large : 256 ≤ n)
    (narrow : tree.key_bytes ≤ 48) (is_pair : IsPair n old tree pair)
    (wanting : IsWanting (least_items n tree.key_bytes) pair place) (key : List ℕ) (depth : ℕ)
    (on : LeadsOn n old tree key depth pair.page place) where
  abbrev nodes : List Node
  nodes = nodes_in old tree

  abbrev least : ℕ
  least = least_items n tree.key_bytes

  abbrev most : ℕ
  most = capacity n tree.key_bytes

  abbrev zeros : List ℕ
  zeros = replicate tree.key_bytes 0

  two : 2 ≤ least
  two = least_items-some n tree.key_bytes

  half : least + least ≤ most
  half = half-fits n tree.key_bytes large narrow

  once : StandOnce nodes has.free (suc depth) pair.page
  once = stands-once least most two half zeros key nodes has depth pair.page on.leads

  count-is : pair.count ≡ length (items_at nodes (child_at nodes pair.page pair.left).number)
  count-is = is_pair.is_count ∙ ap (λ (q : ℕ). length (items_at nodes q)) is_pair.is_first

  more-is : pair.more ≡ length (items_at nodes (child_at nodes pair.page (pair.left + 1)).number)
  more-is = is_pair.is_more ∙ ap (λ (q : ℕ). length (items_at nodes q)) is_pair.is_second

  placed : ((place ≡ 0) × (pair.left ≡ 0)) ⊎ (place ≡ pair.left + 1)
  placed = elim wanting [ inl first ↦ inl (first.0, first.1) | inr second ↦ inr second.0 ]

  -- a join
  module _ (spare : HasChildToSpare least most nodes pair.page) (fits : pair.count + pair.more ≤ most)
      (joins : AtEach nodes pair.page (λ free. JoinsAt nodes (nodes_in new tree) free pair.page pair.left)) where
    both-fit : length (items_at nodes (child_at nodes pair.page pair.left).number)
        + length (items_at nodes (child_at nodes pair.page (pair.left + 1)).number) ≤ most
    both-fit = omega (arith, fits, count-is, more-is)

    spares : on.leads.top < length (items_at nodes pair.page)
    spares = room least most two half zeros key nodes has depth pair.page on.leads spare pair.left is_pair.within both-fit

    joined : JoinsAt nodes (nodes_in new tree) has.free pair.page pair.left
    joined = joins has.free depth has.are_free once

    pub join-keeps : KeepsEntries n tree old new 0
    join-keeps =
        keeps-tree n tree old new
        (kept-joined least most two half zeros key nodes has depth pair.page on.leads pair.left is_pair.within
        (nodes_in new tree) joined spares both-fit)

    pub join-leads : LeadsTo n new tree key depth pair.first
    join-leads =
        subst (λ (q : ℕ). LeadsTo n new tree key depth q) (sym is_pair.is_first)
        (leads-joined least most two half zeros key nodes has depth pair.page on.leads pair.left is_pair.within
        (nodes_in new tree) joined spares both-fit place on.way placed)

    pub join-more : least < length (items_at (nodes_in new tree) pair.first)
    join-more =
        subst (λ (q : ℕ). least < length (items_at (nodes_in new tree) q)) (sym is_pair.is_first)
        (more-joined least most two half zeros key nodes has depth pair.page on.leads pair.left is_pair.within
        (nodes_in new tree) joined spares both-fit)

  -- items move to the first child
  module _ (none : place ≡ 0) (full : most < pair.count + pair.more)
      (shares : AtEach nodes pair.page (λ free. SharesLeft nodes (nodes_in new tree) free pair.page pair.left
      ((pair.more - pair.count + 1) / 2))) where
    first : (pair.left ≡ 0) × (pair.count ≤ least)
    first = elim wanting [ inl is ↦ (is.1, is.2) | inr is ↦ absurd (omega (arith, none, is.0)) ]

    full-left : most < length (items_at nodes (child_at nodes pair.page pair.left).number)
        + length (items_at nodes (child_at nodes pair.page (pair.left + 1)).number)
    full-left = omega (arith, full, count-is, more-is)

    few-left : length (items_at nodes (child_at nodes pair.page pair.left).number) ≤ least
    few-left = omega (arith, first.1, count-is)

    shared-left : SharesLeft nodes (nodes_in new tree) has.free pair.page pair.left
        ((length (items_at nodes (child_at nodes pair.page (pair.left + 1)).number)
        - length (items_at nodes (child_at nodes pair.page pair.left).number) + 1) / 2)
    shared-left =
        subst (λ (moved : ℕ). SharesLeft nodes (nodes_in new tree) has.free pair.page pair.left moved)
        (ap₂ (λ (count : ℕ) (more : ℕ). (more - count + 1) / 2) count-is more-is)
        (shares has.free depth has.are_free once)

    pub left-keeps : KeepsEntries n tree old new 0
    left-keeps =
        keeps-tree n tree old new
        (kept-shared_left least most two half zeros key nodes has depth pair.page on.leads pair.left is_pair.within
        (nodes_in new tree) full-left few-left shared-left)

    pub left-leads : LeadsTo n new tree key depth pair.first
    left-leads =
        subst (λ (q : ℕ). LeadsTo n new tree key depth q) (sym is_pair.is_first)
        (leads-shared_left least most two half zeros key nodes has depth pair.page on.leads pair.left is_pair.within
        (nodes_in new tree) full-left few-left shared-left place on.way none first.0)

    pub left-more : least < length (items_at (nodes_in new tree) pair.first)
    left-more =
        subst (λ (q : ℕ). least < length (items_at (nodes_in new tree) q)) (sym is_pair.is_first)
        (more-shared_left least most two half zeros key nodes has depth pair.page on.leads pair.left is_pair.within
        (nodes_in new tree) full-left few-left shared-left)

  -- items move to the second child
  module _ (some : place ≢ 0) (full : most < pair.count + pair.more)
      (shares : AtEach nodes pair.page (λ free. SharesRight nodes (nodes_in new tree) free pair.page pair.left
      (pair.count - (pair.count - pair.more + 1) / 2))) where
    second : (place ≡ pair.left + 1) × (pair.more ≤ least)
    second = elim wanting [ inl is ↦ absurd (some is.0) | inr is ↦ is ]

    full-right : most < length (items_at nodes (child_at nodes pair.page pair.left).number)
        + length (items_at nodes (child_at nodes pair.page (pair.left + 1)).number)
    full-right = omega (arith, full, count-is, more-is)

    few-right : length (items_at nodes (child_at nodes pair.page (pair.left + 1)).number) ≤ least
    few-right = omega (arith, second.1, more-is)

    shared-right : SharesRight nodes (nodes_in new tree) has.free pair.page pair.left
        (length (items_at nodes (child_at nodes pair.page pair.left).number)
        - (length (items_at nodes (child_at nodes pair.page pair.left).number)
        - length (items_at nodes (child_at nodes pair.page (pair.left + 1)).number) + 1) / 2)
    shared-right =
        subst (λ (start : ℕ). SharesRight nodes (nodes_in new tree) has.free pair.page pair.left start)
        (ap₂ (λ (count : ℕ) (more : ℕ). count - (count - more + 1) / 2) count-is more-is)
        (shares has.free depth has.are_free once)

    pub right-keeps : KeepsEntries n tree old new 0
    right-keeps =
        keeps-tree n tree old new
        (kept-shared_right least most two half zeros key nodes has depth pair.page on.leads pair.left is_pair.within
        (nodes_in new tree) full-right few-right shared-right)

    pub right-leads : LeadsTo n new tree key depth pair.second
    right-leads =
        subst (λ (q : ℕ). LeadsTo n new tree key depth q) (sym is_pair.is_second)
        (leads-shared_right least most two half zeros key nodes has depth pair.page on.leads pair.left is_pair.within
        (nodes_in new tree) full-right few-right shared-right place on.way second.0)

    pub right-more : least < length (items_at (nodes_in new tree) pair.second)
    right-more =
        subst (λ (q : ℕ). least < length (items_at (nodes_in new tree) q)) (sym is_pair.is_second)
        (more-shared_right least most two half zeros key nodes has depth pair.page on.leads pair.left is_pair.within
        (nodes_in new tree) full-right few-right shared-right)

-- ---- a root whose two children fit in one page

module _ (n : ℕ) (old : SpaceState) (tree : Tree) (pair : Pair) (has : HasTree n old tree) (root : IsSmallRoot n old tree pair)
    (joined : List Node)
    (joins : AtEach (nodes_in old tree) pair.page (λ free. JoinsAt (nodes_in old tree) joined free pair.page pair.left)) where
  abbrev root_nodes : List Node
  root_nodes = nodes_in old tree

  abbrev below : ℕ
  below = height_of root_nodes - 1

  abbrev root_two : 2 ≤ least_items n tree.key_bytes
  root_two = least_items-some n tree.key_bytes

  high : height_of root_nodes ≡ suc below
  high = omega (arith, root.high)

  root-once : StandOnce root_nodes has.free (suc below) 0
  root-once =
      subst (λ (h : ℕ). StandOnce root_nodes has.free h 0) high
      (StandOnce-rooted (least_items n tree.key_bytes) (capacity n tree.key_bytes) (root_least (height_of root_nodes))
      (replicate tree.key_bytes 0) root_nodes has.free
      (IsRooted-from_tree (least_items n tree.key_bytes) (capacity n tree.key_bytes) (replicate tree.key_bytes 0) root_nodes has))

  at-root : JoinsAt root_nodes joined has.free 0 0
  at-root =
      subst (λ (p : ℕ). JoinsAt root_nodes joined has.free p 0) root.page
      (subst (λ (l : ℕ). JoinsAt root_nodes joined has.free pair.page l) root.left
      (joins has.free below has.are_free
      (subst (λ (p : ℕ). StandOnce root_nodes has.free (suc below) p) (sym root.page) root-once)))

  first-is : pair.first ≡ (child_at root_nodes 0 0).number
  first-is = root.is_pair.is_first ∙ ap₂ (λ (p : ℕ) (l : ℕ). (child_at root_nodes p l).number) root.page root.left

  second-is : pair.second ≡ (child_at root_nodes 0 1).number
  second-is =
      root.is_pair.is_second ∙ ap₂ (λ (p : ℕ) (l : ℕ). (child_at root_nodes p (l + 1)).number) root.page root.left

  root-count : pair.count ≡ length (items_at root_nodes (child_at root_nodes 0 0).number)
  root-count = root.is_pair.is_count ∙ ap (λ (q : ℕ). length (items_at root_nodes q)) first-is

  second-count : pair.more ≡ length (items_at root_nodes (child_at root_nodes 0 1).number)
  second-count = root.is_pair.is_more ∙ ap (λ (q : ℕ). length (items_at root_nodes q)) second-is

  root-fits : length (items_at root_nodes (child_at root_nodes 0 0).number) + length (items_at root_nodes (child_at root_nodes 0 1).number)
      ≤ capacity n tree.key_bytes
  root-fits = omega (arith, root.fits, root-count, second-count)

  -- what the root and its only child have then
  pub root-items : items_at joined 0 ≡ child_at root_nodes 0 0 ∷ []
  root-items =
      joined-root (least_items n tree.key_bytes) (capacity n tree.key_bytes) root_two (replicate tree.key_bytes 0) root_nodes
      joined joined has below high root.two at-root root-fits

  pub root-child : length (items_at joined pair.first) ≡ pair.count + pair.more
  root-child =
      let both = length-append (items_at root_nodes (child_at root_nodes 0 0).number) (items_at root_nodes (child_at root_nodes 0 1).number) in
      let size = ap (λ (q : ℕ). length (items_at joined q)) first-is ∙ ap (λ (all : List Item). length all) at-root.joined in
      omega (arith, both, size, root-count, second-count)

  pub root-height : height_of joined ≡ height_of root_nodes
  root-height = at-root.height

  -- the root's new items leave the height
  pub moved-height : (cut moved : List Node) (count : ℕ) → 0 < length joined
      → cut ≡ with_node joined 0 (without_items (node_at joined 0) 0 1)
      → moved ≡ with_node cut 0 (with_more (node_at cut 0) 0 (take (count - 0) (drop 0 (node_at cut pair.first).items)))
      → height_of moved ≡ height_of root_nodes
  moved-height cut moved count some taken put =
      let first = sets joined cut 0 (without_items (node_at joined 0) 0 1).items some taken in
      let second = sets cut moved 0 (with_more (node_at cut 0) 0 (take (count - 0) (drop 0 (node_at cut pair.first).items))).items
      (omega (arith, some, first.pages)) put in
      second.height ∙ first.height ∙ root-height

  module _ (new : SpaceState) (cut moved lowered : List Node) (count height : ℕ) (some : 0 < length joined)
      (is_height : height ≡ height_of moved)
      (taken : cut ≡ with_node joined 0 (without_items (node_at joined 0) 0 1)) (is_count : count ≡ length (items_at cut pair.first))
      (put : moved ≡ with_node cut 0 (with_more (node_at cut 0) 0 (take (count - 0) (drop 0 (node_at cut pair.first).items))))
      (less : lowered ≡ with_node moved 0 (with_height (node_at moved 0) (height - 1)))
      (freed : nodes_in new tree ≡ with_free lowered pair.first) where
    lowers : Lowers joined (nodes_in new tree) ((child_at root_nodes 0 1).number ∷ has.free) (child_at root_nodes 0 0)
    lowers =
        Lowers-of joined cut moved lowered (nodes_in new tree) ((child_at root_nodes 0 1).number ∷ has.free) below count height
        pair.first (child_at root_nodes 0 0) some
        (joined-once (least_items n tree.key_bytes) (capacity n tree.key_bytes) root_two (replicate tree.key_bytes 0) root_nodes
        joined joined has below high root.two at-root root-fits)
        root-items at-root.are_free first-is is_height (omega (arith, root-height, root.high)) taken is_count put less freed

    pub root-keeps : KeepsEntries n tree old new 0
    root-keeps =
        keeps-tree n tree old new
        (kept-lowered (least_items n tree.key_bytes) (capacity n tree.key_bytes) root_two (replicate tree.key_bytes 0) root_nodes
        joined (nodes_in new tree) has below high root.two at-root root-fits lowers)

    pub root-more : least_items n tree.key_bytes < length (items_at (nodes_in new tree) 0)
    root-more =
        more-lowered (least_items n tree.key_bytes) (capacity n tree.key_bytes) root_two (replicate tree.key_bytes 0) root_nodes
        joined (nodes_in new tree) has below high root.two at-root root-fits lowers
