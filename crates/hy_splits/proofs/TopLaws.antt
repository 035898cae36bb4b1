-- A full root is split: the tree is one still, and one higher.
use Rattle.std.proofs.Common.{◌≡◌, inl, inr, ℕ, zero, suc, ◌+◌, ◌<◌, ◌≤◌, ◌^◌, None, List, [], length, drop, replicate, slice_index_or, ap, ◌∙◌, subst, arith}
use Rattle.std.proofs.Math.Pow.{pow_mono}
use Rattle.std.proofs.lemmas.Bool.{cases_lt}
use Rattle.hy_trees.specs.Nodes.{Item, Node, capacity, least_items, no_item, node_at}
use Rattle.hy_trees.specs.Trees.{AreFree, IsTree, StandOnce, entries_under, height_of, is_less_bytes, pages_under, root_least}
use Rattle.hy_trees.specs.Groups.{IsRooted, Raises, Splits}
use Rattle.hy_trees.proofs.CountLaws.{times-append}
use Rattle.hy_trees.proofs.PlaceLaws.{filled_at, items-rise, rises-at}
use Rattle.hy_trees.proofs.RootLaws.{IsRooted-raised, IsTree-split_root, StandOnce-rooted, pages_under-items}
use Rattle.hy_trees.proofs.FillLaws.{least_items-some, least_items-two}
use Rattle.hy_trees.proofs.NumberLaws.{length-pages_pow}
use Rattle.hy_space.specs.Space.{SpaceState, IsSound}
use Rattle.hy_nodes.specs.declared.pages.Tree.{Tree}
use Rattle.hy_nodes.specs.Pages.{nodes_in}
use Rattle.hy_nodes.specs.Ways.{HasFewFree, HasTree, KeepsEntries, KeepsPages}
use Rattle.hy_nodes.proofs.KeepLaws.{capacity-four}
use Rattle.hy_splits.proofs.PageLaws.{length-nodes}
use Rattle.hy_splits.specs.Splits.{HasFree, IsFullChild, RaisesRoot, SplitsChild, child_at}
use Rattle.hy_splits.proofs.FullLaws.{free-standing}
use Rattle.hy_splits.proofs.NumberLaws.{GrowsOnce, grows-free, one-free, same-free, tree-length, tree-rooted, twice-most}

module _ (fewest most : ℕ) (least : List ℕ) (old : List Node) (tree : IsTree fewest most least old) where
  once : StandOnce old tree.free (height_of old) 0
  once = StandOnce-rooted fewest most (root_least (height_of old)) least old tree.free (tree-rooted fewest most least old tree)

  -- the free pages beside the root
  pub root-free : HasFree old 0
  root-free = record {
    free = tree.free;
    are_free = tree.are_free;
    once = λ q.
        let all = once q in
        let both = times-append q (pages_under old (height_of old) 0) tree.free in
        let root = pages_under-items old (height_of old) 0 q in
        omega (arith, all, both, root);
  }

  pub root-fits : length (node_at old 0).items ≤ most
  root-fits = (filled_at old fewest most (height_of old) (root_least (height_of old)) least None 0 tree.subtree).fits

  module _ (between : List Node) (raise : RaisesRoot old between least) (some : 0 < fewest) (room : 1 < most) (full : length (node_at old 0).items ≡ most) (fill : fewest ≤ most) where
    pub raised : Raises old between tree.free (drop 1 tree.free) least raise.child
    raised = raise.raises tree.free tree.are_free (free-standing old tree.free (height_of old) 0 once)

    raised-rooted : IsRooted fewest most 1 least between (drop 1 tree.free)
    raised-rooted =
        IsRooted-raised fewest most (root_least (height_of old)) least old between tree.free (drop 1 tree.free) raise.child (omega (arith, room)) (omega (arith, full, fill)) (tree-rooted fewest most least old tree) raised

    raised-once : StandOnce between (drop 1 tree.free) (suc (height_of old)) 0
    raised-once = subst (λ (h : ℕ). StandOnce between (drop 1 tree.free) h 0) raised.height (StandOnce-rooted fewest most 1 least between (drop 1 tree.free) raised-rooted)

    only-child : child_at between 0 0 ≡ record { key = least; number = raise.child }
    only-child = ap (λ (items : List Item). slice_index_or items 0 no_item) raised.root

    child-items : (node_at between (child_at between 0 0).number).items ≡ (node_at old 0).items
    child-items = ap (λ (item : Item). (node_at between item.number).items) only-child ∙ raised.moved

    pub raised-full : IsFullChild most between 0 0
    raised-full = record {
      free = drop 1 tree.free;
      depth = height_of old;
      are_free = raised.are_free;
      once = raised-once;
      within = omega (arith, ap length raised.root);
      room = omega (arith, ap length raised.root, room);
      full = ap length child-items ∙ full;
      rising = λ i j before within.
          ap (λ (items : List Item). is_less_bytes (slice_index_or items i no_item).key (slice_index_or items j no_item).key) child-items
          ∙ rises-at (node_at old 0).items None i j (items-rise old fewest most (height_of old) (root_least (height_of old)) least None 0 some tree.subtree) before (omega (arith, within, ap length child-items));
    }

    module _ (new : List Node) (key : List ℕ) (half : ℕ) (split : SplitsChild fewest most between new key 0 0 half) where
      splits : Splits between new (drop 1 tree.free) (drop 1 (drop 1 tree.free)) 0 [] (child_at between 0 0) split.right []
      splits =
          subst (λ (behind : List Item). Splits between new (drop 1 tree.free) (drop 1 (drop 1 tree.free)) 0 [] (child_at between 0 0) split.right behind)
          (ap (drop (0 + 1)) raised.root) (split.splits (drop 1 tree.free) (height_of old) raised.are_free raised-once)

      both : IsTree fewest most least new × (entries_under new (height_of new) 0 ≡ entries_under old (height_of old) 0)
      both =
          IsTree-split_root fewest most (root_least (height_of old)) least old between new tree.free (drop 1 tree.free) (drop 1 (drop 1 tree.free)) raise.child (child_at between 0 0) split.right
          room some (omega (arith, full, fill)) (tree-rooted fewest most least old tree) raised splits split.left.enough split.behind.enough

      pub top-tree : IsTree fewest most least new
      top-tree = both.0

      pub top-entries : entries_under new (height_of new) 0 ≡ entries_under old (height_of old) 0
      top-entries = both.1

      pub top-height : height_of new ≡ height_of old + 1
      top-height = splits.height ∙ raised.height ∙ (let same : suc (height_of old) ≡ height_of old + 1 = omega arith in same)

      pub top-items : length (node_at new 0).items ≡ 2
      top-items = ap length splits.new_items

      pub top-longer : length old ≤ length new
      top-longer = let one = raised.longer in let two = splits.longer in omega (arith, one, two)

      pub top-few : GrowsOnce old between → GrowsOnce between new → length (pages_under new (height_of new) 0) ≤ length (pages_under old (height_of old) 0) + 2
      top-few first second =
          let was = tree-length fewest most least old tree in
          let is = tree-length fewest most least new top-tree in
          let one = grows-free old between tree.free tree.are_free first in
          let two = grows-free between new (drop 1 tree.free) raised.are_free second in
          let free = ap length (same-free new (node_at new 0).next top-tree.free (drop 1 (drop 1 tree.free)) top-tree.are_free splits.are_free) in
          omega (arith, was, is, one, two, free)

-- a tree isn't higher than the number of its pages allows
pub height-small : (fewest most : ℕ) (least : List ℕ) (nodes : List Node) → 1 < fewest → IsTree fewest most least nodes → length nodes < 2 ^ 32 → height_of nodes < 65535
height-small fewest most least nodes two tree small =
    let pages = length-pages_pow nodes fewest most two (height_of nodes) 0 (root_least (height_of nodes)) least None (top (height_of nodes)) tree.subtree in
    let all = tree-length fewest most least nodes tree in
    elim (cases_lt (height_of nodes) 65535) [
      | inl less ↦ less
      | inr past ↦
          let more : 2 ^ 40 ≤ 2 ^ suc (height_of nodes) = pow_mono {i = 40} {j = suc (height_of nodes)} (omega (arith, past)) in
          absurd (omega (arith, more, pages, all, small))
    ]
  where
    top : (height : ℕ) → 0 < height → 1 < root_least height
    top zero some = absurd (omega (arith, some))
    top (suc height) some = omega arith

module _ (n : ℕ) (old : SpaceState) (tree : Tree) (has : HasTree n old tree) where
  pub space-height : tree.segment < length old.owner → IsSound n old → height_of (nodes_in old tree) < 65535
  space-height there sound =
      height-small (least_items n tree.key_bytes) (capacity n tree.key_bytes) (replicate tree.key_bytes 0) (nodes_in old tree) (omega (arith, least_items-some n tree.key_bytes)) has
      (let long = length-nodes old tree there in omega (arith, long, sound.page_counts tree.segment, sound.within, sound.limit))

  module _ (between : SpaceState) (large : 256 ≤ n) (narrow : tree.key_bytes ≤ 48) (full : length (node_at (nodes_in old tree) 0).items ≡ capacity n tree.key_bytes)
      (raise : RaisesRoot (nodes_in old tree) (nodes_in between tree) (replicate tree.key_bytes 0)) where
    some : 0 < least_items n tree.key_bytes
    some = omega (arith, least_items-some n tree.key_bytes)

    room : 1 < capacity n tree.key_bytes
    room = omega (arith, capacity-four n tree.key_bytes large narrow)

    fill : least_items n tree.key_bytes ≤ capacity n tree.key_bytes
    fill = omega (arith, least_items-two n tree.key_bytes (capacity-four n tree.key_bytes large narrow))

    pub space-full : IsFullChild (capacity n tree.key_bytes) (nodes_in between tree) 0 0
    space-full = raised-full (least_items n tree.key_bytes) (capacity n tree.key_bytes) (replicate tree.key_bytes 0) (nodes_in old tree) has (nodes_in between tree) raise some room full fill

    are_free : AreFree (nodes_in between tree) (node_at (nodes_in between tree) 0).next (drop 1 has.free)
    are_free = (raised (least_items n tree.key_bytes) (capacity n tree.key_bytes) (replicate tree.key_bytes 0) (nodes_in old tree) has (nodes_in between tree) raise some room full fill).are_free

    pub space-few : (node_at (nodes_in between tree) 0).next ≡ 0 → HasFewFree tree old 2
    space-few none =
        let all = one-free (least_items n tree.key_bytes) (capacity n tree.key_bytes) (replicate tree.key_bytes 0) (nodes_in old tree) has (nodes_in between tree) are_free none in
        omega (arith, all)

    module _ (new : SpaceState) (first : GrowsOnce (nodes_in old tree) (nodes_in between tree)) (second : GrowsOnce (nodes_in between tree) (nodes_in new tree)) where
      pub space-pages : KeepsPages n tree old new
      space-pages count few fits =
          twice-most (least_items n tree.key_bytes) (capacity n tree.key_bytes) (replicate tree.key_bytes 0) (nodes_in old tree) has (nodes_in between tree) (nodes_in new tree) count
          (omega (arith, least_items-some n tree.key_bytes)) first are_free second few fits

      module _ (key : List ℕ) (half : ℕ) (split : SplitsChild (least_items n tree.key_bytes) (capacity n tree.key_bytes) (nodes_in between tree) (nodes_in new tree) key 0 0 half) where
        pub space-keeps : KeepsEntries n tree old new 2
        space-keeps = record {
          is_tree = top-tree (least_items n tree.key_bytes) (capacity n tree.key_bytes) (replicate tree.key_bytes 0) (nodes_in old tree) has (nodes_in between tree) raise some room full fill (nodes_in new tree) key half split;
          entries = top-entries (least_items n tree.key_bytes) (capacity n tree.key_bytes) (replicate tree.key_bytes 0) (nodes_in old tree) has (nodes_in between tree) raise some room full fill (nodes_in new tree) key half split;
          longer = top-longer (least_items n tree.key_bytes) (capacity n tree.key_bytes) (replicate tree.key_bytes 0) (nodes_in old tree) has (nodes_in between tree) raise some room full fill (nodes_in new tree) key half split;
          few = top-few (least_items n tree.key_bytes) (capacity n tree.key_bytes) (replicate tree.key_bytes 0) (nodes_in old tree) has (nodes_in between tree) raise some room full fill (nodes_in new tree) key half split first second;
        }

        pub space-higher : height_of (nodes_in new tree) ≡ height_of (nodes_in old tree) + 1
        space-higher = top-height (least_items n tree.key_bytes) (capacity n tree.key_bytes) (replicate tree.key_bytes 0) (nodes_in old tree) has (nodes_in between tree) raise some room full fill (nodes_in new tree) key half split

        pub space-room : length (node_at (nodes_in new tree) 0).items < capacity n tree.key_bytes
        space-room =
            let two = top-items (least_items n tree.key_bytes) (capacity n tree.key_bytes) (replicate tree.key_bytes 0) (nodes_in old tree) has (nodes_in between tree) raise some room full fill (nodes_in new tree) key half split in
            omega (arith, two, capacity-four n tree.key_bytes large narrow)
