-- The laws at the tree of five pages: what they ask for is there.
use Rattle.std.proofs.Common.{◌≡◌, ℕ, List, [], ◌∷◌, ◌++◌, drop, take, None, refl, arith}
use Rattle.std.proofs.lemmas.Bool.Decides.{nat_tests}
use Rattle.hy_trees.specs.Nodes.{Node, no_node, node_at, with_free, with_height, with_key, with_more, with_node, without_items}
use Rattle.hy_trees.specs.Trees.{IsTree, Reshapes, StandOnce, has_page, times}
use Rattle.hy_trees.specs.Groups.{IsRooted, Joins, Lowers, Raises, Shares, Splits, Taken}
use Rattle.hy_trees.specs.Leaves.{Leads, LeadsToLeaf}
use Rattle.hy_trees.specs.WorkedTrees.{cut, filled, five, five_is_tree, grown, item, joined, leaf, moved, raised, shared, shrunk, split, taken, takes_a_new_page, takes_the_free_page}
use Rattle.hy_trees.proofs.CountLaws.{times-append}
use Rattle.hy_trees.proofs.ChildLaws.{IsSubtree-split, Reshapes-join, Reshapes-split}
use Rattle.hy_trees.proofs.EntryLaws.{LeadsToLeaf-root}
use Rattle.hy_trees.proofs.FreeLaws.{Taken-from_takes}
use Rattle.hy_trees.proofs.LeadsLaws.{Leads-child, Leads-root}
use Rattle.hy_trees.proofs.ReshapeLaws.{Reshapes-trans}
use Rattle.hy_trees.proofs.RootLaws.{IsRooted-from_tree, IsRooted-raised, IsRooted-reshaped, IsTree-lowered, StandOnce-rooted}
use Rattle.hy_trees.proofs.StepLaws.{Joins-written, Lowers-written, Raises-written, Shares-written_left, Splits-written}
use Rattle.hy_trees.proofs.WriteLaws.{SetsItems-with_items}

five_is_rooted : IsRooted 2 4 2 (0 ∷ []) five (4 ∷ [])
five_is_rooted = IsRooted-from_tree 2 4 (0 ∷ []) five five_is_tree

stand_once : StandOnce five (4 ∷ []) 1 0
stand_once = StandOnce-rooted 2 4 2 (0 ∷ []) five (4 ∷ []) five_is_rooted

-- ---- a split

takes : Taken five taken (4 ∷ []) [] 4
takes =
    Taken-from_takes five taken (4 ∷ []) 4 (omega arith) (refl, omega arith, refl, refl)
    (λ q. let all = stand_once q in let part = times-append q (0 ∷ 1 ∷ 2 ∷ 3 ∷ []) (4 ∷ []) in omega (arith, all, part))
    takes_the_free_page

splits : Splits five split (4 ∷ []) [] 0 (item 0 1 ∷ []) (item 20 2) (item 24 4) (item 30 3 ∷ [])
splits =
    Splits-written five taken moved cut split (4 ∷ []) [] 0 0 1 2 4 4 (item 20 2) (24 ∷ []) stand_once (omega arith) refl refl
    takes (SetsItems-with_items taken 4 (with_more (node_at taken 4) 0 (take 2 (drop 2 (node_at taken 2).items))).items (omega arith))
    (SetsItems-with_items moved 2 (without_items (node_at moved 2) 2 4).items (omega arith)) refl
    (SetsItems-with_items cut 0 (with_more (node_at cut 0) 2 (item 24 4 ∷ [])).items (omega arith))

split_reshapes : Reshapes five split (4 ∷ []) [] 1 0
split_reshapes =
    Reshapes-split five split (4 ∷ []) [] 0 0 (item 0 1 ∷ []) (item 20 2) (item 24 4) (item 30 3 ∷ []) splits stand_once

split_is_rooted : IsRooted 2 4 2 (0 ∷ []) split []
split_is_rooted =
    IsRooted-reshaped 2 4 2 2 (0 ∷ []) five split (4 ∷ []) [] five_is_rooted split_reshapes
    (IsSubtree-split five split (4 ∷ []) [] 0 0 (item 0 1 ∷ []) (item 20 2) (item 24 4) (item 30 3 ∷ []) splits stand_once 2 4
    2 2 (0 ∷ []) None (omega arith) five_is_rooted.subtree (omega arith) (omega arith) (omega arith) (omega arith))

-- ---- the join that undoes it

split_stands_once : StandOnce split [] 1 0
split_stands_once = StandOnce-rooted 2 4 2 (0 ∷ []) split [] split_is_rooted

joins : Joins split joined [] 0 (item 0 1 ∷ []) (item 20 2) (item 24 4) (item 30 3 ∷ [])
joins =
    Joins-written split [] 0 0 1 (item 20 2) (item 24 4) split_stands_once (omega arith) refl refl refl filled
    (with_node filled 0 (without_items (node_at filled 0) 2 3)) 2 2 (omega arith) refl refl
    (SetsItems-with_items split 2 (with_more (node_at split 2) 2 (take 2 (drop 0 (node_at split 4).items))).items (omega arith))
    (SetsItems-with_items filled 0 (without_items (node_at filled 0) 2 3).items (omega arith))

there_and_back : Reshapes five joined (4 ∷ []) (4 ∷ []) 1 0
there_and_back =
    Reshapes-trans five split joined (4 ∷ []) [] (4 ∷ []) 1 0 split_reshapes
    (Reshapes-join split joined [] 0 0 (item 0 1 ∷ []) (item 20 2) (item 24 4) (item 30 3 ∷ []) joins split_stands_once)

-- ---- items that move

shares : Shares five shared (4 ∷ []) 0 [] (item 0 1) (item 20 2) (22 ∷ []) (item 30 3 ∷ [])
shares =
    Shares-written_left five (4 ∷ []) 0 0 0 (item 0 1) (item 20 2) stand_once (omega arith) refl refl
    (refl, omega arith, refl, refl) grown shrunk shared 2 1 (22 ∷ []) refl
    (SetsItems-with_items five 1 (with_more (node_at five 1) 2 (take 1 (drop 0 (node_at five 2).items))).items (omega arith))
    (SetsItems-with_items grown 2 (without_items (node_at grown 2) 0 1).items (omega arith)) refl
    (SetsItems-with_items shrunk 0 (with_key (node_at shrunk 0) 1 (22 ∷ [])).items (omega arith))

-- ---- the way to a leaf

way : LeadsToLeaf five 2 4 1 2 (0 ∷ []) None 0 (25 ∷ []) 2
way = LeadsToLeaf-root 2 4 2 (0 ∷ []) five (4 ∷ []) (25 ∷ []) (omega arith) (λ some. omega arith) five_is_rooted refl

way_down : Leads five 2 4 1 2 (0 ∷ []) (25 ∷ []) 0 2
way_down =
    Leads-child five 2 4 1 2 (0 ∷ []) (25 ∷ []) 0 0 (item 0 1 ∷ []) (item 20 2) (item 30 3 ∷ []) (omega arith)
    (Leads-root five 2 4 1 2 (0 ∷ []) (25 ∷ []) refl five_is_rooted.subtree) (omega arith) refl (λ some. refl) refl

-- ---- a level more, and a level less

leaf_is_rooted : IsRooted 2 4 0 (0 ∷ []) leaf []
leaf_is_rooted = record {
  first = omega arith;
  subtree = record {
    filled = record { enough = omega arith; fits = omega arith };
    begin = refl;
    rising = (refl, (tt, tt));
  };
  are_free = refl;
  once = λ q. leaf_once q;
}
  where
    leaf_once : (q : ℕ) → times q (0 ∷ []) ≡ has_page leaf q
    leaf_once q = grind (arith, nat_tests)

abbrev longer : List Node
longer = leaf ++ no_node ∷ []

abbrev below : List Node
below = with_node longer 1 (with_more (node_at longer 1) 0 (take 2 (drop 0 (node_at longer 0).items)))

abbrev emptied : List Node
emptied = with_node below 0 (without_items (node_at below 0) 0 2)

abbrev put : List Node
put = with_node emptied 0 (with_more (node_at emptied 0) 0 (item 0 1 ∷ []))

abbrev higher : List Node
higher = with_node put 0 (with_height (node_at put 0) 1)

higher_is : higher ≡ raised
higher_is = refl

raises : Raises leaf higher [] [] (0 ∷ []) 1
raises =
    Raises-written leaf longer below emptied put [] [] 2 1 0 (0 ∷ []) (omega arith) (λ q. omega arith) refl refl
    (Taken-from_takes leaf longer [] 1 (omega arith) refl (λ q. omega arith) takes_a_new_page)
    (SetsItems-with_items longer 1 (with_more (node_at longer 1) 0 (take 2 (drop 0 (node_at longer 0).items))).items
    (omega arith))
    (SetsItems-with_items below 0 (without_items (node_at below 0) 0 2).items (omega arith))
    (SetsItems-with_items emptied 0 (with_more (node_at emptied 0) 0 (item 0 1 ∷ [])).items (omega arith))

higher_is_rooted : IsRooted 2 4 1 (0 ∷ []) higher []
higher_is_rooted =
    IsRooted-raised 2 4 0 (0 ∷ []) leaf higher [] [] 1 (omega arith) (omega arith) leaf_is_rooted raises

abbrev childless : List Node
childless = with_node higher 0 (without_items (node_at higher 0) 0 1)

abbrev whole : List Node
whole = with_node childless 0 (with_more (node_at childless 0) 0 (take 2 (drop 0 (node_at childless 1).items)))

lowers : Lowers higher (with_free (with_node whole 0 (with_height (node_at whole 0) 0)) 1) [] (item 0 1)
lowers =
    Lowers-written higher childless whole [] 0 2 1 (item 0 1)
    (StandOnce-rooted 2 4 1 (0 ∷ []) higher [] higher_is_rooted) refl refl refl (omega arith)
    (SetsItems-with_items higher 0 (without_items (node_at higher 0) 0 1).items (omega arith)) refl
    (SetsItems-with_items childless 0
    (with_more (node_at childless 0) 0 (take 2 (drop 0 (node_at childless 1).items))).items (omega arith))

lower_is_tree : IsTree 2 4 (0 ∷ []) (with_free (with_node whole 0 (with_height (node_at whole 0) 0)) 1)
lower_is_tree =
    (IsTree-lowered 2 4 1 (0 ∷ []) higher (with_free (with_node whole 0 (with_height (node_at whole 0) 0)) 1) [] (item 0 1)
    (omega arith) higher_is_rooted lowers).0
