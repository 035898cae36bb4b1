-- Changes of a subtree that change no entry, one behind another.
use Rattle.std.proofs.Common.{ℕ, List, refl, ◌∙◌, arith}
use Rattle.hy_trees.specs.Nodes.{Node, node_at}
use Rattle.hy_trees.specs.Trees.{AreFree, Reshapes, StandOnce}
use Rattle.hy_trees.proofs.CountLaws.{has_page-le, has_page-yes}

pub Reshapes-refl : (nodes : List Node) (free : List ℕ) (depth page : ℕ) → AreFree nodes (node_at nodes 0).next free
    → Reshapes nodes nodes free free depth page
Reshapes-refl nodes free depth page are_free = record {
  longer = omega arith;
  entries = refl;
  are_free = are_free;
  places = λ q. refl;
  others = λ q within none. refl;
  height = refl;
}

pub Reshapes-trans : (old between new : List Node) (was_free free is_free : List ℕ) (depth page : ℕ)
    → Reshapes old between was_free free depth page → Reshapes between new free is_free depth page
    → Reshapes old new was_free is_free depth page
Reshapes-trans old between new was_free free is_free depth page first second = record {
  longer = omega (arith, first.longer, second.longer);
  entries = second.entries ∙ first.entries;
  are_free = second.are_free;
  places = λ q. let one = first.places q in let two = second.places q in omega (arith, one, two);
  others = λ q within none.
      second.others q (omega (arith, first.longer, within))
      (let one = first.places q in
      let was = has_page-yes old q within in
      let is = has_page-le between q in
      omega (arith, one, was, is, none))
      ∙ first.others q within none;
  height = second.height ∙ first.height;
}

-- each page stands no more than once afterwards
pub StandOnce-reshaped : (old new : List Node) (was_free is_free : List ℕ) (depth page : ℕ)
    → Reshapes old new was_free is_free depth page → StandOnce old was_free depth page
    → StandOnce new is_free depth page
StandOnce-reshaped old new was_free is_free depth page reshapes once q =
    let places = reshapes.places q in let was = once q in omega (arith, places, was)
