-- A root that becomes the parent of what it was.
use Rattle.std.proofs.Common.{◌≡◌, ℕ, ◌+◌, ◌≤◌, List, [], ◌∷◌, length, drop, replicate, take, sym, ap, ◌∙◌, subst}
use Rattle.std.proofs.lemmas.List.{length-replicate, take-replicate}
use Rattle.hy_trees.specs.Nodes.{Node, node_at, with_height, with_more, with_node}
use Rattle.hy_trees.specs.Trees.{height_of}
use Rattle.hy_trees.specs.Groups.{Raises, SetsItems}
use Rattle.hy_trees.proofs.FreeLaws.{Taken-from_takes}
use Rattle.hy_trees.proofs.StepLaws.{Raises-written}
use Rattle.hy_splits.specs.Splits.{HasFree, MovesOut, RaisesRoot}
use Rattle.hy_splits.proofs.MoveLaws.{free-within}

-- the first zeros of the least key are as many as a key has bytes
pub zeros-long : (width : ℕ) → width ≤ 48 → length (take {A = ℕ} width (replicate 48 0)) ≡ width
zeros-long width narrow = ap (length {A = ℕ}) (take-replicate width 48 0 narrow) ∙ length-replicate width 0

-- the items moved out of the root, the new child's item was put into it, and its height was written
pub RaisesRoot-written : (old moved put new : List Node) (child height : ℕ) (least key : List ℕ) → HasFree old 0 → MovesOut old moved 0 0 child
    → key ≡ least → SetsItems moved put 0 (with_more (node_at moved 0) 0 (record { key = key; number = child } ∷ [])).items
    → height ≡ height_of put → new ≡ with_node put 0 (with_height (node_at put 0) (height + 1)) → RaisesRoot old new least
RaisesRoot-written old moved put new child height least key has moves is_key puts is_height written = record {
  child = child;
  raises = λ free are_free once.
      let takes = Taken-from_takes old moves.taken free child (free-within old 0 has) are_free once moves.takes in
      let kept : height ≡ height_of old = is_height ∙ puts.height ∙ moves.moves.cut.height ∙ moves.moves.put.height ∙ takes.height in
      subst (λ (all : List Node). Raises old all free (drop 1 free) least child) (sym written)
      (Raises-written old moves.taken moves.moves.between moved put free (drop 1 free) (length (node_at moves.taken 0).items) child height least
      (free-within old 0 has) once (ap length (takes.same 0)) kept takes moves.moves.put moves.moves.cut
      (subst (λ (k : List ℕ). SetsItems moved put 0 (with_more (node_at moved 0) 0 (record { key = k; number = child } ∷ [])).items) is_key puts));
}
