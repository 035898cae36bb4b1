-- Changes that keep the entries, one behind another.
use Rattle.std.proofs.Common.{ℕ, ◌+◌, ◌-◌, ◌≤◌, ap, length, ◌∙◌, arith}
use Rattle.std.proofs.lemmas.Nat.{le-div}
use Rattle.hy_space.specs.Space.{SpaceState}
use Rattle.hy_trees.specs.Nodes.{capacity}
use Rattle.hy_nodes.specs.declared.pages.Tree.{Tree}
use Rattle.hy_nodes.specs.Ways.{HasFewFree, KeepsEntries, KeepsPages}

pub KeepsEntries-trans : (n : ℕ) (tree : Tree) (old between new : SpaceState) (more further : ℕ) → KeepsEntries n tree old between more → KeepsEntries n tree between new further → KeepsEntries n tree old new (more + further)
KeepsEntries-trans n tree old between new more further first second = record {
  is_tree = second.is_tree;
  entries = second.entries ∙ first.entries;
  longer = omega (arith, first.longer, second.longer);
  few = omega (arith, first.few, second.few);
}

pub KeepsPages-trans : (n : ℕ) (tree : Tree) (old between new : SpaceState) (more : ℕ) → KeepsEntries n tree old between more → KeepsPages n tree old between → KeepsPages n tree between new → KeepsPages n tree old new
KeepsPages-trans n tree old between new more keeps first second count many pages =
    second count (let same = ap length keeps.entries in omega (arith, many, same)) (first count many pages)

pub HasFewFree-before : (n : ℕ) (tree : Tree) (old between : SpaceState) (more further : ℕ) → KeepsEntries n tree old between more → HasFewFree tree between further → HasFewFree tree old (more + further)
HasFewFree-before n tree old between more further keeps few = omega (arith, keeps.longer, keeps.few, few)

-- a page of 256 bytes or more has room for four items
pub capacity-four : (n key_width : ℕ) → 256 ≤ n → key_width ≤ 48 → 4 ≤ capacity n key_width
capacity-four n key_width large narrow = le-div 4 (n - 8) (key_width + 8) (omega arith) (omega (arith, large, narrow))
