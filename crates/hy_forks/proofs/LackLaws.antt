-- Partitions of which one has fewer frames free than a fork takes.
use Rattle.std.proofs.Common.{◌≡◌, ◌<◌, ℕ, zero, suc, List, [], ◌∷◌, length, slice_index_or, arith, inl, inr, subst}
use Rattle.std.specs.Prelude.{IfSome, slice_get}
use Rattle.hy_frames.specs.FrameTable.{free_of}
use Rattle.hy_undo.specs.Touched.{touched}
use Rattle.hy_crossing.specs.of_partition.Partition.{PartitionState}
use Rattle.hy_forks.specs.Forks.{SomeLacks}

-- the one at a place does
pub lacks-at : (parts : List PartitionState) (place : ℕ) (p : PartitionState) → place < length parts
    → p ≡ slice_index_or parts place p → free_of p.space.frames < touched p.undo → SomeLacks parts
lacks-at [] place p within here lacks = absurd (omega (arith, within))
lacks-at (first ∷ parts) zero p within here lacks =
    inl (subst (λ (q : PartitionState). free_of q.space.frames < touched q.undo) here lacks)
lacks-at (first ∷ parts) (suc place) p within here lacks =
    inr (lacks-at parts place p (omega (arith, within)) here lacks)

-- none does
pub none-lacks : (parts : List PartitionState)
    → ((place : ℕ) → IfSome (slice_get parts place) (λ p. free_of p.space.frames < touched p.undo → ⊥))
    → SomeLacks parts → ⊥
none-lacks [] none lacks = lacks
none-lacks (p ∷ parts) none (inl lacks) = none 0 lacks
none-lacks (p ∷ parts) none (inr lacks) = none-lacks parts (λ place. none (suc place)) lacks
