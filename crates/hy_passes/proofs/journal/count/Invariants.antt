use Rattle.std.proofs.Common.{◌≡◌, ℕ, suc, ◌+◌, ◌≤◌, ◌<◌, length, cond}
use Rattle.std.specs.Prelude.{slice_index}
use Rattle.hy_passes.specs.SerialList.{names}
use Rattle.hy_passes.proofs.journal.count.Given as goal

abbrev pub invariant-loop-place : goal.invariant-loop-place
invariant-loop-place g l =
    (length l.counts.items ≡ length l.initial.counts.items)
    × ((k : ℕ) → k < l.place → slice_index l.counts.items k ≡ cond (names g.C.Commits.warehouses (k + 1) l.commit) (suc (slice_index l.initial.counts.items k)) (slice_index l.initial.counts.items k))
    × ((k : ℕ) → l.place ≤ k → k < length l.initial.counts.items → slice_index l.counts.items k ≡ slice_index l.initial.counts.items k)
