use Rattle.std.proofs.Common.{◌≡◌, ◌≤◌, true, length, map, take, vec_capacity}
use Rattle.hy_forks.specs.Drains.{kept_behind}
use Rattle.hy_forks.specs.inside.Copies.{are_drained}
use Rattle.hy_forks.proofs.drains.copy_behind.Given as goal

abbrev pub invariant-loop-place : goal.invariant-loop-place
invariant-loop-place g l =
    (map (λ commits. commits.items) l.copies.items
    ≡ map (kept_behind l.fn.cursor) (take l.place (g.P.Parts.states l.fn.parts)))
    × (are_drained g.K.Loaded.load 1 (map (λ commits. commits.items) l.copies.items) ≡ true)
    × (length (g.P.Parts.states l.fn.parts) ≤ vec_capacity l.copies)
    × (g.P.Parts.states l.parts ≡ g.P.Parts.states l.fn.parts)
    × (l.place-end ≡ length (g.P.Parts.states l.fn.parts))
