use Rattle.std.proofs.Common.{◌≡◌, ◌++◌, drop, option_map, take}
use Rattle.hy_scenarios.specs.Changes.{replaced}
use Rattle.hy_scenarios.proofs.changes.replaced.Given as goal

abbrev pub invariant-loop-place : goal.invariant-loop-place
invariant-loop-place l = option_map (λ rest. take l.place l.text ++ rest) (replaced l.old l.new (drop l.place l.text))
    ≡ replaced l.old l.new l.text
