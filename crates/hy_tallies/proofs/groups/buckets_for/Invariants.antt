use Rattle.std.proofs.Common.{◌≡◌, ◌-◌}
use Rattle.hy_tallies.specs.inside.Keys.{AreFound}
use Rattle.hy_tallies.proofs.groups.buckets_for.Given as goal

-- the groups so far
abbrev pub invariant-loop-group : goal.invariant-loop-group
invariant-loop-group l = record {
  found : AreFound l.buckets.buckets l.room l.keys l.group;
  lowest : l.buckets.lowest ≡ l.room - l.group;
}
