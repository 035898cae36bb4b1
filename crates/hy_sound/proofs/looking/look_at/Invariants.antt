-- What is left is sound where the batch is.
use Rattle.std.proofs.Common.{◌-◌, ◌^◌}
use Rattle.hy_sound.specs.inside.Steps.{Leads}
use Rattle.hy_sound.proofs.looking.look_at.Given as goal

abbrev pub invariant-steps : goal.invariant-steps
invariant-steps l = Leads l.known l.before l.last l.initial.merge l.merge

abbrev pub decreases-steps : goal.decreases-steps
decreases-steps l = 2 ^ 64 - l.last
