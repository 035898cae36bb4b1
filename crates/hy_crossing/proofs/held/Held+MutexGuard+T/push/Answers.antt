use Rattle.std.proofs.Common.{◌<◌, length, ap, arith}
use Rattle.hy_crossing.proofs.HeldLaws.{length-values, push-taken, push-values}
use Rattle.hy_crossing.proofs.held.Held+MutexGuard+T.push.Goals as goal

pub push-requires : goal.push-requires
push-requires g c =
    let items = c.self.inside.places.items in
    let few : length items < 16 = omega (
      arith,
      length-values items c.self.invariant,
      ap length c.self.view_is,
      c.requires,
    ) in (omega arith, few)

pub invariant_of-self : goal.invariant_of-self
invariant_of-self g c = rw c.push.ensures.items (push-taken c.self.inside.places.items c.args.guard c.self.invariant)

pub returns : goal.returns
returns g c = rw (c.push.ensures.items, ← c.self.view_is) (push-values c.self.inside.places.items c.args.guard c.self.invariant)
