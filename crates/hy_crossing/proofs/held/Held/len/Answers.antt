use Rattle.std.proofs.Common.{◌∙◌, length, sym, ap}
use Rattle.hy_crossing.proofs.HeldLaws.{length-values}
use Rattle.hy_crossing.proofs.held.Held.len.Goals as goal

pub returns : goal.returns
returns g c =
    c.len.ensures.value ∙ sym (length-values c.self.inside.places.items c.self.invariant) ∙ ap length c.self.view_is
