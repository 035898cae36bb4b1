use Rattle.std.proofs.Common.{ap, ◌∙◌, filter, not}
use Rattle.hy_passes.specs.Law.{is_served}
use Rattle.hy_passes.proofs.Lists.{without-none}
use Rattle.hy_passes.proofs.journal.SerialList.tell_client.Goals as goal

pub returns-clause-behind : goal.returns-clause-behind
returns-clause-behind g c =
    ap (λ v. v.behind) c.meet.ensures.journal
    ∙ ap (λ o. filter (λ w. not (is_served o w)) c.self.inside.seat.me.0.behind) c.pass.invariant.2
    ∙ without-none c.self.inside.seat.me.0.behind
    ∙ ap (λ h. h.behind) c.self.view_is
