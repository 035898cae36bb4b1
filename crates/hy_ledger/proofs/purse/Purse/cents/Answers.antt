use Rattle.std.proofs.Common.{subst, arith, ◌*◌, ◌≤◌, length}
use Rattle.hy_ledger.specs.Books.{max_cents}
use Rattle.hy_ledger.proofs.Shares.{small-shares}
use Rattle.hy_ledger.proofs.purse.Purse.cents.Goals as goal

pub returns-clause-small : goal.returns-clause-small
returns-clause-small g c =
    let small = small-shares g.K.World.passes c.self.inside.seat.me.0.held c.self.invariant.given in
    let is = c.self.invariant.cents_are in
    subst (λ now. c.self.inside.cents ≤ max_cents * length now.shares) c.self.view_is (omega arith)
