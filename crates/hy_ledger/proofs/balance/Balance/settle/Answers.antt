use Rattle.std.proofs.Common.{ap, subst, ◌∙◌}
use Rattle.hy_ledger.specs.Books.{totals_of, BalanceState, IsCovered}
use Rattle.hy_ledger.specs.Inside.{up_to}
use Rattle.hy_ledger.proofs.Covering.{covered-all}
use Rattle.hy_ledger.proofs.balance.Balance.settle.Goals as goal

pub returns : goal.returns
returns g c =
    let shares = c.self.inside.purse.shares in
    let all = subst (λ n. IsCovered (totals_of (up_to n shares)) c.self.inside.books) (ap (λ b. b.audited) c.self.view_is ∙ c.requires.all) c.self.invariant.covered in
    subst (λ (b : BalanceState). IsCovered (totals_of b.shares) b.books) c.self.view_is
    (covered-all g.K.World.passes.partitions shares c.self.inside.books c.sound.ensures all)
