use Rattle.std.proofs.Common.{subst}
use Rattle.hy_ledger.specs.Books.{Audits, BookState, PurseState}
use Rattle.hy_ledger.proofs.Insides.{audited-book}
use Rattle.hy_ledger.proofs.book.Book.audit.Goals as goal

pub returns-clause-audited : goal.returns-clause-audited
returns-clause-audited g c =
    let book : BookState = record { warehouse = c.self.inside.warehouse; commits = c.self.inside.commits; cents = c.self.inside.cents } in
    let audits = audited-book g.K.World.passes _ _ _ book c.purse.inside.seat.me.0.held c.self.invariant c.meet.ensures.within in
    subst (λ (b : BookState). Audits b c.args.purse.now.shares) c.self.view_is
    (subst (λ (p : PurseState). Audits book p.shares) c.purse.view_is audits)
