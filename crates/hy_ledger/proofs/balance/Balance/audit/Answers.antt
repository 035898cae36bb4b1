use Rattle.std.proofs.Common.{ap, arith, subst, sym, suc, ◌∙◌, ◌≡◌, ◌≤◌, ◌*◌}
use Rattle.hy_ledger.specs.Books.{max_cents, with_book, Audits, BookState}
use Rattle.hy_ledger.specs.Inside.{IsBalance}
use Rattle.hy_ledger.proofs.Insides.{more-books}
use Rattle.hy_ledger.proofs.balance.Balance.audit.Goals as goal

pub invariant_of-self : goal.invariant_of-self
invariant_of-self g c =
    let book : BookState = record { warehouse = c.warehouse-self-inside.result; commits = c.commits.result; cents = c.cents.result } in
    let is : c.audit.new.self ≡ book = λ i. record {
      warehouse = sym c.warehouse-self-inside.ensures.warehouse i;
      commits = sym c.commits.ensures.commits i;
      cents = sym c.cents.ensures.cents i;
    } in
    let next : book.warehouse ≡ suc c.self.inside.audited =
    c.warehouse-self-inside.ensures.warehouse ∙ ap (λ b. b.warehouse) c.audit.ensures.book ∙ c.requires.next ∙ ap (λ s. suc s.audited) (sym c.self.view_is) in
    let small : book.cents ≤ max_cents * book.commits = subst (λ n. c.cents.result ≤ max_cents * n) (sym c.commits.ensures.commits) c.cents.ensures.small in
    let below = c.warehouse-self-inside.type_inv in
    subst (λ p. IsBalance p.shares book.warehouse (with_book c.self.inside.books book)) (sym c.audit.ensures.purse)
    (more-books c.self.inside.purse.shares c.self.inside.audited c.self.inside.books book c.self.invariant next (omega arith) c.commits.ensures.few small
    (subst (λ b. Audits b c.self.inside.purse.shares) (sym c.audit.ensures.book ∙ is) c.audit.ensures.audited))
