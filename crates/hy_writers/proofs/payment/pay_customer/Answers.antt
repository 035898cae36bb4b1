use Rattle.std.proofs.Common.{◌≡◌, ◌∙◌, Bool, Some, ap, ap₂, subst, sym}
use Rattle.std.specs.Prelude.{slice_get}
use Rattle.hy_layout.proofs.PlaceLaws.{get-set_same}
use Rattle.hy_rows.specs.declared.customer.Customer.{Customer}
use Rattle.hy_rows.specs.declared.customer.CustomerAccount.{CustomerAccount}
use Rattle.hy_rows.specs.declared.customer.CustomerNumber.{CustomerNumber}
use Rattle.hy_rows.specs.RowParts.{account_of, number_of_customer, with_account}
use Rattle.hy_indexes.specs.of_store.Stored.{Stored}
use Rattle.hy_indexes.specs.of_store.Writes.{stored_in}
use Rattle.hy_writers.specs.Payments.{is_noted, with_noted_if}
use Rattle.hy_writers.proofs.AccountLaws.{part_is}
use Rattle.hy_writers.proofs.PaymentLaws.{payer-paid}
use Rattle.hy_writers.proofs.payment.pay_customer.Goals as goal

-- the account and the number that were read are the payer's
pub returns-clause-paid : goal.returns-clause-paid
returns-clause-paid g c =
    let old = stored_in g.row.N c.args.space.now in
    let between : Stored = stored_in g.row.N c.put_part.new.space in
    let payer = c.requires.can.payer in
    let row : Customer = payer.row in
    let same : account_of row ≡ c.part_at-before.result = part_is account_of _ row c.part_at-before.result payer.here c.part_at-before.ensures in
    let named : number_of_customer row ≡ c.part_at-customer.result =
    part_is number_of_customer _ row c.part_at-customer.result payer.here c.part_at-customer.ensures in
    let account : Customer = with_account row c.account_after-account.result in
    let put = c.in_ok-put_part.ensures.put row payer.here in
    let put_there = get-set_same old.tables.customers c.args.place row account payer.here in
    let there : slice_get between.tables.customers c.args.place ≡ Some account =
    subst (λ (s : Stored). slice_get s.tables.customers c.args.place ≡ Some account) (sym put.changed) put_there in
    let noted = c.in_ok-note_if_due.ensures.noted account there in
    record {
      store = noted.store;
      changed =
          payer-paid c.args.layout.now.warehouse c.args.place c.args.edition c.args.payment.now old between
          (stored_in g.row.N c.note_if_due.new.space) row account c.requires.can.begun c.requires.can.rows payer payer.here
          (c.account_after-account.ensures.paid row same) put.changed
          (noted.changed
          ∙ ap₂ (λ (is_due : Bool) (number : CustomerNumber). with_noted_if is_due c.args.payment.now number.number c.args.place account between)
          (c.is_noted-is_due.ensures ∙ ap (λ (a : CustomerAccount). is_noted c.args.edition a.credit) (sym same)) (sym named));
    }
