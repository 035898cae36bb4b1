use Rattle.std.proofs.Common.{◌≡◌, Bool, Some, subst, sym}
use Rattle.std.specs.Prelude.{OnOk, slice_get}
use Rattle.hy_rows.specs.declared.customer.Customer.{Customer}
use Rattle.hy_indexes.specs.of_store.Writes.{ChangesStore, stored_in}
use Rattle.hy_writers.specs.Payments.{with_noted_if}
use Rattle.hy_writers.proofs.payment.note_if_due.Goals as goal

pub returns-then-is_due-clause-noted : goal.returns-then-is_due-clause-noted
returns-then-is_due-clause-noted g c =
    subst (λ (is_due : Bool). OnOk c.note_payment.result ((row : Customer)
    → slice_get (stored_in g.row.N c.args.space.now).tables.customers c.args.place ≡ Some row
    → ChangesStore g.row.N c.args.space.now c.note_payment.new.space
    (with_noted_if is_due c.args.payment.now c.args.customer c.args.place row)))
    (sym c.if-is_due.true) c.note_payment.ensures.noted
