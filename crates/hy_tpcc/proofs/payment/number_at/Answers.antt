use Rattle.std.proofs.Common.{ap, sym}
use Rattle.std.specs.Prelude.{slice_get}
use Rattle.hy_rows.specs.RowParts.{number_of_customer}
use Rattle.hy_rows.specs.declared.customer.CustomerNumber.{CustomerNumber}
use Rattle.hy_writers.specs.of_store.Writes.{stored_in}
use Rattle.hy_writers.proofs.AccountLaws.{mapped_some}
use Rattle.hy_tpcc.proofs.payment.number_at.Goals as goal

-- the number that was read is that of the row at the place
pub returns : goal.returns
returns g c =
    let customers = (stored_in g.row.N c.args.space.now).tables.customers in
    let found = mapped_some number_of_customer (slice_get customers c.args.place) c.part_at-customer.result c.part_at-customer.ensures in
    (found.0, found.1, sym (ap (λ (read : CustomerNumber). read.number) found.2))
