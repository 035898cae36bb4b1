use Rattle.std.proofs.Common.{rules, ◌≡◌, ℕ, Some, ap, set, ◌∙◌}
use Rattle.std.specs.Prelude.{slice_get}
use Rattle.hy_rows.specs.declared.customer.Customer.{Customer}
use Rattle.hy_rows.specs.RowParts.{account_of, with_account}
use Rattle.hy_commands.specs.Deliveries.{customer_delivered}
use Rattle.hy_indexes.specs.of_store.Stored.{Stored}
use Rattle.hy_indexes.specs.of_store.Writes.{ChangesStore, LeavesStore, stored_in}
use Rattle.hy_writers.specs.Accounts.{ChangesAccount}
use Rattle.hy_writers.specs.Deliveries.{ChargesCustomer}
use Rattle.hy_writers.proofs.AccountLaws.{mapped_some}
use Rattle.hy_writers.proofs.WritesLaws.{on_ok-then}
use Rattle.hy_writers.proofs.delivery.charge.Goals as goal

-- the account that was read is that of the row at the place
pub returns-clause-charged : goal.returns-clause-charged
returns-clause-charged g c =
    let n : ℕ = g.row.N in
    let old : Stored = stored_in n c.args.space.now in
    let found = mapped_some account_of (slice_get old.tables.customers c.args.place) c.part_at-before.result c.part_at-before.ensures in
    let row : Customer = found.0 in
    let here : slice_get old.tables.customers c.args.place ≡ Some row = found.1 in
    let delivered : ChangesAccount c.part_at-before.result c.account_after.result (customer_delivered c.args.cents) = search rules in
    let charged : with_account row c.account_after.result ≡ customer_delivered c.args.cents row = delivered row found.2 in
    let leaves : ChangesStore n c.args.space.now c.put_part.new.space (λ (s : Stored). record s { tables = record s.tables { customers = set s.tables.customers c.args.place (with_account row c.account_after.result) } })
    → LeavesStore n c.args.space.now c.put_part.new.space (ChargesCustomer c.args.cents c.args.place) = λ done. record {
      store = done.store;
      step = record {
        row = row;
        here = here;
        rows = done.changed
            ∙ ap (λ (after : Customer). record old { tables = record old.tables { customers = set old.tables.customers c.args.place after } }) charged;
      };
    } in
    on_ok-then c.put_part.result (λ put. leaves (put row here)) c.put_part.ensures.put
