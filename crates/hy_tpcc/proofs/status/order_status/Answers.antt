use Rattle.std.proofs.Common.{◌≡◌, ◌∙◌, ap, ap₂, sym}
use Rattle.std.specs.Prelude.{[], unwrap_or}
use Rattle.hy_commands.specs.Customers.{customer_meant}
use Rattle.hy_commands.specs.Transactions.{asker, status_reply}
use Rattle.hy_commands.specs.declared.reply.Reply.TheVariants as replies
use Rattle.hy_rows.specs.RowParts.{account_of, identity_of}
use Rattle.hy_rows.specs.Rows.{customer_of}
use Rattle.hy_rows.specs.Tables.{Tables}
use Rattle.hy_rows.specs.declared.customer.Customer.{Customer}
use Rattle.hy_rows.specs.declared.customer.CustomerAccount.{CustomerAccount}
use Rattle.hy_rows.specs.declared.customer.CustomerIdentity.{CustomerIdentity}
use Rattle.hy_writers.specs.of_store.Writes.{stored_in}
use Rattle.hy_writers.proofs.AccountLaws.{part_is}
use Rattle.hy_tpcc.proofs.status.order_status.Goals as goal

-- who was read, and what is due, are those of the customer who is meant
pub returns : goal.returns
returns g c =
    let tables : Tables = (stored_in g.row.N c.args.space.now).tables in
    let row : Customer = c.requires.asker.row in
    let who : identity_of row ≡ c.part_at-identity.result =
    part_is identity_of _ row c.part_at-identity.result c.requires.asker.here c.part_at-identity.ensures in
    let due : account_of row ≡ c.part_at-account.result =
    part_is account_of _ row c.part_at-account.result c.requires.asker.here c.part_at-account.ensures in
    let status = c.args.status.now in
    let meant : asker status tables ≡ row =
    ap (λ home. unwrap_or (customer_meant home status.district status.who tables.customers) (customer_of [])) c.requires.home
    ∙ ap (λ found. unwrap_or found (customer_of [])) c.requires.asker.meant in
    c.reply_for.ensures
    ∙ ap₂ (λ (identity : CustomerIdentity) (account : CustomerAccount).
    replies.OrderStatus identity.id identity.first identity.middle identity.last account.balance c.in_ok-order.order) (sym who) (sym due)
    ∙ ap (replies.OrderStatus row.id row.first row.middle row.last row.balance) (c.in_ok-order.ensures row who)
    ∙ ap (λ (customer : Customer). status_reply customer tables) (sym meant)
