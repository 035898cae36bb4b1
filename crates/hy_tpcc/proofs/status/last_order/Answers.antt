use Rattle.std.proofs.Common.{◌≡◌, ◌∙◌, Some, None, ap, lit<, sym}
use Rattle.std.specs.Option.{option_map}
use Rattle.std.specs.Prelude.{List, []}
use Rattle.hy_commands.specs.OrderStatus.{placed}
use Rattle.hy_writers.specs.of_index.Index.{found}
use Rattle.hy_rows.specs.RowParts.{account_with, customer_by}
use Rattle.hy_rows.specs.declared.customer.Customer.{Customer}
use Rattle.hy_rows.specs.declared.customer.CustomerIdentity.{CustomerIdentity}
use Rattle.hy_rows.specs.declared.order_line.OrderLine.{OrderLine}
use Rattle.hy_writers.specs.of_store.Keys.{is_lesser_customer}
use Rattle.hy_writers.specs.of_store.Stored.{Stored}
use Rattle.hy_writers.specs.of_store.Writes.{stored_in}
use Rattle.hy_writers.proofs.FindLaws.{within-at}
use Rattle.hy_tpcc.proofs.LastLaws.{last-district, last-found, last-home, last-none, last-there}
use Rattle.hy_tpcc.proofs.status.last_order.Goals as goal

-- a customer with that identity
abbrev with_identity : CustomerIdentity → Customer
with_identity identity = customer_by identity (account_with []) []

pub row_at-order-requires : goal.row_at-order-requires
row_at-order-requires g c =
    let s : Stored = stored_in g.row.N c.args.space.now in
    let layout = c.args.layout.now in
    let there = last-there layout.load.items layout.warehouse s.tables c.requires.sound.sound s.last_orders
    c.requires.sound.indexes.last_orders (with_identity c.args.identity.now) c.requires.home c.in-Some.place (sym c.in-Some.ensures) in
    (lit< tt, (c.requires.store, within-at s.tables.orders c.in-Some.place there.0 there.1))

pub order_lines-requires : goal.order_lines-requires
order_lines-requires g c =
    let s : Stored = stored_in g.row.N c.args.space.now in
    let layout = c.args.layout.now in
    let order = c.row_at-order.result in
    let customer : Customer = with_identity c.args.identity.now in (
      lit< tt,
      (
        c.requires.store,
        (
          c.requires.sound,
          (
            last-home layout.load.items layout.warehouse s.tables c.requires.sound.sound s.last_orders
                c.requires.sound.indexes.last_orders customer c.requires.home c.in-Some.place order
                (sym c.in-Some.ensures) c.row_at-order.ensures,
            last-district layout.load.items layout.warehouse s.tables c.requires.sound.sound s.last_orders
                c.requires.sound.indexes.last_orders customer c.requires.home c.in-Some.place order
                (sym c.in-Some.ensures) c.row_at-order.ensures,
          ),
        ),
      ),
    )

pub returns-in_ok-lines-in-Some : goal.returns-in_ok-lines-in-Some
returns-in_ok-lines-in-Some g c = λ row same.
    let s : Stored = stored_in g.row.N c.args.space.now in
    let layout = c.args.layout.now in
    let order = c.row_at-order.result in
    let is : found is_lesser_customer (record { district = row.district; customer = row.id }) s.last_orders ≡ Some c.in-Some.place =
    ap (λ (identity : CustomerIdentity). found is_lesser_customer (record { district = identity.district; customer = identity.id }) s.last_orders) same
    ∙ sym c.in-Some.ensures in
    let last = last-found layout.load.items layout.warehouse s.tables c.requires.sound.sound s.last_orders
    c.requires.sound.indexes.last_orders row (ap (λ (identity : CustomerIdentity). identity.warehouse) same ∙ c.requires.home) c.in-Some.place order
    is c.row_at-order.ensures in
    ap Some (c.placed_order.ensures
    ∙ ap (λ (lines : List OrderLine). record {
      number = order.id;
      entry_date = order.entry_date;
      carrier = order.carrier;
      lines = lines;
    }) c.in_ok-lines-in-Some.ensures)
    ∙ ap (option_map (placed s.tables.order_lines)) (sym last)

pub returns-in-None : goal.returns-in-None
returns-in-None g c = λ row same.
    let s : Stored = stored_in g.row.N c.args.space.now in
    let layout = c.args.layout.now in
    let is : found is_lesser_customer (record { district = row.district; customer = row.id }) s.last_orders ≡ None =
    ap (λ (identity : CustomerIdentity). found is_lesser_customer (record { district = identity.district; customer = identity.id }) s.last_orders) same
    ∙ sym c.in-None.ensures in
    ap (option_map (placed s.tables.order_lines))
    (sym (last-none layout.load.items layout.warehouse s.tables c.requires.sound.sound s.last_orders
    c.requires.sound.indexes.last_orders row (ap (λ (identity : CustomerIdentity). identity.warehouse) same ∙ c.requires.home) is))
