use Rattle.std.proofs.Common.{◌≡◌, ◌-◌, ◌∙◌, ap, ap₂, sym}
use Rattle.hy_rows.specs.declared.customer.Customer.{Customer}
use Rattle.hy_rows.proofs.BetweenLaws.{bounds}
use Rattle.hy_rows.specs.Limits.{max_quantity}
use Rattle.hy_rows.specs.RowParts.{discount_of}
use Rattle.hy_rows.specs.declared.customer.CustomerDiscount.{CustomerDiscount}
use Rattle.hy_commands.specs.NewOrders.{total_of}
use Rattle.hy_indexes.specs.of_store.Writes.{stored_in}
use Rattle.hy_writers.proofs.AccountLaws.{part_is}
use Rattle.hy_writers.proofs.PurchaseLaws.{total-found}
use Rattle.hy_writers.proofs.purchase.purchase_total.Goals as goal

pub purchase_cents-cents-requires-clause-quantities : goal.purchase_cents-cents-requires-clause-quantities
purchase_cents-cents-requires-clause-quantities g c = λ k d within. (bounds 1 max_quantity _ (c.requires.order.lines k d within).quantity).1

pub returns : goal.returns
returns g c =
    let cents = c.purchase_cents-cents.result in
    let buyer : Customer = c.requires.buyer.row in
    let same : discount_of buyer ≡ c.part_at-customer.result =
    part_is discount_of _ buyer c.part_at-customer.result c.requires.buyer.here c.part_at-customer.ensures in
    let home = c.own_tax-warehouse_tax.ensures in
    let district = c.own_district_tax-district_tax.ensures in
    c.total_of.ensures
    ∙ ap (λ d. total_of cents d c.own_tax-warehouse_tax.result c.own_district_tax-district_tax.result)
    (sym (ap (λ (read : CustomerDiscount). read.discount) same))
    ∙ ap₂ (λ w d. total_of cents buyer.discount w d) home.2 district.2
    ∙ total-found c.args.layout.now.load.items c.args.layout.now.warehouse (c.args.order.now.district - 1) c.args.place
    cents c.args.order.now (stored_in g.row.N c.args.space.now).tables home.0 district.0 buyer c.requires.order
    home.1 district.1 c.requires.buyer c.requires.buyer.here
    c.purchase_cents-cents.ensures.cents
