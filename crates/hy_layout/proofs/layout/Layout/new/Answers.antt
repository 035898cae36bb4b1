use Rattle.std.proofs.Common.{◌≡◌, ◌≤◌, ◌==◌, List, length, map, filter, sym, ap, subst, ◌∙◌}
use Rattle.std.specs.List.Sorted.{IsNonDecreasingBy}
use Rattle.hy_rows.specs.Tables.{Lists}
use Rattle.hy_rows.specs.declared.customer.Customer.{Customer}
use Rattle.hy_rows.proofs.BetweenLaws.{IsBetween-bounds}
use Rattle.hy_layout.specs.inside.Places.{AreInOrder, AreNames, AreStarts, named}
use Rattle.hy_layout.proofs.LoadLaws.{own-in_order, warehouses-rise}
use Rattle.hy_layout.proofs.layout.Layout.new.Goals as goal

pub own_customers-rows-requires : goal.own_customers-rows-requires
own_customers-rows-requires c =
    subst (λ (rows : List Customer). IsNonDecreasingBy (λ row. row.warehouse) rows) (sym c.list.ensures)
    (warehouses-rise (length c.args.load.now.tables.warehouses) c.args.load.now.tables.customers
    c.sound.ensures.customers.each)

pub starts_of-requires : goal.starts_of-requires
starts_of-requires c =
    subst AreInOrder (sym (c.own_customers-rows.ensures ∙ ap (filter (λ row. row.warehouse == c.args.warehouse)) c.list.ensures))
    (own-in_order c.args.warehouse (length c.args.load.now.tables.warehouses) c.args.load.now.tables.customers
    c.requires.first c.sound.ensures.customers.each)

pub invariant_of-result : goal.invariant_of-result
invariant_of-result c =
    let own : c.own_customers-rows.result.now
    ≡ filter (λ row. row.warehouse == c.args.warehouse) c.in_ok-load.load.tables.customers =
    c.own_customers-rows.ensures ∙ ap (filter (λ row. row.warehouse == c.args.warehouse)) c.list.ensures
    ∙ ap (λ (load : Lists). filter (λ row. row.warehouse == c.args.warehouse) load.tables.customers)
    (sym c.in_ok-load.ensures) in
    record {
      is_one = IsBetween-bounds 1 (length c.in_ok-load.load.tables.warehouses) c.args.warehouse c.requires.first
          (subst (λ (load : Lists). c.args.warehouse ≤ length load.tables.warehouses) (sym c.in_ok-load.ensures)
          c.requires.last);
      by_number = subst (λ rows. AreStarts (map named rows) c.in_ok-starts.starts.items) own c.in_ok-starts.ensures;
      by_name = subst (λ rows. AreNames (map named rows) c.in_ok-names.names.items) own c.in_ok-names.ensures;
    }
