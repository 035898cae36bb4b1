use Rattle.std.proofs.Common.{subst}
use Rattle.hy_commands.specs.declared.command.Who.TheVariants as who
use Rattle.hy_layout.specs.Layout.{IsMeantAt}
use Rattle.hy_indexes.specs.of_store.Stored.{Stored}
use Rattle.hy_indexes.specs.of_store.Writes.{stored_in}
use Rattle.hy_writers.proofs.DeliverLaws.{any-meant}
use Rattle.hy_writers.proofs.delivery.buyer_place.Goals as goal

pub unreachable-requires : goal.unreachable-requires
unreachable-requires g c =
    let s : Stored = stored_in g.row.N c.args.space.now in
    any-meant c.args.layout.now.warehouse c.into.result c.into-2.result c.args.order.now s.tables.customers c.into.ensures
    c.into-2.ensures c.requires.buyer (c.in-None.ensures s.tables c.requires.places)

pub returns : goal.returns
returns g c =
    let s : Stored = stored_in g.row.N c.args.space.now in
    let at = c.in-Some.ensures s.tables c.requires.places in
    let by_district = subst (λ district. IsMeantAt c.args.layout.now.warehouse district (who.Number c.into-2.result)
    s.tables.customers c.in-Some.place) c.into.ensures at in
    subst (λ number. IsMeantAt c.args.layout.now.warehouse c.args.order.now.district (who.Number number)
    s.tables.customers c.in-Some.place) c.into-2.ensures by_district
