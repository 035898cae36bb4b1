use Rattle.hy_indexes.specs.of_store.Writes.{stored_in}
use Rattle.hy_writers.proofs.DeliverLaws.{store-behind, store-none, store-oldest, store-waiting}
use Rattle.hy_writers.proofs.delivery.waiting_in.Goals as goal

pub returns-then-found-district-clause-waiting : goal.returns-then-found-district-clause-waiting
returns-then-found-district-clause-waiting g c =
    store-waiting c.args.layout.now (stored_in g.row.N c.args.space.now) c.args.district c.requires.sound
    c.know_store.ensures.new_orders c.know_entries.ensures c.in-Some.found c.in-Some.ensures c.if-found-district.true

pub returns-then-found-district-clause-oldest : goal.returns-then-found-district-clause-oldest
returns-then-found-district-clause-oldest g c = (
  c.if-found-district.true,
  store-oldest c.args.layout.now (stored_in g.row.N c.args.space.now) c.args.district
      c.requires.sound c.know_store.ensures.new_orders c.know_entries.ensures c.in-Some.found c.in-Some.ensures
      c.if-found-district.true,
)

pub returns-else-found-district-clause-oldest : goal.returns-else-found-district-clause-oldest
returns-else-found-district-clause-oldest g c =
    store-behind c.args.layout.now (stored_in g.row.N c.args.space.now) c.args.district c.requires.sound
    c.know_store.ensures.new_orders c.know_entries.ensures c.in-Some.found c.in-Some.ensures c.if-found-district.false

pub returns-in-None-clause-oldest : goal.returns-in-None-clause-oldest
returns-in-None-clause-oldest g c =
    store-none c.args.layout.now (stored_in g.row.N c.args.space.now) c.args.district c.requires.sound
    c.know_store.ensures.new_orders c.know_entries.ensures c.in-None.ensures
