use Rattle.std.proofs.Common.{◌-◌, lit<}
use Rattle.hy_commands.specs.Invariant.{stock_key}
use Rattle.hy_indexes.specs.of_store.Writes.{stored_in}
use Rattle.hy_writers.proofs.FindLaws.{found-stock, same-row, within-at}
use Rattle.hy_writers.proofs.finds.own_stock.Goals as goal

-- src/finds.rt:62:5
pub row_at-requires : goal.row_at-requires
row_at-requires g c =
    let stock = (stored_in g.row.N c.args.space.now).tables.stock in
    let there = c.know_places.ensures.stock (stored_in g.row.N c.args.space.now).tables c.args.item c.requires.places
    c.requires.item in
    (lit< tt, (c.requires.store, within-at stock (c.args.item - 1) there.row there.here))

-- src/finds.rt:53:1
pub returns : goal.returns
returns g c =
    let stock = (stored_in g.row.N c.args.space.now).tables.stock in
    let there = c.know_places.ensures.stock (stored_in g.row.N c.args.space.now).tables c.args.item c.requires.places
    c.requires.item in
    found-stock c.args.layout.now.warehouse c.args.item stock (c.args.item - 1) c.row_at.result c.requires.unique
    c.row_at.ensures
    (same-row stock_key stock (c.args.item - 1) there.row c.row_at.result there.here c.row_at.ensures there.key)
