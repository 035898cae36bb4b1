use Rattle.std.proofs.Common.{◌-◌, ◌∙◌, ap, length, lit<, subst, sym}
use Rattle.hy_rows.specs.Ranges.{IsBetween}
use Rattle.hy_commands.specs.StockLevels.{is_low}
use Rattle.hy_writers.specs.of_store.Stored.{Stored}
use Rattle.hy_writers.specs.of_store.Writes.{stored_in}
use Rattle.hy_writers.proofs.FindLaws.{within-at}
use Rattle.hy_tpcc.proofs.LevelLaws.{low-at}
use Rattle.hy_tpcc.proofs.level.is_low.Goals as goal

pub row_at-stock-requires : goal.row_at-stock-requires
row_at-stock-requires g c =
    let s : Stored = stored_in g.row.N c.args.space.now in
    let between = subst (IsBetween 1 (length c.args.layout.now.load.items)) (c.into.ensures ∙ sym c.from.ensures)
    c.in-Some.ensures.number in
    let at = c.know_places.ensures.stock s.tables c.from.result c.requires.sound.places between in
    (lit< tt, (c.requires.store, within-at s.tables.stock (c.from.result - 1) at.row at.here))

pub returns : goal.returns
returns g c =
    let s : Stored = stored_in g.row.N c.args.space.now in
    let between = subst (IsBetween 1 (length c.args.layout.now.load.items)) (c.into.ensures ∙ sym c.from.ensures)
    c.in-Some.ensures.number in
    let at = c.know_places.ensures.stock s.tables c.from.result c.requires.sound.places between in
    let low = low-at c.args.layout.now.warehouse c.args.level.now.threshold c.from.result s.tables.stock
    (c.from.result - 1) c.row_at-stock.result c.requires.sound.sound.stock.unique at c.row_at-stock.ensures in
    c.is_below.ensures
    ∙ sym low
    ∙ ap (is_low c.args.layout.now.warehouse c.args.level.now.threshold s.tables.stock) c.from.ensures
    ∙ ap (λ w. is_low w c.args.level.now.threshold s.tables.stock c.args.item) (sym c.requires.home)
