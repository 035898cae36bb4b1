use Rattle.std.proofs.Common.{◌<◌, ◌∙◌, ap, length, lit<, subst, sym}
use Rattle.std.specs.Prelude.{All}
use Rattle.hy_writers.specs.of_index.declared.key.Entry.{Entry}
use Rattle.hy_writers.specs.of_store.declared.keys.LineKey.{LineKey}
use Rattle.hy_writers.specs.of_store.Stored.{Stored}
use Rattle.hy_writers.specs.of_store.Writes.{stored_in}
use Rattle.hy_writers.proofs.DeliverLaws.{own-lines}
use Rattle.hy_writers.proofs.OrderLinesLaws.{behind_lines, first_line, lines-sorted}
use Rattle.hy_writers.proofs.WritesLaws.{if_ok-then}
use Rattle.hy_tpcc.specs.Lines.{lines_named}
use Rattle.hy_tpcc.proofs.NamedLaws.{between-there}
use Rattle.hy_tpcc.proofs.status.order_lines.Goals as goal

pub read_lines-requires : goal.read_lines-requires
read_lines-requires g c =
    let s : Stored = stored_in g.row.N c.args.space.now in
    let are = c.deref.ensures.value ∙ c.in_ok-read_entries.ensures in
    let there = subst (All (λ (entry : Entry LineKey). entry.slot < length s.tables.order_lines)) (sym are)
    (between-there s.tables.order_lines s.lines (first_line c.args.order.now) (behind_lines c.args.order.now)
    c.requires.sound.indexes.lines) in
    (lit< tt, (c.requires.store, there))

pub returns : goal.returns
returns g c =
    let s : Stored = stored_in g.row.N c.args.space.now in
    let layout = c.args.layout.now in
    let sound = c.requires.sound.sound in
    let are = c.deref.ensures.value ∙ c.in_ok-read_entries.ensures in
    if_ok-then c.read_lines.result (λ lines is.
    is
    ∙ ap (lines_named s.tables.order_lines) are
    ∙ sym (lines-sorted layout.warehouse c.args.order.now s.tables.order_lines s.lines
    (own-lines layout.load.items layout.warehouse s sound) c.requires.home c.know_entries.ensures
    c.requires.sound.indexes.lines sound.orders.unique_lines))
    c.read_lines.ensures
