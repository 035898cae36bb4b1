use Rattle.std.proofs.Common.{◌<◌, ◌∙◌, length, lit<, subst, sym}
use Rattle.std.specs.Prelude.{All}
use Rattle.hy_writers.specs.of_index.declared.key.Entry.{Entry}
use Rattle.hy_writers.specs.of_store.declared.keys.LineKey.{LineKey}
use Rattle.hy_writers.specs.of_store.Stored.{Stored}
use Rattle.hy_writers.specs.of_store.Writes.{stored_in}
use Rattle.hy_tpcc.proofs.NamedLaws.{between-there}
use Rattle.hy_tpcc.proofs.level.add_order.Goals as goal

pub add_lines-requires : goal.add_lines-requires
add_lines-requires g c =
    let s : Stored = stored_in g.row.N c.args.space.now in
    let are = c.deref.ensures.value ∙ c.in_ok-read_entries.ensures in
    let there = subst (All (λ (entry : Entry LineKey). entry.slot < length s.tables.order_lines)) (sym are)
    (between-there s.tables.order_lines s.lines _ _ c.requires.sound.indexes.lines) in
    (lit< tt, (c.requires.store, (c.requires.sound, (c.requires.home, there))))
