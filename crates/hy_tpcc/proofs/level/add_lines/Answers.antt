use Rattle.std.proofs.Common.{get_or, lit<}
use Rattle.hy_writers.specs.of_index.declared.key.Entry.{Entry}
use Rattle.hy_writers.specs.of_store.declared.keys.LineKey.{LineKey}
use Rattle.hy_writers.specs.of_store.Stored.{Stored}
use Rattle.hy_writers.specs.of_store.Writes.{stored_in}
use Rattle.hy_tpcc.proofs.LevelLaws.{line-item}
use Rattle.hy_tpcc.proofs.level.add_lines.Goals as goal

none : Entry LineKey
none = record { key = record { order = 0; district = 0; number = 0 }; slot = 0 }

pub add_item-requires : goal.add_item-requires
unfolding none
add_item-requires g c =
    let s : Stored = stored_in g.row.N c.args.space.now in
    let layout = c.args.layout.now in
    let slot = (get_or c.args.entries.now c.loop-entry.entry-index none).slot in
    let known = line-item layout.load.items layout.warehouse s.tables slot c.row_at-line.result c.requires.sound.sound
    c.row_at-line.ensures in
    (lit< tt, (c.requires.store, (c.requires.sound, (c.requires.home, known))))
