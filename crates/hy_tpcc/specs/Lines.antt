-- The lines that entries name.
use Rattle.std.specs.Prelude.{List}
use Rattle.hy_rows.specs.declared.order_line.OrderLine.{OrderLine}
use Rattle.hy_writers.specs.of_index.declared.key.Entry.{Entry}
use Rattle.hy_writers.specs.of_store.declared.keys.LineKey.{LineKey}
use Rattle.hy_writers.specs.Deliveries.{lines_at, places_of}

abbrev pub lines_named : List OrderLine → List (Entry LineKey) → List OrderLine
lines_named rows entries = lines_at rows (places_of entries)
