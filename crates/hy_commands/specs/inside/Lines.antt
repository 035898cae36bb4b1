-- The lines of a purchase as memory has them: short ones, or wide ones.
use Rattle.std.specs.Prelude.{Bool, true, false, nat_lt, ◌&&◌, ◌^◌, List, map}
use Rattle.hy_commands.specs.declared.command.PurchaseLine.{PurchaseLine}
use Rattle.hy_commands.specs.declared.lines.ShortLine.{ShortLine}
use Rattle.hy_commands.specs.declared.lines.KeptLines.{KeptLines}
use Rattle.hy_commands.specs.declared.lines.KeptLines.TheVariants as kept

-- whether the numbers of a line fit a short one
abbrev pub is_short : PurchaseLine → Bool
is_short line = nat_lt line.item (2 ^ 32) && nat_lt line.supply_warehouse (2 ^ 8) && nat_lt line.quantity (2 ^ 8)

-- the line that a short one stands for
abbrev pub line_of : ShortLine → PurchaseLine
line_of short = record { item = short.item; supply_warehouse = short.supply_warehouse; quantity = short.quantity }

-- the lines that are kept, and whether they are short
abbrev pub lines_of : KeptLines → List PurchaseLine
lines_of (kept.Short lines) = map line_of lines.items
lines_of (kept.Wide lines) = lines.items

abbrev pub are_short : KeptLines → Bool
are_short (kept.Short lines) = true
are_short (kept.Wide lines) = false
