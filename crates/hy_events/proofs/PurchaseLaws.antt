-- The lines of a purchase, one word after the other.
use Rattle.std.specs.Prelude.{List, ◌++◌, Option, None, Some}
use Rattle.hy_commands.specs.declared.command.PurchaseLine.{PurchaseLine}

-- lines that were read, and those to come
abbrev pub and_later : List PurchaseLine → Option (List PurchaseLine) → Option (List PurchaseLine)
and_later lines None = None
and_later lines (Some later) = Some (lines ++ later)
