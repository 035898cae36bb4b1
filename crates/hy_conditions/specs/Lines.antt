-- Order lines that aren't as delivered as they are to be.
use Rattle.std.specs.Prelude.{Bool, ℤ, pos, ◌==◌, if◌then◌else◌, List}
use Rattle.hy_rows.specs.declared.order_line.OrderLine.{OrderLine}
use Rattle.hy_schema.specs.Conditions.{agree, column_sum}

-- 0 for a line that is undelivered exactly where it is to be, else 1
abbrev pub is_other : Bool → OrderLine → ℤ
is_other undelivered row = if agree (row.delivery_date == 0) undelivered then pos 0 else pos 1

-- how many of some lines are not as they are to be
abbrev pub disagreeing : Bool → List OrderLine → ℤ
disagreeing undelivered lines = column_sum (is_other undelivered) lines
