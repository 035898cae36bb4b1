-- The laws of lines that aren't as delivered as they are to be.
use Rattle.std.proofs.Common.{◌≡◌, ◌==◌, ℤ, pos, Bool, true, false, if◌then◌else◌, List, ap, ◌∙◌, int_eq}
use Rattle.std.specs.List.{list_all}
use Rattle.hy_rows.specs.declared.order_line.OrderLine.{OrderLine}
use Rattle.hy_schema.specs.Conditions.{agree}
use Rattle.hy_conditions.specs.Lines.{disagreeing}
use Rattle.hy_conditions.proofs.ColumnLaws.{list_all-count}

-- no line is delivered where none is to be, or undelivered where none is to be, exactly where all agree
pub none-disagreeing : (undelivered : Bool) (delivered_lines undelivered_lines : ℤ) (lines : List OrderLine)
    → delivered_lines ≡ disagreeing true lines → undelivered_lines ≡ disagreeing false lines
    → int_eq (if undelivered then delivered_lines else undelivered_lines) (pos 0)
    ≡ list_all (λ line. agree (line.delivery_date == 0) undelivered) lines
none-disagreeing true delivered_lines undelivered_lines lines counted other =
    ap (λ count. int_eq count (pos 0)) counted ∙ list_all-count
    (λ (line : OrderLine). agree (line.delivery_date == 0) true) lines
none-disagreeing false delivered_lines undelivered_lines lines counted other =
    ap (λ count. int_eq count (pos 0)) other ∙ list_all-count
    (λ (line : OrderLine). agree (line.delivery_date == 0) false) lines
