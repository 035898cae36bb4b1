-- The line or lines that stand for a reply.
use Rattle.std.specs.Prelude.{ℕ, List, ◌++◌, Option, None, Some, codes, decimal}
use Rattle.std.specs.Fmt.{signed_decimal}
use Rattle.std.specs.List.{flat_map}
use Rattle.hy_rows.specs.declared.order_line.OrderLine.{OrderLine}
use Rattle.hy_schema.specs.Refusals.{refusal_text}
use Rattle.hy_commands.specs.declared.reply.PlacedOrder.{PlacedOrder}
use Rattle.hy_commands.specs.declared.reply.Reply.{Reply}
use Rattle.hy_commands.specs.declared.reply.Reply.TheVariants as replies

-- a customer, with the texts as they are
abbrev pub customer_text : ℕ → List ℕ → List ℕ → List ℕ → List ℕ
customer_text customer first middle last =
    codes "status customer " ++ decimal customer ++ codes " " ++ first ++ codes " " ++ middle ++ codes " " ++ last

-- a line of an order
abbrev pub line_text : OrderLine → List ℕ
line_text line =
    codes "line " ++ decimal line.number ++ codes " item " ++ decimal line.item ++ codes " from "
    ++ decimal line.supply_warehouse ++ codes " quantity " ++ decimal line.quantity ++ codes " amount "
    ++ signed_decimal line.amount ++ codes " delivered " ++ decimal line.delivery_date ++ codes "\n"

-- an order and its lines
abbrev pub order_text : Option PlacedOrder → List ℕ
order_text None = codes "no order\n"
order_text (Some order) =
    codes "order " ++ decimal order.number ++ codes " entry " ++ decimal order.entry_date ++ codes " carrier "
    ++ decimal order.carrier ++ codes "\n" ++ flat_map line_text order.lines

abbrev pub reply_text : Reply → List ℕ
reply_text (replies.NewOrder order total) =
    codes "order " ++ decimal order ++ codes " total " ++ decimal total ++ codes "\n"
reply_text (replies.Payment customer balance) =
    codes "paid customer " ++ decimal customer ++ codes " balance " ++ signed_decimal balance ++ codes "\n"
reply_text (replies.OrderStatus customer first middle last balance order) =
    customer_text customer first middle last ++ codes " balance " ++ signed_decimal balance ++ codes "\n"
    ++ order_text order
reply_text (replies.Delivery orders) =
    codes "delivered" ++ flat_map (λ order. codes " " ++ decimal order) orders ++ codes "\n"
reply_text (replies.StockLevel low) = codes "low " ++ decimal low ++ codes "\n"
reply_text (replies.Refused refusal) = codes "refused " ++ refusal_text refusal ++ codes "\n"
