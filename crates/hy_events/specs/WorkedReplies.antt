-- What is printed for replies; the checker computes each row.
use Rattle.std.specs.Prelude.{◌≡◌, ◌++◌, pos, neg_ℤ, [], ◌∷◌, Option, None, Some, codes, refl}
use Rattle.std.specs.Fmt.{digits}
use Rattle.hy_rows.specs.declared.order_line.OrderLine.{OrderLine}
use Rattle.hy_schema.specs.declared.refusal.Refusal.TheVariants as refusals
use Rattle.hy_commands.specs.declared.reply.PlacedOrder.{PlacedOrder}
use Rattle.hy_commands.specs.declared.reply.Reply.{Reply}
use Rattle.hy_commands.specs.declared.reply.Reply.TheVariants as replies
use Rattle.hy_events.specs.Replies.{reply_text}

new_order : reply_text (replies.NewOrder 1 5_536) ≡ codes "order 1 total 5536\n"
unfolding digits
new_order = refl

payment : reply_text (replies.Payment 1 (neg_ℤ (pos 1_100))) ≡ codes "paid customer 1 balance -1100\n"
unfolding digits
payment = refl

-- a customer of the generated database, before and after an order
status : Option PlacedOrder → Reply
status order =
    replies.OrderStatus 1 (codes "F0001") (codes "OE") (codes "BARBARBAR") (neg_ℤ (pos 1_000)) order

without_order : reply_text (status None)
    ≡ codes "status customer 1 F0001 OE BARBARBAR balance -1000\nno order\n"
unfolding status digits
without_order = refl

line : OrderLine
line = record {
  order = 11;
  district = 2;
  warehouse = 3;
  number = 1;
  item = 4;
  supply_warehouse = 3;
  delivery_date = 0;
  quantity = 5;
  amount = pos 600;
}

with_order : reply_text (status (Some record {
  number = 11;
  entry_date = 1_000;
  carrier = 0;
  lines = line ∷ record line { number = 2; item = 7; supply_warehouse = 9; delivery_date = 8 } ∷ [];
}))
    ≡ codes "status customer 1 F0001 OE BARBARBAR balance -1000\norder 11 entry 1000 carrier 0\n"
    ++ codes "line 1 item 4 from 3 quantity 5 amount 600 delivered 0\n"
    ++ codes "line 2 item 7 from 9 quantity 5 amount 600 delivered 8\n"
unfolding status line digits
with_order = refl

-- an empty middle name leaves two spaces
without_middle_name : reply_text (replies.OrderStatus 7 (codes "A") [] (codes "B") (pos 0) None)
    ≡ codes "status customer 7 A  B balance 0\nno order\n"
unfolding digits
without_middle_name = refl

delivery : reply_text (replies.Delivery (1 ∷ 0 ∷ 1 ∷ 0 ∷ 0 ∷ 0 ∷ 0 ∷ 0 ∷ 0 ∷ 20 ∷ []))
    ≡ codes "delivered 1 0 1 0 0 0 0 0 0 20\n"
unfolding digits
delivery = refl

stock_level : reply_text (replies.StockLevel 1) ≡ codes "low 1\n"
unfolding digits
stock_level = refl

abbrev refused : reply_text (replies.Refused refusals.NoSuchItem) ≡ codes "refused E7 NoSuchItem\n"
refused = refl
