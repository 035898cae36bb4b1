-- The forms of commands.
use Rattle.std.proofs.Common.{◌≡◌, ℕ, ◌+◌, ◌*◌, ◌≤◌, zero, suc, Bool, true, false, ltb, List, [], ◌∷◌, ◌++◌, length, Some, refl, sym, ap, subst, ◌∙◌, append_assoc, arith, length-append}
use Rattle.std.specs.Prelude.{nat_le}
use Rattle.std.specs.List.{flat_map, list_all}
use Rattle.std.proofs.lemmas.Bool.{and_parts, le-ltb, leb-true}
use Rattle.std.proofs.lemmas.List.Concat.{flat_map-cons}
use Rattle.hy_page.proofs.ByteLaws.{length-bytes_of}
use Rattle.hy_page.specs.Bytes.{AreBytes}
use Rattle.hy_rows.specs.Limits.{max_lines, max_payment, min_lines, min_payment}
use Rattle.hy_rows.specs.Ranges.{is_between}
use Rattle.hy_commands.specs.declared.command.Command.{Command}
use Rattle.hy_commands.specs.declared.command.Command.TheVariants as commands
use Rattle.hy_commands.specs.declared.command.Delivery.{Delivery}
use Rattle.hy_commands.specs.declared.command.Payment.{Payment}
use Rattle.hy_commands.specs.declared.command.Purchase.{Purchase}
use Rattle.hy_commands.specs.declared.command.PurchaseLine.{PurchaseLine}
use Rattle.hy_commands.specs.declared.command.Who.{Who}
use Rattle.hy_commands.specs.declared.command.Who.TheVariants as who
use Rattle.hy_commands.specs.Commands.{is_in_range, is_line_in_range, is_moment, is_who, max_name}
use Rattle.hy_batches.specs.Encoding.{command_bytes, delivery_bytes, line_bytes, number_bytes, payment_bytes, purchase_bytes, who_bytes}
use Rattle.hy_batches.specs.Grammar.{command_fits, fits, line_fits, who_fits}
use Rattle.hy_batches.specs.inside.Reading.{command_at, counted_lines_at, delivery_at, front_at, line_at, lines_at, payment_at, purchase_at, who_at}
use Rattle.hy_batches.proofs.FormLaws.{AreBytes-rest, IsForm, Takes, all_six, all_seven, all_three, bind_some, first_of, front_again, front_taken, not_failed, number_form, same_some, seven, six, takes_both, takes_byte, three}
use Rattle.hy_batches.proofs.RowForms.{rows_again, rows_takes}
use Rattle.hy_batches.proofs.RowReading.{line_of, lines_of, more_lines, no_lines}

-- ---- deliveries

delivery_takes : (bytes : List ℕ) (delivery : Delivery) (rest : List ℕ) → AreBytes bytes
    → delivery_at bytes ≡ Some (delivery, rest)
    → Takes bytes (delivery_bytes delivery) rest × (command_fits (commands.Delivery delivery) ≡ true)
unfolding delivery_at
delivery_takes bytes delivery rest are is =
    let a = first_of (number_form 1) bytes _ (delivery, rest) are is in
    let b = first_of (number_form 1) a.1 _ (delivery, rest) a.2.are_bytes a.4 in
    let c = first_of (number_form 8) b.1 _ (delivery, rest) b.2.are_bytes b.4 in
    let made : Delivery = record { warehouse = a.0; carrier = b.0; at = c.0 } in
    let both = takes_both _ _ _ _ _ (takes_both _ _ _ _ _ a.2 b.2) c.2 in
    subst (λ (p : Delivery × List ℕ). Takes bytes (delivery_bytes p.0) p.1 × (command_fits (commands.Delivery p.0) ≡ true))
    (same_some (made, c.1) (delivery, rest) c.4)
    (both, all_three _ _ _ a.3 b.3 c.3)

delivery_again : (delivery : Delivery) (rest : List ℕ) → command_fits (commands.Delivery delivery) ≡ true
    → delivery_at (delivery_bytes delivery ++ rest) ≡ Some (delivery, rest)
unfolding delivery_at
delivery_again delivery rest fit =
    let parts = three _ _ _ fit in
    let regrouped : delivery_bytes delivery ++ rest
    ≡ number_bytes 1 delivery.warehouse ++ (number_bytes 1 delivery.carrier ++ (number_bytes 8 delivery.at ++ rest)) =
    simp append_assoc in
    ap delivery_at regrouped
    ∙ rw (
      (number_form 1).again delivery.warehouse (number_bytes 1 delivery.carrier ++ (number_bytes 8 delivery.at ++ rest)) parts.0,
      (number_form 1).again delivery.carrier (number_bytes 8 delivery.at ++ rest) parts.1,
      (number_form 8).again delivery.at rest parts.2,
    ) refl

-- ---- customers

who_takes : (bytes : List ℕ) (customer : Who) (rest : List ℕ) → AreBytes bytes
    → who_at bytes ≡ Some (customer, rest) → Takes bytes (who_bytes customer) rest × (who_fits customer ≡ true)
unfolding who_at
who_takes [] customer rest are is = absurd cc
who_takes (zero ∷ bytes) customer rest are is =
    let a = first_of (number_form 2) bytes _ (customer, rest) (AreBytes-rest 0 bytes are) is in
    subst (λ (p : Who × List ℕ). Takes (0 ∷ bytes) (who_bytes p.0) p.1 × (who_fits p.0 ≡ true))
    (same_some (who.Number a.0, a.1) (customer, rest) a.4)
    (takes_byte 0 bytes (number_bytes 2 a.0) a.1 a.2, a.3)
who_takes (suc zero ∷ bytes) customer rest are is =
    let a = first_of (number_form 1) bytes _ (customer, rest) (AreBytes-rest 1 bytes are) is in
    let b = bind_some (front_at a.0 a.1) (λ name. Some (who.Last name.0, name.1)) (customer, rest) a.4 in
    let name = b.0.0 in
    let t = front_taken a.0 a.1 name b.0.1 a.2.are_bytes b.1 in
    let both = takes_both bytes (number_bytes 1 a.0) a.1 name b.0.1 a.2 t.0 in
    let whole : Takes bytes (number_bytes 1 (length name) ++ name) b.0.1 =
    subst (λ size. Takes bytes (number_bytes 1 size ++ name) b.0.1) (sym t.2) both in
    subst (λ (p : Who × List ℕ). Takes (1 ∷ bytes) (who_bytes p.0) p.1 × (who_fits p.0 ≡ true))
    (same_some (who.Last name, b.0.1) (customer, rest) b.2) (
      takes_byte 1 bytes (number_bytes 1 (length name) ++ name) b.0.1 whole,
      subst (λ size. fits 1 size ≡ true) (sym t.2) a.3,
    )
who_takes (suc (suc tag) ∷ bytes) customer rest are is = absurd cc

who_again : (customer : Who) (rest : List ℕ) → who_fits customer ≡ true
    → who_at (who_bytes customer ++ rest) ≡ Some (customer, rest)
unfolding who_at
who_again (who.Number number) rest fit = rw ((number_form 2).again number rest fit) refl
who_again (who.Last name) rest fit =
    let regrouped : who_bytes (who.Last name) ++ rest ≡ 1 ∷ (number_bytes 1 (length name) ++ (name ++ rest)) =
    ap (λ bytes. 1 ∷ bytes) (append_assoc (number_bytes 1 (length name)) name rest) in
    ap who_at regrouped
    ∙ rw ((number_form 1).again (length name) (name ++ rest) fit, front_again (length name) name rest refl) refl

who_form : IsForm who_at who_bytes who_fits
who_form = record { takes = who_takes; again = who_again }

-- ---- lines

line_takes : (bytes : List ℕ) (line : PurchaseLine) (rest : List ℕ) → AreBytes bytes
    → line_at bytes ≡ Some (line, rest) → Takes bytes (line_bytes line) rest × (line_fits line ≡ true)
unfolding line_at
line_takes bytes line rest are is =
    let a = first_of (number_form 4) bytes _ (line, rest) are is in
    let b = first_of (number_form 1) a.1 _ (line, rest) a.2.are_bytes a.4 in
    let c = first_of (number_form 1) b.1 _ (line, rest) b.2.are_bytes b.4 in
    let made : PurchaseLine = record { item = a.0; supply_warehouse = b.0; quantity = c.0 } in
    let both = takes_both _ _ _ _ _ (takes_both _ _ _ _ _ a.2 b.2) c.2 in
    subst (λ (p : PurchaseLine × List ℕ). Takes bytes (line_bytes p.0) p.1 × (line_fits p.0 ≡ true))
    (same_some (made, c.1) (line, rest) c.4)
    (both, all_three _ _ _ a.3 b.3 c.3)

line_again : (line : PurchaseLine) (rest : List ℕ) → line_fits line ≡ true
    → line_at (line_bytes line ++ rest) ≡ Some (line, rest)
unfolding line_at
line_again line rest fit =
    let parts = three _ _ _ fit in
    let regrouped : line_bytes line ++ rest
    ≡ number_bytes 4 line.item ++ (number_bytes 1 line.supply_warehouse ++ (number_bytes 1 line.quantity ++ rest)) =
    simp append_assoc in
    ap line_at regrouped
    ∙ rw (
      (number_form 4).again line.item (number_bytes 1 line.supply_warehouse ++ (number_bytes 1 line.quantity ++ rest)) parts.0,
      (number_form 1).again line.supply_warehouse (number_bytes 1 line.quantity ++ rest) parts.1,
      (number_form 1).again line.quantity rest parts.2,
    ) refl

line_form : (number : ℕ) → IsForm (line_of number) line_bytes line_fits
line_form number = record { takes = line_takes; again = line_again }

abbrev lines_bytes : List PurchaseLine → List ℕ
lines_bytes lines = number_bytes 1 (length lines) ++ flat_map line_bytes lines

lines_take : (bytes : List ℕ) (lines : List PurchaseLine) (rest : List ℕ) → AreBytes bytes
    → counted_lines_at bytes ≡ Some (lines, rest)
    → Takes bytes (lines_bytes lines) rest × (fits 1 (length lines) ≡ true) × (list_all line_fits lines ≡ true)
unfolding counted_lines_at
lines_take bytes lines rest are is =
    let a = first_of (number_form 1) bytes _ (lines, rest) are is in
    let g = not_failed (ltb max_lines a.0) (lines_at a.0 a.1) (lines, rest) a.4 in
    let t = rows_takes line_of lines_of no_lines more_lines line_bytes (λ number. line_fits) (λ number. list_all line_fits)
    (λ number. refl) (λ number line lines. refl) line_form 0 a.0 a.1 lines rest a.2.are_bytes g.1 in
    let both = takes_both bytes (number_bytes 1 a.0) a.1 (flat_map line_bytes lines) rest a.2 t.0 in (
      subst (λ size. Takes bytes (number_bytes 1 size ++ flat_map line_bytes lines) rest) (sym t.2) both,
      subst (λ size. fits 1 size ≡ true) (sym t.2) a.3,
      t.1,
    )

lines_again : (lines : List PurchaseLine) (rest : List ℕ) → fits 1 (length lines) ≡ true → list_all line_fits lines ≡ true
    → ltb max_lines (length lines) ≡ false
    → counted_lines_at (number_bytes 1 (length lines) ++ (flat_map line_bytes lines ++ rest)) ≡ Some (lines, rest)
unfolding counted_lines_at
lines_again lines rest fit all few =
    rw ((number_form 1).again (length lines) (flat_map line_bytes lines ++ rest) fit, few)
    (rows_again line_of lines_of no_lines more_lines line_bytes (λ number. line_fits) (λ number. list_all line_fits)
    (λ number. refl) (λ number line lines. refl) line_form 0 lines rest all)

-- ---- purchases

purchase_takes : (bytes : List ℕ) (order : Purchase) (rest : List ℕ) → AreBytes bytes
    → purchase_at bytes ≡ Some (order, rest)
    → Takes bytes (purchase_bytes order) rest × (command_fits (commands.NewOrder order) ≡ true)
unfolding purchase_at
purchase_takes bytes order rest are is =
    let a = first_of (number_form 1) bytes _ (order, rest) are is in
    let b = first_of (number_form 1) a.1 _ (order, rest) a.2.are_bytes a.4 in
    let c = first_of (number_form 2) b.1 _ (order, rest) b.2.are_bytes b.4 in
    let d = first_of (number_form 8) c.1 _ (order, rest) c.2.are_bytes c.4 in
    let e = bind_some (counted_lines_at d.1) _ (order, rest) d.4 in
    let t = lines_take d.1 e.0.0 e.0.1 d.2.are_bytes e.1 in
    let made : Purchase = record { warehouse = a.0; district = b.0; customer = c.0; at = d.0; lines = e.0.0 } in
    let front = number_bytes 1 a.0 ++ number_bytes 1 b.0 ++ number_bytes 2 c.0 ++ number_bytes 8 d.0 in
    let both = takes_both _ _ _ _ _ (takes_both _ _ _ _ _ (takes_both _ _ _ _ _ (takes_both _ _ _ _ _ a.2 b.2) c.2) d.2) t.0 in
    let whole : Takes bytes (purchase_bytes made) e.0.1 =
    subst (λ text. Takes bytes text e.0.1)
    (sym (append_assoc front (number_bytes 1 (length e.0.0)) (flat_map line_bytes e.0.0))) both in
    subst (λ (p : Purchase × List ℕ). Takes bytes (purchase_bytes p.0) p.1 × (command_fits (commands.NewOrder p.0) ≡ true))
    (same_some (made, e.0.1) (order, rest) e.2)
    (whole, all_six _ _ _ _ _ _ a.3 b.3 c.3 d.3 t.1 t.2)

purchase_again : (order : Purchase) (rest : List ℕ) → command_fits (commands.NewOrder order) ≡ true
    → ltb max_lines (length order.lines) ≡ false → purchase_at (purchase_bytes order ++ rest) ≡ Some (order, rest)
unfolding purchase_at
purchase_again order rest fit few =
    let parts = six _ _ _ _ _ _ fit in
    let lines = number_bytes 1 (length order.lines) ++ (flat_map line_bytes order.lines ++ rest) in
    let regrouped : purchase_bytes order ++ rest
    ≡ number_bytes 1 order.warehouse ++ (number_bytes 1 order.district ++ (number_bytes 2 order.customer ++ (number_bytes 8 order.at
    ++ (number_bytes 1 (length order.lines) ++ (flat_map line_bytes order.lines ++ rest))))) =
    simp append_assoc in
    ap purchase_at regrouped
    ∙ rw (
      (number_form 1).again order.warehouse (number_bytes 1 order.district ++ (number_bytes 2 order.customer ++ (number_bytes 8 order.at ++ lines))) parts.0,
      (number_form 1).again order.district (number_bytes 2 order.customer ++ (number_bytes 8 order.at ++ lines)) parts.1,
      (number_form 2).again order.customer (number_bytes 8 order.at ++ lines) parts.2,
      (number_form 8).again order.at lines parts.3,
      lines_again order.lines rest parts.4 parts.5 few,
    ) refl

-- ---- payments

payment_takes : (bytes : List ℕ) (payment : Payment) (rest : List ℕ) → AreBytes bytes
    → payment_at bytes ≡ Some (payment, rest)
    → Takes bytes (payment_bytes payment) rest × (command_fits (commands.Payment payment) ≡ true)
unfolding payment_at
payment_takes bytes payment rest are is =
    let a = first_of (number_form 1) bytes _ (payment, rest) are is in
    let b = first_of (number_form 1) a.1 _ (payment, rest) a.2.are_bytes a.4 in
    let c = first_of (number_form 1) b.1 _ (payment, rest) b.2.are_bytes b.4 in
    let d = first_of (number_form 1) c.1 _ (payment, rest) c.2.are_bytes c.4 in
    let e = first_of who_form d.1 _ (payment, rest) d.2.are_bytes d.4 in
    let f = first_of (number_form 4) e.1 _ (payment, rest) e.2.are_bytes e.4 in
    let g = first_of (number_form 8) f.1 _ (payment, rest) f.2.are_bytes f.4 in
    let made : Payment = record {
      warehouse = a.0;
      district = b.0;
      customer_warehouse = c.0;
      customer_district = d.0;
      who = e.0;
      amount = f.0;
      at = g.0;
    } in
    let front = takes_both _ _ _ _ _ (takes_both _ _ _ _ _ (takes_both _ _ _ _ _ a.2 b.2) c.2) d.2 in
    let both = takes_both _ _ _ _ _ (takes_both _ _ _ _ _ (takes_both _ _ _ _ _ front e.2) f.2) g.2 in
    subst (λ (p : Payment × List ℕ). Takes bytes (payment_bytes p.0) p.1 × (command_fits (commands.Payment p.0) ≡ true))
    (same_some (made, g.1) (payment, rest) g.4)
    (both, all_seven _ _ _ _ _ _ _ a.3 b.3 c.3 d.3 e.3 f.3 g.3)

payment_again : (payment : Payment) (rest : List ℕ) → command_fits (commands.Payment payment) ≡ true
    → payment_at (payment_bytes payment ++ rest) ≡ Some (payment, rest)
unfolding payment_at
payment_again payment rest fit =
    let parts = seven _ _ _ _ _ _ _ fit in
    let sum = number_bytes 4 payment.amount ++ (number_bytes 8 payment.at ++ rest) in
    let customer = who_bytes payment.who ++ sum in
    let regrouped : payment_bytes payment ++ rest
    ≡ number_bytes 1 payment.warehouse ++ (number_bytes 1 payment.district ++ (number_bytes 1 payment.customer_warehouse
    ++ (number_bytes 1 payment.customer_district ++ (who_bytes payment.who ++ (number_bytes 4 payment.amount
    ++ (number_bytes 8 payment.at ++ rest)))))) =
    simp append_assoc in
    ap payment_at regrouped
    ∙ rw (
      (number_form 1).again payment.warehouse (number_bytes 1 payment.district ++ (number_bytes 1 payment.customer_warehouse ++ (number_bytes 1 payment.customer_district ++ customer))) parts.0,
      (number_form 1).again payment.district (number_bytes 1 payment.customer_warehouse ++ (number_bytes 1 payment.customer_district ++ customer)) parts.1,
      (number_form 1).again payment.customer_warehouse (number_bytes 1 payment.customer_district ++ customer) parts.2,
      (number_form 1).again payment.customer_district customer parts.3,
      who_again payment.who sum parts.4,
      (number_form 4).again payment.amount (number_bytes 8 payment.at ++ rest) parts.5,
      (number_form 8).again payment.at rest parts.6,
    ) refl

-- ---- commands

pub command_takes : (bytes : List ℕ) (command : Command) (rest : List ℕ) → AreBytes bytes
    → command_at bytes ≡ Some (command, rest) → Takes bytes (command_bytes command) rest × (command_fits command ≡ true)
unfolding command_at
command_takes [] command rest are is = absurd cc
command_takes (zero ∷ bytes) command rest are is = absurd cc
command_takes (suc zero ∷ bytes) command rest are is =
    let a = bind_some (purchase_at bytes) (λ order. Some (commands.NewOrder order.0, order.1)) (command, rest) is in
    let t = purchase_takes bytes a.0.0 a.0.1 (AreBytes-rest 1 bytes are) a.1 in
    subst (λ (p : Command × List ℕ). Takes (1 ∷ bytes) (command_bytes p.0) p.1 × (command_fits p.0 ≡ true))
    (same_some (commands.NewOrder a.0.0, a.0.1) (command, rest) a.2)
    (takes_byte 1 bytes (purchase_bytes a.0.0) a.0.1 t.0, t.1)
command_takes (suc (suc zero) ∷ bytes) command rest are is =
    let a = bind_some (payment_at bytes) (λ payment. Some (commands.Payment payment.0, payment.1)) (command, rest) is in
    let t = payment_takes bytes a.0.0 a.0.1 (AreBytes-rest 2 bytes are) a.1 in
    subst (λ (p : Command × List ℕ). Takes (2 ∷ bytes) (command_bytes p.0) p.1 × (command_fits p.0 ≡ true))
    (same_some (commands.Payment a.0.0, a.0.1) (command, rest) a.2)
    (takes_byte 2 bytes (payment_bytes a.0.0) a.0.1 t.0, t.1)
command_takes (suc (suc (suc zero)) ∷ bytes) command rest are is =
    let a = bind_some (delivery_at bytes) (λ delivery. Some (commands.Delivery delivery.0, delivery.1)) (command, rest) is in
    let t = delivery_takes bytes a.0.0 a.0.1 (AreBytes-rest 3 bytes are) a.1 in
    subst (λ (p : Command × List ℕ). Takes (3 ∷ bytes) (command_bytes p.0) p.1 × (command_fits p.0 ≡ true))
    (same_some (commands.Delivery a.0.0, a.0.1) (command, rest) a.2)
    (takes_byte 3 bytes (delivery_bytes a.0.0) a.0.1 t.0, t.1)
command_takes (suc (suc (suc (suc tag))) ∷ bytes) command rest are is = absurd cc

pub command_again : (command : Command) (rest : List ℕ) → command_fits command ≡ true → is_in_range command ≡ true
    → command_at (command_bytes command ++ rest) ≡ Some (command, rest)
unfolding command_at
command_again (commands.NewOrder order) rest fit in_range =
    let parts = three (is_between min_lines max_lines (length order.lines)) (list_all is_line_in_range order.lines)
    (is_moment order.at) in_range in
    let few : ltb max_lines (length order.lines) ≡ false =
    le-ltb _ _ (leb-true _ _ (and_parts (nat_le min_lines (length order.lines)) (nat_le (length order.lines) max_lines) parts.0).1) in
    rw (purchase_again order rest fit few) refl
command_again (commands.Payment payment) rest fit in_range = rw (payment_again payment rest fit) refl
command_again (commands.Delivery delivery) rest fit in_range = rw (delivery_again delivery rest fit) refl
command_again (commands.OrderStatus status) rest fit in_range = absurd cc
command_again (commands.StockLevel level) rest fit in_range = absurd cc

-- ---- how long they are

pub length-number_bytes : (width number : ℕ) → length (number_bytes width number) ≡ width
unfolding number_bytes
length-number_bytes width number = length-bytes_of width number

-- where each row has no more than so many bytes
pub length-rows : {Row : Type 0} (text : Row → List ℕ) (fit : Row → Bool) (most : ℕ)
    → ((row : Row) → fit row ≡ true → length (text row) ≤ most) → (rows : List Row) → list_all fit rows ≡ true
    → length (flat_map text rows) ≤ most * length rows
length-rows text fit most each [] fits = omega arith
length-rows text fit most each (row ∷ rows) fits =
    let parts = and_parts (fit row) (list_all fit rows) fits in
    let one = each row parts.0 in
    let others = length-rows text fit most each rows parts.1 in
    let whole : length (flat_map text (row ∷ rows)) ≡ length (text row) + length (flat_map text rows) =
    ap length (flat_map-cons text row rows) ∙ length-append (text row) (flat_map text rows) in
    omega arith

length-line : (line : PurchaseLine) → length (line_bytes line) ≡ 6
length-line line =
    simp (length-append, length-number_bytes) refl

length-who : (customer : Who) → is_who customer ≡ true → length (who_bytes customer) ≤ 18
length-who (who.Number number) in_range = omega (arith, length-number_bytes 2 number)
length-who (who.Last name) in_range =
    let short = leb-true _ _ (and_parts (nat_le (length name) max_name) (list_all (is_between 32 126) name) in_range).0 in
    omega (arith, length-append (number_bytes 1 (length name)) name, length-number_bytes 1 (length name))

pub length-command : (command : Command) → is_in_range command ≡ true → length (command_bytes command) ≤ 104
length-command (commands.NewOrder order) in_range =
    let parts = three (is_between min_lines max_lines (length order.lines)) (list_all is_line_in_range order.lines)
    (is_moment order.at) in_range in
    let few = leb-true _ _ (and_parts (nat_le min_lines (length order.lines)) (nat_le (length order.lines) max_lines) parts.0).1 in
    let lines = length-rows line_bytes is_line_in_range 6 (λ line fit. omega (arith, length-line line)) order.lines parts.1 in
    let whole : length (purchase_bytes order) ≡ 13 + length (flat_map line_bytes order.lines) =
    simp (length-append, length-number_bytes) refl in
    omega arith
length-command (commands.Payment payment) in_range =
    let parts = three (is_between min_payment max_payment payment.amount) (is_moment payment.at) (is_who payment.who) in_range in
    let customer = length-who payment.who parts.2 in
    let whole : length (payment_bytes payment) ≡ 4 + length (who_bytes payment.who) + 4 + 8 =
    simp (length-append, length-number_bytes) refl in
    omega arith
length-command (commands.Delivery delivery) in_range =
    let whole : length (delivery_bytes delivery) ≡ 10 = simp (length-append, length-number_bytes) refl in
    omega arith
length-command (commands.OrderStatus status) in_range = omega arith
length-command (commands.StockLevel level) in_range = omega arith
