-- Which warehouses have a part in a command over several of them, and what each answers; the checker computes them.
use Rattle.std.specs.Prelude.{◌≡◌, ℕ, negsuc, None, Some, List, [], ◌∷◌, codes, map, refl}
use Rattle.hy_rows.specs.declared.customer.Customer.{Customer}
use Rattle.hy_rows.specs.declared.warehouse.Warehouse.{Warehouse}
use Rattle.hy_rows.specs.Tables.{Lists, Tables, no_rows, of_warehouse}
use Rattle.hy_commands.specs.declared.command.Command.{Command}
use Rattle.hy_commands.specs.declared.command.Command.TheVariants as commands
use Rattle.hy_commands.specs.declared.command.Who.{Who}
use Rattle.hy_commands.specs.declared.command.Who.TheVariants as who
use Rattle.hy_commands.specs.declared.edition.Edition.TheVariants as editions
use Rattle.hy_commands.specs.declared.reply.Reply.TheVariants as replies
use Rattle.hy_commands.specs.WorkedSample.{bought, customer, district, items, warehouse}
use Rattle.hy_layout.specs.Layout.{LayoutState}
use Rattle.hy_tpcc.specs.Parts.{FindsPayer, HasPart, reply_of_part}

-- ---- three warehouses, each with customers 1 and 2 of district 1, which warehouse 1 alone has

abbrev numbers : List ℕ
numbers = 1 ∷ 2 ∷ 3 ∷ []

abbrev one_of : ℕ → Customer
one_of number = record (customer 1 1 (codes "ONE") (codes "A")) { warehouse = number }

abbrev two_of : ℕ → Customer
two_of number = record (customer 1 2 (codes "TWO") (codes "B")) { warehouse = number }

abbrev load : Lists
load = record {
  items = items;
  tables = record no_rows {
    warehouses = map {A = ℕ} {B = Warehouse} (λ number. record warehouse { id = number }) numbers;
    districts = district 1 ∷ [];
    customers = one_of 1 ∷ two_of 1 ∷ one_of 2 ∷ two_of 2 ∷ one_of 3 ∷ two_of 3 ∷ [];
  };
}

abbrev layout : ℕ → LayoutState
layout number = record { load = load; warehouse = number }

abbrev rows : ℕ → Tables
rows number = of_warehouse number load.tables

-- ---- a purchase at warehouse 1, of which warehouse 2 supplies the first line

abbrev purchase_with : ℕ → ℕ → Command
purchase_with supplier item = commands.NewOrder record {
  warehouse = 1;
  district = 1;
  customer = 2;
  at = 6;
  lines =
      record { item = item; supply_warehouse = supplier; quantity = 5 } ∷ bought 2 5 ∷ bought 3 5 ∷ bought 4 5
      ∷ bought 5 5 ∷ [];
}

at_home : HasPart (layout 1) (purchase_with 2 1)
at_home = record { accepted = refl; numbered = refl; named = refl; crossing = refl }

at_supplier : HasPart (layout 2) (purchase_with 2 1)
at_supplier = record { accepted = refl; numbered = refl; named = refl; crossing = refl }

-- warehouse 3 isn't named, and nobody has a part in a purchase that names one warehouse, or an item that isn't there
not_named : HasPart (layout 3) (purchase_with 2 1) → ⊥
not_named part = let named = part.named in absurd (cc)

not_crossing : HasPart (layout 1) (purchase_with 1 1) → ⊥
not_crossing part = let crossing = part.crossing in absurd (cc)

not_accepted : HasPart (layout 2) (purchase_with 2 21) → ⊥
not_accepted part = let accepted = part.accepted in absurd (cc)

-- the home answers: 5 times 137, 174, 211, 248 and 285 cents, less 2 in a hundred, and 6 in a hundred more
home_answers : reply_of_part (layout 1) editions.Second (purchase_with 2 1) (rows 1) ≡ Some (replies.NewOrder 1 5_480)
home_answers = refl

supplier_is_silent : reply_of_part (layout 2) editions.Second (purchase_with 2 1) (rows 2) ≡ None
supplier_is_silent = refl

-- ---- a payment at warehouse 1 by a customer of warehouse 2

abbrev payment_by : Who → Command
payment_by whom = commands.Payment record {
  warehouse = 1;
  district = 3;
  customer_warehouse = 2;
  customer_district = 1;
  who = whom;
  amount = 100;
  at = 7;
}

paid_at_home : HasPart (layout 1) (payment_by (who.Number 2))
paid_at_home = record { accepted = refl; numbered = refl; named = refl; crossing = refl }

paid_by_customer : HasPart (layout 2) (payment_by (who.Number 2))
paid_by_customer = record { accepted = refl; numbered = refl; named = refl; crossing = refl }

-- by last name it isn't done; the customer's warehouse finds the number
not_numbered : HasPart (layout 2) (payment_by (who.Last (codes "TWO"))) → ⊥
not_numbered part = let numbered = part.numbered in absurd (cc)

finds_two : FindsPayer (payment_by (who.Last (codes "TWO"))) (rows 2) (Some 2)
finds_two = (refl, refl)

finds_no_other : FindsPayer (payment_by (who.Last (codes "TWO"))) (rows 2) (Some 1) → ⊥
finds_no_other found = let number = found.1 in absurd (cc)

finds_none : FindsPayer (payment_by (who.Number 3)) (rows 2) None
finds_none = refl

-- the customer's warehouse answers, and the home doesn't
home_is_silent : reply_of_part (layout 1) editions.Second (payment_by (who.Number 2)) (rows 1) ≡ None
home_is_silent = refl

customer_answers : reply_of_part (layout 2) editions.Second (payment_by (who.Number 2)) (rows 2)
    ≡ Some (replies.Payment 2 (negsuc 1_099))
customer_answers = refl
