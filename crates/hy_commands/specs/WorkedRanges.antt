-- Examples of the ranges of commands, at both ends, of what they and commits name and of what is kept of them; the checker
-- computes them.
use Rattle.std.specs.Prelude.{◌≡◌, ℕ, [], ◌∷◌, true, false, Some, None, map, replicate, refl}
use Rattle.hy_commands.specs.declared.command.Command.{Command}
use Rattle.hy_commands.specs.declared.command.Command.TheVariants as commands
use Rattle.hy_commands.specs.declared.command.Commit.TheVariants as commits
use Rattle.hy_commands.specs.declared.command.Who.TheVariants as who
use Rattle.hy_commands.specs.declared.edition.Edition.TheVariants as editions
use Rattle.hy_commands.specs.Commands.{are_items_up_to, cents_of, customer_home_of, customer_named, has_districts, is_in_range, is_line_in_range, is_marked, is_moment, is_name, is_named_at, kept_of, number_of, slice_count, warehouses_of, warehouses_of_commit}
use Rattle.hy_commands.specs.WorkedSample.{bought, level, payment, purchase}

-- ---- ranges

-- a purchase of so many lines, a delivery by a carrier, and Stock-Level with a threshold
abbrev of_lines : ℕ → Command
of_lines lines = purchase 1 (replicate lines (bought 1 1))

abbrev by_carrier : ℕ → Command
by_carrier carrier = commands.Delivery record { warehouse = 1; carrier = carrier; at = 1 }

abbrev below : ℕ → Command
below threshold = commands.StockLevel record { warehouse = 1; district = 1; threshold = threshold }

abbrev of_district : ℕ → Command
of_district district = purchase district (bought 1 1 ∷ [])

abbrev lines_in_range : map (λ lines. is_in_range (of_lines lines)) (4 ∷ 5 ∷ 15 ∷ 16 ∷ [])
    ≡ false ∷ true ∷ true ∷ false ∷ []
lines_in_range = refl

abbrev quantity_in_range : map (λ quantity. is_line_in_range (bought 1 quantity)) (0 ∷ 1 ∷ 10 ∷ 11 ∷ [])
    ≡ false ∷ true ∷ true ∷ false ∷ []
quantity_in_range = refl

abbrev carrier_in_range : map (λ carrier. is_in_range (by_carrier carrier)) (0 ∷ 1 ∷ 10 ∷ 11 ∷ [])
    ≡ false ∷ true ∷ true ∷ false ∷ []
carrier_in_range = refl

abbrev threshold_in_range : map (λ threshold. is_in_range (below threshold)) (9 ∷ 10 ∷ 20 ∷ 21 ∷ [])
    ≡ false ∷ true ∷ true ∷ false ∷ []
threshold_in_range = refl

abbrev amount_in_range : map (λ amount. is_in_range (payment (who.Number 1) amount)) (99 ∷ 100 ∷ 500_000 ∷ 500_001 ∷ [])
    ≡ false ∷ true ∷ true ∷ false ∷ []
amount_in_range = refl

abbrev moment_in_range : map is_moment (0 ∷ 1 ∷ 1_000_000_000_000_000 ∷ 1_000_000_000_000_001 ∷ [])
    ≡ false ∷ true ∷ true ∷ false ∷ []
moment_in_range = refl

abbrev name_length_in_range : map (λ length. is_name (replicate length 32)) (0 ∷ 16 ∷ 17 ∷ [])
    ≡ true ∷ true ∷ false ∷ []
name_length_in_range = refl

abbrev character_in_range : map (λ character. is_name (character ∷ [])) (31 ∷ 32 ∷ 126 ∷ 127 ∷ [])
    ≡ false ∷ true ∷ true ∷ false ∷ []
character_in_range = refl

-- ---- what is named, counted and kept

abbrev remote_purchase : Command
remote_purchase = commands.NewOrder record {
  warehouse = 3;
  district = 1;
  customer = 1;
  at = 1;
  lines =
      record { item = 1; supply_warehouse = 2; quantity = 1 } ∷ bought 2 1 ∷ bought 3 1
      ∷ record { item = 4; supply_warehouse = 3; quantity = 1 } ∷ record {
        item = 5;
        supply_warehouse = 2;
        quantity =
            1;
      } ∷ [];
}

abbrev named_warehouses : warehouses_of remote_purchase ≡ 3 ∷ 2 ∷ 1 ∷ []
named_warehouses = refl

abbrev named_places : map (is_named_at remote_purchase) (0 ∷ 1 ∷ 2 ∷ 3 ∷ []) ≡ true ∷ true ∷ true ∷ false ∷ []
named_places = refl

abbrev place_of_level : map (is_named_at level) (0 ∷ 1 ∷ []) ≡ true ∷ false ∷ []
place_of_level = refl

abbrev marked_places : map (is_marked (false ∷ true ∷ [])) (0 ∷ 1 ∷ 2 ∷ []) ≡ false ∷ true ∷ false ∷ []
marked_places = refl

-- a customer of another warehouse pays here, and one asks for the last order
abbrev remote_payment : Command
remote_payment = commands.Payment record {
  warehouse = 1;
  district = 5;
  customer_warehouse = 2;
  customer_district = 4;
  who = who.Number 3;
  amount = 100;
  at = 1;
}

abbrev asked : Command
asked = commands.OrderStatus record { warehouse = 1; district = 6; who = who.Number 7 }

abbrev named_customers : map customer_named (remote_purchase ∷ remote_payment ∷ asked ∷ by_carrier 1 ∷ level ∷ [])
    ≡ Some (record { warehouse = 3; district = 1; who = who.Number 1 })
    ∷ Some (record { warehouse = 2; district = 4; who = who.Number 3 })
    ∷ Some (record { warehouse = 1; district = 6; who = who.Number 7 }) ∷ None ∷ None ∷ []
named_customers = refl

abbrev homes_of_customers : map customer_home_of (remote_purchase ∷ remote_payment ∷ asked ∷ level ∷ []) ≡ 3 ∷ 2 ∷ 1 ∷ 1 ∷ []
homes_of_customers = refl

-- its items have the numbers 1 to 5
abbrev items_there : map (λ last. are_items_up_to last remote_purchase) (4 ∷ 5 ∷ []) ≡ false ∷ true ∷ []
items_there = refl

abbrev item_0_is_none : map (λ item. are_items_up_to 5 (purchase 1 (bought item 1 ∷ []))) (0 ∷ 1 ∷ []) ≡ false ∷ true ∷ []
item_0_is_none = refl

abbrev districts_there : map (λ district. has_districts (of_district district)) (0 ∷ 1 ∷ 10 ∷ 11 ∷ []) ≡ false ∷ true ∷ true ∷ false ∷ []
districts_there = refl

abbrev paid : map cents_of (remote_purchase ∷ remote_payment ∷ asked ∷ []) ≡ 0 ∷ 100 ∷ 0 ∷ []
paid = refl

abbrev slices : map slice_count (remote_purchase ∷ remote_payment ∷ asked ∷ by_carrier 1 ∷ level ∷ [])
    ≡ 6 ∷ 2 ∷ 1 ∷ 10 ∷ 1 ∷ []
slices = refl

abbrev kept_payment : kept_of editions.Second (payment (who.Number 1) 100) ≡ commits.Local editions.Second (payment (who.Number 1) 100) ∷ []
kept_payment = refl

abbrev kept_reader : kept_of editions.Second level ≡ []
kept_reader = refl

-- a commit of one warehouse, and the seventh of several
abbrev named_by_commits : map warehouses_of_commit (commits.Local editions.Second level ∷ commits.Cross editions.Second 7 remote_purchase ∷ [])
    ≡ (1 ∷ []) ∷ (3 ∷ 2 ∷ 1 ∷ []) ∷ []
named_by_commits = refl

abbrev numbers_of_commits : map number_of (commits.Local editions.Second level ∷ commits.Cross editions.Second 7 remote_purchase ∷ [])
    ≡ None ∷ Some 7 ∷ []
numbers_of_commits = refl
