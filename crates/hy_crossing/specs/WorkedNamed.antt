-- Examples of the places that commands name; the checker computes them.
use Rattle.std.specs.Prelude.{◌≡◌, ℕ, [], ◌∷◌, List, map, refl}
use Rattle.hy_commands.specs.declared.command.Command.{Command}
use Rattle.hy_commands.specs.declared.command.Command.TheVariants as commands
use Rattle.hy_commands.specs.declared.command.PurchaseLine.{PurchaseLine}
use Rattle.hy_commands.specs.declared.command.Who.TheVariants as who
use Rattle.hy_commands.specs.Commands.{warehouses_of}
use Rattle.hy_crossing.specs.Named.{places_before, places_of}

-- a purchase at a warehouse, of an item from each of some others
abbrev from_each : List ℕ → List PurchaseLine
from_each suppliers = map (λ supplier. record { item = 1; supply_warehouse = supplier; quantity = 1 }) suppliers

abbrev purchase_from : ℕ → List ℕ → Command
purchase_from home suppliers =
    commands.NewOrder record { warehouse = home; district = 1; customer = 1; at = 1; lines = from_each suppliers }

-- a customer of a warehouse pays at another one
abbrev payment_at : ℕ → ℕ → Command
payment_at home customer_home = commands.Payment record {
  warehouse = home;
  district = 1;
  customer_warehouse = customer_home;
  customer_district = 1;
  who = who.Number 1;
  amount = 100;
  at = 1;
}

-- the home is among them though it supplies nothing, and one that supplies twice is there once
abbrev named_by_purchase : warehouses_of (purchase_from 3 (16 ∷ 5 ∷ 1 ∷ 5 ∷ [])) ≡ 3 ∷ 16 ∷ 5 ∷ 1 ∷ []
named_by_purchase = refl

abbrev places_of_purchase : places_of (purchase_from 3 (16 ∷ 5 ∷ 1 ∷ 5 ∷ [])) ≡ 0 ∷ 2 ∷ 4 ∷ 15 ∷ []
places_of_purchase = refl

abbrev places_of_payment : map (places_of) (payment_at 2 1 ∷ payment_at 1 2 ∷ payment_at 4 4 ∷ [])
    ≡ (0 ∷ 1 ∷ []) ∷ (0 ∷ 1 ∷ []) ∷ (3 ∷ []) ∷ []
places_of_payment = refl

-- numbers that no warehouse has give no place
abbrev places_of_others : places_of (purchase_from 2 (0 ∷ 17 ∷ 18 ∷ [])) ≡ 1 ∷ []
places_of_others = refl

-- the warehouse behind the first ones isn't among them
abbrev places_of_first : map (places_before (purchase_from 3 (16 ∷ 5 ∷ 1 ∷ [])))
    (0 ∷ 1 ∷ 2 ∷ 3 ∷ 4 ∷ 5 ∷ [])
    ≡ [] ∷ (0 ∷ []) ∷ (0 ∷ []) ∷ (0 ∷ 2 ∷ []) ∷ (0 ∷ 2 ∷ []) ∷ (0 ∷ 2 ∷ 4 ∷ []) ∷ []
places_of_first = refl
