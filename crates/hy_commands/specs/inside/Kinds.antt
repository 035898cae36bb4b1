-- Kinds of commands: those in which nobody pays, and those that name their home alone. A law that holds for each kind is
-- proved for each kind, and a further command is told its kind here, once.
use Rattle.std.proofs.Common.{◌≡◌, ℕ, true, [], ◌∷◌, refl}
use Rattle.std.specs.Prelude.{IfSome}
use Rattle.std.proofs.lemmas.Bool.{and_parts}
use Rattle.hy_rows.specs.Tables.{Tables}
use Rattle.hy_commands.specs.declared.command.Command.{Command}
use Rattle.hy_commands.specs.declared.command.Command.TheVariants as commands
use Rattle.hy_commands.specs.declared.command.Payment.{Payment}
use Rattle.hy_commands.specs.declared.command.Purchase.{Purchase}
use Rattle.hy_commands.specs.Commands.{cents_of, customer_home_of, customer_named, has_districts, home_of, is_district_number, warehouses_of}
use Rattle.hy_commands.specs.Parts.{is_by_number, payer_number, with_number}
use Rattle.hy_commands.specs.inside.Named.{numbers_in}

-- nobody pays in a command
pub record NobodyPays (command : Command) : Type 0 where
  pub same : (number : ℕ) → with_number number command ≡ command
  pub payer : (tables : Tables) → payer_number tables command ≡ 0
  pub by_number : is_by_number command ≡ true
  pub customer_home : customer_home_of command ≡ home_of command
  pub cents : cents_of command ≡ 0

pub by_payment : (P : Command → Type 0) → ((payment : Payment) → P (commands.Payment payment))
    → ((command : Command) → NobodyPays command → P command) → (command : Command) → P command
by_payment P pays nobody (commands.NewOrder order) = nobody (commands.NewOrder order) record {
  same = λ number. refl;
  payer = λ tables. refl;
  by_number = refl;
  customer_home = refl;
  cents = refl;
}
by_payment P pays nobody (commands.Payment payment) = pays payment
by_payment P pays nobody (commands.OrderStatus status) = nobody (commands.OrderStatus status) record {
  same = λ number. refl;
  payer = λ tables. refl;
  by_number = refl;
  customer_home = refl;
  cents = refl;
}
by_payment P pays nobody (commands.Delivery delivery) = nobody (commands.Delivery delivery) record {
  same = λ number. refl;
  payer = λ tables. refl;
  by_number = refl;
  customer_home = refl;
  cents = refl;
}
by_payment P pays nobody (commands.StockLevel level) = nobody (commands.StockLevel level) record {
  same = λ number. refl;
  payer = λ tables. refl;
  by_number = refl;
  customer_home = refl;
  cents = refl;
}

-- a command names no warehouse but its home, and has its number once
pub record NamesItsHome (command : Command) : Type 0 where
  pub warehouses : warehouses_of command ≡ home_of command ∷ []
  pub numbers : numbers_in command ≡ home_of command ∷ []

pub by_several : (P : Command → Type 0) → ((order : Purchase) → P (commands.NewOrder order))
    → ((payment : Payment) → P (commands.Payment payment))
    → ((command : Command) → NamesItsHome command → P command) → (command : Command) → P command
by_several P orders pays home (commands.NewOrder order) = orders order
by_several P orders pays home (commands.Payment payment) = pays payment
by_several P orders pays home (commands.OrderStatus status) =
    home (commands.OrderStatus status) record { warehouses = refl; numbers = refl }
by_several P orders pays home (commands.Delivery delivery) =
    home (commands.Delivery delivery) record { warehouses = refl; numbers = refl }
by_several P orders pays home (commands.StockLevel level) =
    home (commands.StockLevel level) record { warehouses = refl; numbers = refl }

-- the district of the customer whom a command names is one of those that it names
pub named-district : (command : Command) → has_districts command ≡ true
    → IfSome (customer_named command) (λ customer. is_district_number customer.district ≡ true)
named-district (commands.NewOrder order) there = there
named-district (commands.Payment payment) there =
    (and_parts (is_district_number payment.district) (is_district_number payment.customer_district) there).1
named-district (commands.OrderStatus status) there = there
named-district (commands.Delivery delivery) there = tt
named-district (commands.StockLevel level) there = tt
