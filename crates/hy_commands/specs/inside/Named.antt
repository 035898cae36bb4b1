-- The warehouses that a command names, as they are found in it one after the other, and its customer, as it is lent.
use Rattle.std.specs.Prelude.{ℕ, ◌==◌, if◌then◌else◌, List, [], ◌∷◌, ◌++◌, map, take, drop}
use Rattle.std.specs.List.{list_any}
use Rattle.hy_commands.specs.declared.command.Command.{Command}
use Rattle.hy_commands.specs.declared.command.Command.TheVariants as commands
use Rattle.hy_commands.specs.declared.command.PurchaseLine.{PurchaseLine}
use Rattle.hy_commands.specs.declared.command.Who.{Who}
use Rattle.hy_commands.specs.declared.command.Who.TheVariants as who
use Rattle.hy_commands.specs.declared.customer.CustomerRef.{CustomerRef}
use Rattle.hy_commands.specs.declared.customer.WhoRef.{WhoRef}
use Rattle.hy_commands.specs.declared.customer.WhoRef.TheVariants as lent
use Rattle.hy_commands.specs.Commands.{CustomerName, home_of}

-- the numbers of warehouses that stand in a command: its home, and behind it who supplies each line, or where the customer is
abbrev pub numbers_in : Command → List ℕ
numbers_in (commands.NewOrder order) =
    order.warehouse ∷ map (λ (line : PurchaseLine). line.supply_warehouse) order.lines
numbers_in (commands.Payment payment) = payment.warehouse ∷ payment.customer_warehouse ∷ []
numbers_in command = home_of command ∷ []

-- the numbers of a list where they stand first, but for those that stand before it
abbrev pub firsts : List ℕ → List ℕ → List ℕ
firsts before [] = []
firsts before (number ∷ later) =
    if list_any (λ other. other == number) before then firsts (before ++ number ∷ []) later
    else number ∷ firsts (before ++ number ∷ []) later

-- those of a command that are named behind its first numbers
abbrev pub named_from : Command → ℕ → List ℕ
named_from command place = firsts (take place (numbers_in command)) (drop place (numbers_in command))

-- the customer that is lent
abbrev pub who_of : WhoRef → Who
who_of (lent.Number number) = who.Number number
who_of (lent.Last name) = who.Last name.now

abbrev pub name_of : CustomerRef → CustomerName
name_of customer =
    record { warehouse = customer.warehouse; district = customer.district; who = who_of customer.who }
