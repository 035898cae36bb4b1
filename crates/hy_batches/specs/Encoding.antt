-- The bytes of batches of commits. Each number has its lowest byte first.
use Rattle.std.specs.Prelude.{ℕ, List, [], ◌∷◌, ◌++◌, length}
use Rattle.std.specs.List.{flat_map}
use Rattle.hy_page.specs.Bytes.{bytes_of}
use Rattle.hy_commands.specs.declared.command.Command.{Command}
use Rattle.hy_commands.specs.declared.command.Command.TheVariants as commands
use Rattle.hy_commands.specs.declared.command.Commit.{Commit}
use Rattle.hy_commands.specs.declared.command.Commit.TheVariants as commits
use Rattle.hy_commands.specs.declared.command.Delivery.{Delivery}
use Rattle.hy_commands.specs.declared.command.Payment.{Payment}
use Rattle.hy_commands.specs.declared.command.Purchase.{Purchase}
use Rattle.hy_commands.specs.declared.command.PurchaseLine.{PurchaseLine}
use Rattle.hy_commands.specs.declared.command.Who.{Who}
use Rattle.hy_commands.specs.declared.command.Who.TheVariants as who
use Rattle.hy_commands.specs.declared.edition.Edition.{Edition}
use Rattle.hy_commands.specs.declared.edition.Edition.TheVariants as editions
use Rattle.hy_batches.specs.Batches.{Batch}

-- a number in so many bytes
unfoldable pub number_bytes : ℕ → ℕ → List ℕ
number_bytes width number = bytes_of width number

-- ---- commands

-- a customer: 00 and the number, or 01, the length of the last name and the name
abbrev pub who_bytes : Who → List ℕ
who_bytes (who.Number number) = 0 ∷ number_bytes 2 number
who_bytes (who.Last name) = 1 ∷ number_bytes 1 (length name) ++ name

abbrev pub line_bytes : PurchaseLine → List ℕ
line_bytes line = number_bytes 4 line.item ++ number_bytes 1 line.supply_warehouse ++ number_bytes 1 line.quantity

abbrev pub purchase_bytes : Purchase → List ℕ
purchase_bytes order =
    number_bytes 1 order.warehouse ++ number_bytes 1 order.district ++ number_bytes 2 order.customer
    ++ number_bytes 8 order.at ++ number_bytes 1 (length order.lines) ++ flat_map line_bytes order.lines

abbrev pub payment_bytes : Payment → List ℕ
payment_bytes payment =
    number_bytes 1 payment.warehouse ++ number_bytes 1 payment.district ++ number_bytes 1 payment.customer_warehouse
    ++ number_bytes 1 payment.customer_district ++ who_bytes payment.who ++ number_bytes 4 payment.amount
    ++ number_bytes 8 payment.at

abbrev pub delivery_bytes : Delivery → List ℕ
delivery_bytes delivery =
    number_bytes 1 delivery.warehouse ++ number_bytes 1 delivery.carrier ++ number_bytes 8 delivery.at

-- a command: 01, 02 or 03 and its values. One that only reads has no bytes, and stands in no batch
abbrev pub command_bytes : Command → List ℕ
command_bytes (commands.NewOrder order) = 1 ∷ purchase_bytes order
command_bytes (commands.Payment payment) = 2 ∷ payment_bytes payment
command_bytes (commands.Delivery delivery) = 3 ∷ delivery_bytes delivery
command_bytes command = []

-- ---- batches

-- a commit: 00, or 01 and its number among those of several warehouses, and then its command. Its edition is the batch's
abbrev pub commit_bytes : Commit → List ℕ
commit_bytes (commits.Local edition command) = 0 ∷ command_bytes command
commit_bytes (commits.Cross edition number command) = 1 ∷ number_bytes 8 number ++ command_bytes command

-- the commits of a warehouse: how many they are, and they
abbrev pub list_bytes : List Commit → List ℕ
list_bytes commits = number_bytes 4 (length commits) ++ flat_map commit_bytes commits

-- the lists of all warehouses in rising order: how many they are, and they
abbrev pub content_bytes : List (List Commit) → List ℕ
content_bytes lists = number_bytes 1 (length lists) ++ flat_map list_bytes lists

-- HYB1 or HYB2, which tells the edition
abbrev pub mark : Edition → List ℕ
mark editions.First = 72 ∷ 89 ∷ 66 ∷ 49 ∷ []
mark editions.Second = 72 ∷ 89 ∷ 66 ∷ 50 ∷ []

-- a batch: the mark, the length of the content, the content, and 45 in hexadecimal
abbrev pub batch_bytes : Batch → List ℕ
batch_bytes batch =
    mark batch.edition ++ number_bytes 8 (length (content_bytes batch.lists)) ++ content_bytes batch.lists ++ 69 ∷ []

-- batches one behind another
abbrev pub log_bytes : List Batch → List ℕ
log_bytes batches = flat_map batch_bytes batches
