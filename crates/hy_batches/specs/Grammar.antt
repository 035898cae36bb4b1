-- Which batches there are: what may stand in the list of each warehouse.
use Rattle.std.specs.Prelude.{ℕ, ◌+◌, ◌^◌, ◌==◌, Bool, true, false, not, ◌&&◌, nat_le, nat_lt, IsTrue, List, [], ◌∷◌, length}
use Rattle.std.specs.List.{list_all, list_any}
use Rattle.hy_rows.specs.Limits.{max_warehouses}
use Rattle.hy_rows.specs.Ranges.{is_between}
use Rattle.hy_commands.specs.declared.command.Command.{Command}
use Rattle.hy_commands.specs.declared.command.Command.TheVariants as commands
use Rattle.hy_commands.specs.declared.command.Commit.{Commit}
use Rattle.hy_commands.specs.declared.command.Commit.TheVariants as commits
use Rattle.hy_commands.specs.declared.command.PurchaseLine.{PurchaseLine}
use Rattle.hy_commands.specs.declared.command.Who.{Who}
use Rattle.hy_commands.specs.declared.command.Who.TheVariants as who
use Rattle.hy_commands.specs.declared.edition.Edition.{Edition}
use Rattle.hy_commands.specs.declared.edition.Edition.TheVariants as editions
use Rattle.hy_commands.specs.Commands.{edition_of, is_in_range, warehouses_of}
use Rattle.hy_commands.specs.Parts.{is_by_number}
use Rattle.hy_batches.specs.Batches.{Batch, is_edition, may_follow}

-- ---- values

-- whether a number can be told by so many bytes
abbrev pub fits : ℕ → ℕ → Bool
fits width number = nat_lt number (256 ^ width)

abbrev pub who_fits : Who → Bool
who_fits (who.Number number) = fits 2 number
who_fits (who.Last name) = fits 1 (length name)

abbrev pub line_fits : PurchaseLine → Bool
line_fits line = fits 4 line.item && fits 1 line.supply_warehouse && fits 1 line.quantity

-- whether each value of a command can be told by its bytes. A command that only reads has none
abbrev pub command_fits : Command → Bool
command_fits (commands.NewOrder order) =
    fits 1 order.warehouse && fits 1 order.district && fits 2 order.customer && fits 8 order.at
    && fits 1 (length order.lines) && list_all line_fits order.lines
command_fits (commands.Payment payment) =
    fits 1 payment.warehouse && fits 1 payment.district && fits 1 payment.customer_warehouse
    && fits 1 payment.customer_district && who_fits payment.who && fits 4 payment.amount && fits 8 payment.at
command_fits (commands.Delivery delivery) =
    fits 1 delivery.warehouse && fits 1 delivery.carrier && fits 8 delivery.at
command_fits command = false

-- ---- commits

-- whether a command names a warehouse, and whether it names two or more
abbrev pub names : Command → ℕ → Bool
names command warehouse = list_any (λ named. named == warehouse) (warehouses_of command)

abbrev pub names_several : Command → Bool
names_several command = nat_lt 1 (length (warehouses_of command))

-- whether a commit may stand in the list of a warehouse: its values are in range; a command of one warehouse names this
-- one; a command of several names this one too, has a number from 1, and names a customer who pays by number
abbrev pub is_allowed : ℕ → Commit → Bool
is_allowed warehouse (commits.Local edition command) =
    is_in_range command && names command warehouse && not (names_several command)
is_allowed warehouse (commits.Cross edition number command) =
    is_in_range command && names command warehouse && names_several command && nat_le 1 number && is_by_number command

-- whether its values can be told by their bytes
abbrev pub commit_fits : Commit → Bool
commit_fits (commits.Local edition command) = command_fits command
commit_fits (commits.Cross edition number command) = fits 8 number && command_fits command

-- whether it may stand there in a batch of an edition: it is of that one
abbrev pub is_commit : Edition → ℕ → Commit → Bool
is_commit edition warehouse commit =
    is_edition (edition_of commit) edition && is_allowed warehouse commit && commit_fits commit

-- ---- batches

-- the commits of a warehouse, and those of the warehouses from a number on
abbrev pub is_list : Edition → ℕ → List Commit → Bool
is_list edition warehouse commits = fits 4 (length commits) && list_all (is_commit edition warehouse) commits

abbrev pub are_lists : Edition → ℕ → List (List Commit) → Bool
are_lists edition warehouse [] = true
are_lists edition warehouse (commits ∷ lists) =
    is_list edition warehouse commits && are_lists edition (warehouse + 1) lists

-- a batch has a list for each of 1 to 16 warehouses, of commits of its edition
abbrev pub is_batch : Batch → Bool
is_batch batch = is_between 1 max_warehouses (length batch.lists) && are_lists batch.edition 1 batch.lists

abbrev pub IsBatch : Batch → Type 0
IsBatch batch = IsTrue (is_batch batch)

-- the batches that may stand one behind another, behind one of an edition
abbrev pub are_batches_behind : Edition → List Batch → Bool
are_batches_behind edition [] = true
are_batches_behind edition (batch ∷ batches) =
    is_batch batch && may_follow edition batch.edition && are_batches_behind batch.edition batches

-- those of a log: first those of the first edition, and then those of the second
abbrev pub are_batches : List Batch → Bool
are_batches batches = are_batches_behind editions.First batches

-- the edition of the last of them, or of one that stands before them
abbrev pub last_edition : Edition → List Batch → Edition
last_edition edition [] = edition
last_edition edition (batch ∷ batches) = last_edition batch.edition batches
