-- A command that a warehouse begins, by itself or as its part of it, and the items that its slices ask for.
use Rattle.std.specs.Prelude.{◌≡◌, ◌≢◌, ℕ, ◌+◌, ◌<◌, ◌≤◌, ◌⊎◌, true, List, None, length, All}
use Rattle.hy_rows.specs.declared.item.Item.{Item}
use Rattle.hy_rows.specs.Limits.{max_warehouses}
use Rattle.hy_rows.specs.Ranges.{IsBetween}
use Rattle.hy_rows.specs.Tables.{Lists, Tables}
use Rattle.hy_schema.specs.Loads.{IsLoad}
use Rattle.hy_commands.specs.declared.command.Command.{Command}
use Rattle.hy_commands.specs.declared.command.Command.TheVariants as commands
use Rattle.hy_commands.specs.declared.command.Commit.{Commit}
use Rattle.hy_commands.specs.declared.command.Delivery.{Delivery}
use Rattle.hy_commands.specs.declared.command.Purchase.{Purchase}
use Rattle.hy_commands.specs.declared.edition.Edition.{Edition}
use Rattle.hy_commands.specs.Commands.{has_districts, is_in_range, slice_count}
use Rattle.hy_commands.specs.Invariant.{IsSoundWarehouse}
use Rattle.hy_commands.specs.NewOrders.{order_number}
use Rattle.hy_commands.specs.Replay.{HasWarehouse, rows_after}
use Rattle.hy_commands.specs.Transactions.{begin_refusal_of, has_customer}
use Rattle.hy_slices.specs.Between.{IsLineBefore}
use Rattle.hy_slices.specs.Slices.{after_slices, has_item_at, has_items_before}

-- the warehouse begins the command by itself: if anything refuses it then, it is an item that isn't there
abbrev pub BeginsAlone : ℕ → Command → Tables → Type 0
BeginsAlone number command tables = begin_refusal_of number command tables ≡ None

-- the warehouse is the home of a purchase, of which any warehouses supply the lines; its values are in range, and its
-- district and its customer are there
pub record IsHomeOf (number : ℕ) (order : Purchase) (tables : Tables) : Type 0 where
  pub home : order.warehouse ≡ number
  pub in_range : is_in_range (commands.NewOrder order) ≡ true
  pub districts : has_districts (commands.NewOrder order) ≡ true
  pub customer : has_customer (commands.NewOrder order) tables ≡ true
  pub suppliers : All (λ line. line.supply_warehouse ≤ max_warehouses) order.lines

-- the warehouse begins its part of a command over several warehouses: it is the home of a purchase
abbrev pub BeginsPart : ℕ → Command → Tables → Type 0
BeginsPart number (commands.NewOrder order) tables = IsHomeOf number order tables
BeginsPart number command tables = ⊥

-- it begins the command by itself, or its part of it
abbrev pub Begins : ℕ → Command → Tables → Type 0
Begins number command tables = BeginsAlone number command tables ⊎ BeginsPart number command tables

-- the items that its first slices ask for are there, and those of all its slices
abbrev pub HasItemsBefore : List Item → Command → ℕ → Type 0
HasItemsBefore items command done = has_items_before items command done ≡ true

abbrev pub HasAllItems : List Item → Command → Type 0
HasAllItems items command = HasItemsBefore items command (slice_count command)

-- the next slice behind so many asks for an item that isn't there
pub record LacksItemAt (items : List Item) (command : Command) (done : ℕ) : Type 0 where
  pub is_slice : done < slice_count command
  pub lacks : has_item_at items command done ≢ true

-- a warehouse with sound rows begins a command, of which so many slices are done then
pub record IsUnderWay (items : List Item) (number : ℕ) (command : Command) (done : ℕ) (tables : Tables)
    : Type 0 where
  pub sound : IsSoundWarehouse items number tables
  pub begins : Begins number command tables
  pub within : done ≤ slice_count command
  pub known : HasItemsBefore items command done

-- ---- purchases

-- the rows behind the head of a purchase and so many of its lines
abbrev pub after_lines : List Item → ℕ → Edition → Purchase → ℕ → Tables → Tables
after_lines items number edition order lines tables =
    after_slices items number edition (commands.NewOrder order) (lines + 1) tables

-- a warehouse with sound rows begins a purchase, which has so many lines at least
pub record PlacesLines (items : List Item) (number : ℕ) (order : Purchase) (lines : ℕ) (tables : Tables)
    : Type 0 where
  pub sound : IsSoundWarehouse items number tables
  pub begins : Begins number (commands.NewOrder order) tables
  pub within : lines ≤ length order.lines

-- the items of its first lines are there
abbrev pub HasItemsOfLines : List Item → Purchase → ℕ → Type 0
HasItemsOfLines items order lines = HasItemsBefore items (commands.NewOrder order) (lines + 1)

-- of a purchase that gets its number from the rows before it, the rows have the first lines and no other
abbrev pub AreLinesBefore : Purchase → ℕ → Tables → Tables → Type 0
AreLinesBefore order lines before tables = All (IsLineBefore order (order_number order before) lines) tables.order_lines

-- ---- deliveries

-- the rows behind the first districts of a delivery
abbrev pub after_districts : List Item → ℕ → Edition → Delivery → ℕ → Tables → Tables
after_districts items number edition delivery done tables =
    after_slices items number edition (commands.Delivery delivery) done tables

-- a warehouse with sound rows begins a delivery, of which so many districts are done before this one
pub record DeliversBefore (items : List Item) (number : ℕ) (delivery : Delivery) (done district : ℕ) (tables : Tables)
    : Type 0 where
  pub sound : IsSoundWarehouse items number tables
  pub begins : BeginsAlone number (commands.Delivery delivery) tables
  pub before : done < district
  pub between : IsBetween 1 10 district

-- ---- behind commits

-- a warehouse of a load begins a command behind a list of commits, and so many of its slices are done
pub record IsBegunBehind (lists : Lists) (number : ℕ) (commits : List Commit) (command : Command) (done : ℕ)
    : Type 0 where
  pub load : IsLoad lists
  pub warehouse : HasWarehouse lists number
  pub begins : Begins number command (rows_after lists number commits)
  pub within : done ≤ slice_count command
  pub known : HasItemsBefore lists.items command done
