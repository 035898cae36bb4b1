-- A command on its way through its slices.
use Rattle.std.specs.Prelude.{◌≡◌, ℕ, ◌+◌, ◌==◌, ◌≤◌, ⊤, false, true, if◌then◌else◌, List, map, Option, None, Some, IfSome, MatchOption}
use Rattle.std.specs.List.{range_with_len}
use Rattle.hy_rows.specs.Tables.{Tables}
use Rattle.hy_commands.specs.declared.command.Command.{Command}
use Rattle.hy_commands.specs.declared.command.Command.TheVariants as commands
use Rattle.hy_commands.specs.declared.edition.Edition.{Edition}
use Rattle.hy_commands.specs.Deliveries.{oldest}
use Rattle.hy_commands.specs.Invariant.{IsSoundWarehouse}
use Rattle.hy_commands.specs.declared.reply.Reply.{Reply}
use Rattle.hy_commands.specs.Transactions.{accepted, has_customer}
use Rattle.hy_layout.specs.Layout.{IsMeantAt, KeepsPlaces, LayoutState, own_rows}
use Rattle.hy_slices.specs.Begun.{Begins, BeginsAlone}
use Rattle.hy_commands.specs.Commands.{customer_named, slice_count}
use Rattle.hy_slices.specs.Slices.{after_slices, has_items_before}
use Rattle.hy_writers.specs.of_store.Stored.{Stored}
use Rattle.hy_writers.specs.of_indexes.Indexes.{HasIndexes}
use Rattle.hy_writers.specs.Limits.{AreInBounds}

-- what an executor has noted of the command that runs: the place of the customer whom it names, and the orders that it has
-- delivered so far
pub record ExecutorState : Type 0 where
  pub layout : LayoutState
  pub place : ℕ
  pub delivered : List ℕ

-- the customer whom a command names stands at a place
abbrev pub HasCustomerAt : ℕ → Command → Tables → ℕ → Type 0
HasCustomerAt warehouse command tables place =
    IfSome (customer_named command)
    (λ customer. IsMeantAt warehouse customer.district customer.who tables.customers place)

-- the place is right in all rows that keep the places of the loaded ones
abbrev pub KnowsCustomer : LayoutState → Command → ℕ → Type 0
KnowsCustomer layout command place =
    (tables : Tables) → KeepsPlaces (own_rows layout) tables → HasCustomerAt layout.warehouse command tables place

-- the orders that the first slices of a delivery have delivered
abbrev pub delivered_before : ℕ → Tables → ℕ → List ℕ
delivered_before warehouse before done = map (λ district. oldest warehouse district before) (range_with_len 1 done)

-- the rows after the first slices of a command
abbrev pub rows_after : LayoutState → Edition → Command → ℕ → Tables → Tables
rows_after layout edition command done before =
    after_slices layout.load.items layout.warehouse edition command done before

-- no number outgrows its type in the slices of a command
abbrev pub StaysInBounds : LayoutState → Edition → Command → Tables → Type 0
StaysInBounds layout edition command before =
    (done : ℕ) → done ≤ slice_count command → has_items_before layout.load.items command done ≡ true
    → AreInBounds (rows_after layout edition command done before)

-- a command that the warehouse began with some rows, by itself or as its part of it
pub record IsBegun (layout : LayoutState) (edition : Edition) (command : Command) (place : ℕ) (before : Tables)
    : Type 0 where
  pub sound : IsSoundWarehouse layout.load.items layout.warehouse before
  pub begun : Begins layout.warehouse command before
  pub places : KeepsPlaces (own_rows layout) before
  pub bounds : StaysInBounds layout edition command before
  pub customer : KnowsCustomer layout command place

-- so many of its slices are done
pub record HasDone (layout : LayoutState) (edition : Edition) (command : Command) (place done : ℕ) (before : Tables)
    (s : Stored) : Type 0 where
  pub begun : IsBegun layout edition command place before
  pub rows : s.tables ≡ rows_after layout edition command done before
  pub known : has_items_before layout.load.items command done ≡ true
  pub indexes : HasIndexes s

-- so many slices of a command are done, in one edition or the other, which began with some rows
abbrev pub IsPartlyDone : LayoutState → Command → ℕ → ℕ → Stored → Type 0
IsPartlyDone layout command place done s =
    (edition : Edition) × (before : Tables) × HasDone layout edition command place done before s

-- whatever its edition and the rows that the command began with, one slice more is done
abbrev pub DoesSlice : LayoutState → Command → ℕ → ℕ → Stored → Stored → Type 0
DoesSlice layout command place done old new = (edition : Edition) (before : Tables)
    → HasDone layout edition command place done before old
    → HasDone layout edition command place (done + 1) before new

-- whatever these are, so many slices are done of a command of which none was
abbrev pub DoesSlices : LayoutState → Command → ℕ → ℕ → Stored → Stored → Type 0
DoesSlices layout command place done old new = (edition : Edition) (before : Tables)
    → HasDone layout edition command place 0 before old → HasDone layout edition command place done before new

-- a delivery that runs is noted with the orders that its slices have delivered
abbrev pub NotesDelivered : ℕ → Command → ℕ → Tables → List ℕ → Type 0
NotesDelivered warehouse (commands.Delivery delivery) done before delivered =
    delivered ≡ delivered_before warehouse before done
NotesDelivered warehouse command done before delivered = ⊤

-- an executor has done so many slices of a command, in an edition, that its warehouse began by itself with some rows, and
-- the store is what they leave
pub record IsUnderWay (executor : ExecutorState) (edition : Edition) (command : Command) (done : ℕ) (before : Tables)
    (s : Stored) : Type 0 where
  pub alone : BeginsAlone executor.layout.warehouse command before
  pub slices : HasDone executor.layout edition command executor.place done before s
  pub delivered : NotesDelivered executor.layout.warehouse command done before executor.delivered

-- what the next slice answers behind so many: the reply to the command behind its last one
abbrev pub answer_of : LayoutState → Edition → Command → ℕ → Tables → Option Reply
answer_of layout edition command done before =
    if done + 1 == slice_count command
    then Some (accepted layout.load.items layout.warehouse edition command before).reply else None

-- whatever the edition and the rows that the command began with, this is the answer of the slice behind so many
abbrev pub IsAnswer : LayoutState → Command → ℕ → ℕ → Stored → Option Reply → Type 0
IsAnswer layout command place done s reply = (edition : Edition) (before : Tables)
    → HasDone layout edition command place done before s → reply ≡ answer_of layout edition command done before

-- and this the reply to the command
abbrev pub IsReply : LayoutState → Command → ℕ → ℕ → Stored → Reply → Type 0
IsReply layout command place done s reply = (edition : Edition) (before : Tables)
    → HasDone layout edition command place done before s
    → reply ≡ (accepted layout.load.items layout.warehouse edition command before).reply

-- an executor has done so many slices of a command, in an edition, that its warehouse began with some rows
abbrev pub RunsCommand : ExecutorState → Edition → Command → ℕ → Stored → Type 0
RunsCommand executor edition command done s = (before : Tables) × IsUnderWay executor edition command done before s

-- whatever these rows were, one slice more is done
abbrev pub RunsSlice : ExecutorState → ExecutorState → Edition → Command → ℕ → Stored → Stored → Type 0
RunsSlice executor next edition command done old new = (before : Tables)
    → IsUnderWay executor edition command done before old → IsUnderWay next edition command (done + 1) before new

-- and this is the answer of the slice behind so many
abbrev pub AnswersSlice : ExecutorState → Edition → Command → ℕ → Stored → Option Reply → Type 0
AnswersSlice executor edition command done s reply =
    (before : Tables) → IsUnderWay executor edition command done before s
    → reply ≡ answer_of executor.layout edition command done before

-- the place of the customer whom a command names in some rows; none where there is no such customer
abbrev pub FindsCustomer : ℕ → Command → Tables → Option ℕ → Type 0
FindsCustomer warehouse command tables found =
    MatchOption found (has_customer command tables ≡ false)
    (λ place. (has_customer command tables ≡ true) × HasCustomerAt warehouse command tables place)
