-- What one warehouse does of a command over several warehouses.
use Rattle.std.specs.Prelude.{◌≡◌, ℕ, ◌==◌, nat_lt, false, true, if◌then◌else◌, List, length, Option, None, Some, MatchOption, fold}
use Rattle.std.specs.List.{list_any}
use Rattle.hy_rows.specs.Tables.{Tables}
use Rattle.hy_commands.specs.declared.command.Command.{Command}
use Rattle.hy_commands.specs.declared.command.PurchaseLine.{PurchaseLine}
use Rattle.hy_commands.specs.declared.edition.Edition.{Edition}
use Rattle.hy_commands.specs.declared.reply.Reply.{Reply}
use Rattle.hy_commands.specs.Commands.{customer_home_of, warehouses_of}
use Rattle.hy_commands.specs.Parts.{database_of, is_by_number, part, payer_number, refusal_in}
use Rattle.hy_commands.specs.Transactions.{accepted, has_customer}
use Rattle.hy_layout.specs.Layout.{LayoutState}
use Rattle.hy_writers.specs.of_store.Stored.{Stored}
use Rattle.hy_writers.specs.of_indexes.Indexes.{HasIndexes}
use Rattle.hy_writers.specs.Purchases.{with_line_sold}

-- a command names this warehouse and another one, and the database of the load doesn't refuse it; the customer who pays
-- is named by number. So it is a purchase or a payment
pub record HasPart (layout : LayoutState) (command : Command) : Type 0 where
  pub accepted : refusal_in (database_of layout.load) command ≡ None
  pub numbered : is_by_number command ≡ true
  pub named : list_any (λ named. named == layout.warehouse) (warehouses_of command) ≡ true
  pub crossing : nat_lt 1 (length (warehouses_of command)) ≡ true

-- the warehouse has done its part, and the indexes are those of the rows
pub record DoesPart (layout : LayoutState) (edition : Edition) (command : Command) (old new : Stored) : Type 0 where
  pub rows : new.tables ≡ part layout.load.items layout.warehouse edition command old.tables
  pub indexes : HasIndexes new

-- whatever the edition
abbrev pub DoesPartInEach : LayoutState → Command → Stored → Stored → Type 0
DoesPartInEach layout command old new = (edition : Edition) → DoesPart layout edition command old new

-- the store after lines of a purchase of another home, one after the other
abbrev pub with_lines_sold : ℕ → List PurchaseLine → Stored → Stored
with_lines_sold warehouse lines s = fold (λ s line. with_line_sold warehouse true line s) s lines

-- what the warehouse answers behind its part: the reply to the command, where the customer whom it names is one of here
abbrev pub reply_of_part : LayoutState → Edition → Command → Tables → Option Reply
reply_of_part layout edition command tables =
    if customer_home_of command == layout.warehouse
    then Some (accepted layout.load.items layout.warehouse edition command tables).reply else None

-- whatever the edition, this is what it answers
abbrev pub IsReplyInEach : LayoutState → Command → Tables → Option Reply → Type 0
IsReplyInEach layout command tables reply =
    (edition : Edition) → reply ≡ reply_of_part layout edition command tables

-- the number of the customer who pays, and 0 where nobody does; none where the customer whom a command names isn't
-- there
abbrev pub FindsPayer : Command → Tables → Option ℕ → Type 0
FindsPayer command tables found =
    MatchOption found (has_customer command tables ≡ false)
    (λ number. (has_customer command tables ≡ true) × (number ≡ payer_number tables command))
