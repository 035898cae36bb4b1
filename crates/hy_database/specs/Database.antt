-- What commands do to a database of several warehouses, and a database after a serial list of commits.
use Rattle.std.specs.Prelude.{ℕ, ◌+◌, ◌==◌, if◌then◌else◌, Option, None, Some, List, [], ◌∷◌, fold}
use Rattle.hy_rows.specs.Tables.{Lists, Tables, all_of}
use Rattle.hy_schema.specs.declared.refusal.Refusal.{Refusal}
use Rattle.hy_commands.specs.declared.command.Command.{Command}
use Rattle.hy_commands.specs.declared.command.Commit.{Commit}
use Rattle.hy_commands.specs.declared.command.Commit.TheVariants as commits
use Rattle.hy_commands.specs.declared.edition.Edition.{Edition}
use Rattle.hy_commands.specs.declared.reply.Reply.{Reply}
use Rattle.hy_commands.specs.declared.reply.Reply.TheVariants as replies
use Rattle.hy_commands.specs.Commands.{customer_home_of, home_of}
use Rattle.hy_commands.specs.Parts.{Database, by_number, database_of, part, refusal_in, rows_of}
use Rattle.hy_commands.specs.Transactions.{accepted, act}

-- ---- one command

-- the rows of each warehouse changed, where the first one has this number
abbrev pub each_changed : (ℕ → Tables → Tables) → ℕ → List Tables → List Tables
each_changed change number [] = []
each_changed change number (tables ∷ others) = change number tables ∷ each_changed change (number + 1) others

abbrev pub with_each : (ℕ → Tables → Tables) → Database → Database
with_each change database = record database { warehouses = each_changed change 1 database.warehouses }

-- a database in which each warehouse has done its part of a command, as the command stands; where the command is
-- refused, the database as it was
abbrev pub parts_done : Option Refusal → Edition → Command → Database → Database
parts_done (Some refusal) edition command database = database
parts_done None edition command database =
    with_each (λ number tables. part database.items number edition command tables) database

-- what is left of a command: the database after it, and the reply
pub record WholeOutcome : Type 0 where
  pub database : Database
  pub reply : Reply

-- the rows of the warehouse whose customer a command names
abbrev pub customer_rows : Command → Database → Tables
customer_rows command database = rows_of (customer_home_of command) database

-- the reply to an accepted command: that of the warehouse whose customer it names
abbrev pub reply_in : Database → Edition → Command → Reply
reply_in database edition command =
    (accepted database.items (customer_home_of command) edition command (customer_rows command database)).reply

-- a command as a database does and keeps it: the customer who pays is looked for once, and named by number
abbrev pub kept_in : Database → Command → Command
kept_in database command = by_number (customer_rows command database) command

-- each warehouse does its part of an accepted command, as it is kept; a refused one changes nothing
abbrev pub whole_outcome : Option Refusal → Edition → Command → Database → WholeOutcome
whole_outcome (Some refusal) edition command database = record { database = database; reply = replies.Refused refusal }
whole_outcome None edition command database = record {
  database = parts_done None edition (kept_in database command) database;
  reply = reply_in database edition command;
}

-- what a command of several warehouses does to a database
abbrev pub act_on_all : Edition → Command → Database → WholeOutcome
act_on_all edition command database = whole_outcome (refusal_in database command) edition command database

-- ---- lists of commits

-- the database after one commit, which is done by its edition. One of a single warehouse acts at its home alone. Of one
-- of several each warehouse does its part, and nobody looks for its customer again: there a payment by last name pays
-- nobody
abbrev pub committed_in : Database → Commit → Database
committed_in database (commits.Local edition command) =
    with_each (λ number tables.
    if home_of command == number then (act database.items number edition command tables).tables else tables) database
committed_in database (commits.Cross edition number command) =
    parts_done (refusal_in database command) edition command database

-- the database of a load after the commits
abbrev pub database_after : Lists → List Commit → Database
database_after lists commits = fold committed_in (database_of lists) commits

-- all rows of a database, those of its warehouses in rising order
abbrev pub all_rows : Database → Tables
all_rows database = all_of database.warehouses
