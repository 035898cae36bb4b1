-- What a storm comes to.
use Rattle.std.specs.Prelude.{◌≡◌, ◌≤◌, pos, Option, None, IfSome, List}
use Rattle.hy_rows.specs.Tables.{Lists}
use Rattle.hy_schema.specs.Conditions.{first_broken}
use Rattle.hy_commands.specs.Commands.{number_of, warehouses_of_commit}
use Rattle.hy_passes.specs.SerialList.{IsSerial}
use Rattle.hy_session.specs.of_partition.Jobs.{Log}
use Rattle.hy_session.specs.of_crossing.Crossings.{database_behind}
use Rattle.hy_database.specs.Database.{all_rows}
use Rattle.hy_batches.specs.Batches.{Batch}
use Rattle.hy_redo.specs.Calls.{LogState}
use Rattle.hy_redo.specs.Disk.{BeginsBehind}
use Rattle.hy_session.specs.of_forks.Accounts.{grown_up_to, kept_up_to, warehouses_of_load}
use Rattle.hy_session.specs.of_forks.Logged.{SaySame}
use Rattle.hy_storm.specs.declared.ending.Figures.{Figures}

-- figures have the commits of a serial list, each at its home, and what W_YTD grows by with them. Of two more figures, in the
-- code what the terminals' shares come to, the commits are no more than these, and where they are as many the cents are that
-- growth. The database behind the list meets the consistency conditions
pub record AreFiguresBehind (lists : Lists) (log : Log) (figures : Figures) : Type 0 where
  pub serial : IsSerial warehouses_of_commit number_of (warehouses_of_load lists) log
  pub kept : figures.kept ≡ kept_up_to log (warehouses_of_load lists)
  pub growth : figures.growth ≡ grown_up_to lists log (warehouses_of_load lists)
  pub no_more : figures.commits ≤ figures.kept
  pub settled : figures.commits ≡ figures.kept → pos figures.cents ≡ figures.growth
  pub consistent : first_broken (all_rows (database_behind lists log)) ≡ None
  pub holds : figures.broken ≡ None

-- there is a serial list of which they are the figures
abbrev pub AreFigures : Lists → Figures → Type 0
AreFigures lists figures = (log : Log) × AreFiguresBehind lists log figures

-- ---- the log

-- the bytes of a log are whole batches, all of them synced, which say the same as a serial list: joined they are what each
-- warehouse has kept of it
abbrev pub HasAll : Lists → Log → LogState → Type 0
HasAll lists serial log = (batches : List Batch) × SaySame lists batches serial × BeginsBehind batches log

-- where no thread ended early and nothing that was drained was refused by the log, the log has all of the serial list whose
-- figures these are
abbrev pub AreLogged : Lists → Figures → Option LogState → Type 0
AreLogged lists figures log =
    (serial : Log) × AreFiguresBehind lists serial figures
    × (figures.refusal ≡ None → IfSome log (HasAll lists serial))
