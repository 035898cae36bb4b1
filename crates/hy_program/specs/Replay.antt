-- What a log has, run again on a load.
use Rattle.std.specs.Prelude.{◌≡◌, ◌⊎◌, ◌<◌, ℕ, suc, List, None, Err, length}
use Rattle.hy_rows.specs.Tables.{Lists, Tables}
use Rattle.hy_schema.specs.Conditions.{first_broken}
use Rattle.hy_schema.specs.declared.refusal.Refusal.{Refusal}
use Rattle.hy_schema.specs.declared.refusal.Refusal.TheVariants as refusals
use Rattle.hy_commands.specs.Commands.{number_of, warehouses_of_commit}
use Rattle.hy_frames.specs.FrameTable.{max_frames}
use Rattle.hy_passes.specs.SerialList.{IsSerial}
use Rattle.hy_batches.specs.Batches.{Batch}
use Rattle.hy_batches.specs.Logs.{IsLog, Reads}
use Rattle.hy_database.specs.Database.{all_rows}
use Rattle.hy_sound.specs.Sound.{IsSoundLog}
use Rattle.hy_recovery.specs.of_crossing.Crossings.{database_behind}
use Rattle.hy_recovery.specs.of_partition.Jobs.{Log}
use Rattle.hy_recovery.specs.of_partition.Limits.{most_kept}
use Rattle.hy_recovery.specs.of_partition.Partition.{projection_of}
use Rattle.hy_recovery.specs.Recovering.{IsWhyUnrecovered, NoneAreTooMany, joined}
use Rattle.hy_storm.specs.of_session.Databases.{lists_of}
use Rattle.hy_program.specs.declared.script.Limits.{Limits}

-- the greatest limits that there are
abbrev pub greatest_limits : Limits
greatest_limits = record { frames = max_frames; kept = most_kept }

-- ---- what comes of batches

-- a serial list of commits of a load's warehouses, of which each warehouse has what the batches' lists of it come to
pub record IsHistoryOf (lists : Lists) (batches : List Batch) (log : Log) : Type 0 where
  pub serial : IsSerial warehouses_of_commit number_of (length lists.tables.warehouses) log
  pub kept : (place : ℕ) → place < length lists.tables.warehouses → projection_of (suc place) log ≡ joined batches place

-- these are the rows of the database behind a list of the commits of batches, and meet the consistency conditions
pub record IsReplayed (lists : Lists) (batches : List Batch) (rows : Tables) : Type 0 where
  pub log : Log
  pub history : IsHistoryOf lists batches log
  pub spelled : rows ≡ all_rows (database_behind lists log)
  pub consistent : first_broken rows ≡ None

-- these are the items and the rows of a database behind a list of the commits of batches
pub record AreListsBehind (lists : Lists) (batches : List Batch) (all : Lists) : Type 0 where
  pub log : Log
  pub history : IsHistoryOf lists batches log
  pub spelled : all ≡ lists_of (database_behind lists log)
  pub consistent : first_broken all.tables ≡ None

-- the same as for rows, for bytes that are a log of so many batches
pub record IsBehind (lists : Lists) (bytes : List ℕ) (count : ℕ) (rows : Tables) : Type 0 where
  pub batches : List Batch
  pub rest : List ℕ
  pub whole : IsLog bytes batches rest
  pub counted : count ≡ length batches
  pub replayed : IsReplayed lists batches rows

-- ---- why nothing does

-- nothing is wrong with batches on a load: they can be run again, and none of its warehouses has more commits than may be kept
abbrev pub AreFit : Limits → Lists → List Batch → Type 0
AreFit limits lists batches = IsSoundLog lists batches × NoneAreTooMany lists batches limits.kept

-- why batches can't be run again on a load, with so many frames and commits for each warehouse, or there is no snapshot of
-- what comes of them, for which a frame may lack
abbrev pub IsWhyUnreplayed : Limits → Lists → List Batch → Refusal → Type 0
IsWhyUnreplayed limits lists batches why =
    IsWhyUnrecovered 4_096 lists limits.frames batches limits.kept why
    ⊎ ((why ≡ refusals.NoFrame) × IsSoundLog lists batches × NoneAreTooMany lists batches limits.kept)

-- why nothing comes of bytes: they aren't read as batches, or these can't be run again
abbrev pub IsWhyLost : Limits → Lists → List ℕ → Refusal → Type 0
IsWhyLost limits lists bytes why =
    Reads bytes (Err why)
    ⊎ ((batches : List Batch) × (rest : List ℕ) × IsLog bytes batches rest × IsWhyUnreplayed limits lists batches why)
