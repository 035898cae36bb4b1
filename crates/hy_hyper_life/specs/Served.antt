-- What a service on files has done, and why it isn't done. Of files, of paths that couldn't be written, of inputs and of what was
-- printed a pair has what was there before, and what is there behind it.
use Rattle.std.specs.Prelude.{◌≡◌, ◌≤◌, ◌⊎◌, ℕ, List, Bool, Option, Err, MatchOption, false}
use Rattle.hy_rows.specs.Tables.{Lists}
use Rattle.hy_schema.specs.declared.refusal.Refusal.{Refusal}
use Rattle.hy_schema.specs.declared.refusal.Refusal.TheVariants as refusals
use Rattle.hy_batches.specs.Batches.{Batch}
use Rattle.hy_batches.specs.Encoding.{log_bytes}
use Rattle.hy_batches.specs.Logs.{Reads}
use Rattle.hy_frames.specs.FrameTable.{max_frames as most_frames}
use Rattle.hy_redo.specs.Calls.{LogState}
use Rattle.hy_redo.specs.Writers.{Told}
use Rattle.hy_files.specs.Files.{FilesByPath, HasFile, IsThere, KeepsFile, KnownPaths}
use Rattle.hy_files.specs.LogFiles.{all_synced}
use Rattle.hy_recovery.specs.Recovering.{IsWhyUnrecovered}
use Rattle.hy_recovery.specs.of_partition.Limits.{most_kept}
use Rattle.hy_redo_drains.specs.of_partition.Jobs.{Log}
use Rattle.hy_script.specs.Databases.{DatabaseState}
use Rattle.hy_hyper_answers.specs.declared.answers.Style.{Style}
use Rattle.hy_hyper_input.specs.Inputs.{InputState, fresh}
use Rattle.hy_hyper_service.specs.declared.service.ServiceFault.{ServiceFault}
use Rattle.hy_hyper_service.specs.Opening.{IsOpened}
use Rattle.hy_hyper_service.specs.Rounds.{ServiceState}
use Rattle.hy_hyper_life.specs.declared.fault.LifeFault.{LifeFault}
use Rattle.hy_hyper_life.specs.declared.fault.LifeFault.TheVariants as faults
use Rattle.hy_hyper_life.specs.declared.serving.Terms.{Terms}
use Rattle.hy_hyper_life.specs.Faults.{IsAbout, IsHoldFault, IsReadFault, IsSumsFault, IsWriteFault}
use Rattle.hy_hyper_life.specs.Lives.{IsCutOff, IsLived}
use Rattle.hy_hyper_life.specs.Reading.{HasBatches, HasLoad, IsHeld, IsOwn, sums_path}

abbrev KnownFiles : Type 0
KnownFiles = Option FilesByPath × Option FilesByPath

abbrev BothPaths : Type 0
BothPaths = KnownPaths × KnownPaths

abbrev Inputs : Type 0
Inputs = InputState × InputState

abbrev Outs : Type 0
Outs = Option (List ℕ) × Option (List ℕ)

-- a service may have such limits
pub record AreLimits (terms : Terms) : Type 0 where
  pub some_frames : 1 ≤ terms.frames
  pub frames : terms.frames ≤ most_frames
  pub some_kept : 1 ≤ terms.kept
  pub kept : terms.kept ≤ most_kept

-- ---- from a database and a log on

-- a service that begins with a database, with a log of which this is told, and with an output that has these bytes
abbrev pub start_of : DatabaseState → Told → Style → Option (List ℕ) → ServiceState
start_of database told style out = record {
  database = database;
  log = record { told = told; has_failed = false };
  style = style;
  out = out;
}

-- its life went to the end of the input, and the log's file has all that was written
pub record EndsWell (lists : Lists) (start : ServiceState) (path : List ℕ) (files : Option FilesByPath) (inputs : Inputs)
    (out : Option (List ℕ)) : Type 0 where
  pub log : LogState
  pub lived : IsLived 4_096 lists start inputs.0 inputs.1 log out
  pub written : HasFile files path log.told.written

-- its life was cut off for a reason, and the log's file has all that was written; or that file couldn't be ended, whatever came of
-- the life
pub data EndsBadly (lists : Lists) (start : ServiceState) (path : List ℕ) (files : Option FilesByPath) (unwritten : BothPaths)
    (inputs : Inputs) (out : Option (List ℕ)) (has_failed : Bool) (why : LifeFault) : Type 0 where
  cut_off : (log : LogState) → (ended : ServiceFault)
      → IsCutOff 4_096 lists start inputs.0 inputs.1 log out has_failed ended → IsAbout ended why
      → HasFile files path log.told.written
      → EndsBadly lists start path files unwritten inputs out has_failed why
  unended : (log : LogState) → (ended : Option ServiceFault)
      → MatchOption ended (IsLived 4_096 lists start inputs.0 inputs.1 log out)
      (IsCutOff 4_096 lists start inputs.0 inputs.1 log out has_failed) → IsWriteFault unwritten path why
      → EndsBadly lists start path files unwritten inputs out has_failed why

-- ---- from the batches of a log on

-- a service begins with the database of a load behind batches, and with a log that has just these, all of them synced
pub record BeginsWith (terms : Terms) (lists : Lists) (batches : List Batch) (out : Option (List ℕ)) (start : ServiceState)
    : Type 0 where
  pub database : DatabaseState
  pub seen : Log
  pub opened : IsOpened lists terms.frames terms.kept batches database seen
  pub start_is : start ≡ start_of database (all_synced (log_bytes batches)) terms.style out

-- it was served to the end of the input, and the digests of the load stand beside the log
pub record IsServedFrom (path beside sums : List ℕ) (terms : Terms) (lists : Lists) (batches : List Batch)
    (files : Option FilesByPath) (inputs : Inputs) (outs : Outs) : Type 0 where
  pub start : ServiceState
  pub begins : BeginsWith terms lists batches outs.0 start
  pub ends : EndsWell lists start path files inputs outs.1
  pub digests : HasFile files beside sums

-- why it isn't: the batches can't be run again on the load, and no file has changed; the digests or the log can't be written, and
-- the log has what it had or just these batches; both with nothing printed. Or its life has ended badly
pub data IsUnservedFrom (path beside sums : List ℕ) (terms : Terms) (lists : Lists) (batches : List Batch) (files : KnownFiles)
    (unwritten : BothPaths) (inputs : Inputs) (outs : Outs) (has_failed : Bool) (unprinted : Type 0) (why : LifeFault)
    : Type 0 where
  unopened : (refusal : Refusal) → why ≡ faults.Refused refusal
      → IsWhyUnrecovered 4_096 lists terms.frames batches terms.kept refusal → files.1 ≡ files.0 → unprinted
      → IsUnservedFrom path beside sums terms lists batches files unwritten inputs outs has_failed unprinted why
  unbegun : IsWriteFault unwritten path why
      → KeepsFile files.0 files.1 path ⊎ HasFile files.1 path (log_bytes batches) → unprinted
      → IsUnservedFrom path beside sums terms lists batches files unwritten inputs outs has_failed unprinted why
  ended : (start : ServiceState) → BeginsWith terms lists batches outs.0 start
      → EndsBadly lists start path files.1 unwritten inputs outs.1 has_failed why → HasFile files.1 beside sums
      → IsUnservedFrom path beside sums terms lists batches files unwritten inputs outs has_failed unprinted why

-- ---- from files on, whose log is held

-- the files of the folder are those of a load, no digests of another one stand beside the log, and the log has whole batches, from
-- which on it was served
pub record IsServed (directory path : List ℕ) (terms : Terms) (files : KnownFiles) (inputs : Inputs) (outs : Outs)
    : Type 0 where
  pub lists : Lists
  pub sums : List ℕ
  pub load : HasLoad files.0 directory lists sums
  pub own : IsOwn files.0 (sums_path path) sums
  pub batches : List Batch
  pub log : HasBatches files.0 path batches
  pub served : IsServedFrom path (sums_path path) sums terms lists batches files.1 inputs outs

-- why it isn't, in this order: the files can't be read or are no load; the digests beside the log are those of another load, or
-- can't be read; the log has no batches; in all of these nothing was printed and no file has changed. Or it wasn't served from the
-- batches on
pub data IsUnserved (directory path : List ℕ) (terms : Terms) (files : KnownFiles) (unwritten : BothPaths) (inputs : Inputs)
    (outs : Outs) (has_failed : Bool) (unprinted : Type 0) (why : LifeFault) : Type 0 where
  unread : IsReadFault files.0 directory path why → files.1 ≡ files.0 → unprinted
      → IsUnserved directory path terms files unwritten inputs outs has_failed unprinted why
  unsure : (lists : Lists) → (sums : List ℕ) → HasLoad files.0 directory lists sums
      → IsSumsFault files.0 (sums_path path) sums why → files.1 ≡ files.0 → unprinted
      → IsUnserved directory path terms files unwritten inputs outs has_failed unprinted why
  malformed : (lists : Lists) → (sums : List ℕ) → HasLoad files.0 directory lists sums
      → IsOwn files.0 (sums_path path) sums → (bytes : List ℕ) → HasFile files.0 path bytes → (refusal : Refusal)
      → Reads bytes (Err refusal) → why ≡ faults.Refused refusal → files.1 ≡ files.0 → unprinted
      → IsUnserved directory path terms files unwritten inputs outs has_failed unprinted why
  behind : (lists : Lists) → (sums : List ℕ) → HasLoad files.0 directory lists sums
      → IsOwn files.0 (sums_path path) sums → (batches : List Batch) → HasBatches files.0 path batches
      → IsUnservedFrom path (sums_path path) sums terms lists batches files unwritten inputs outs has_failed unprinted why
      → IsUnserved directory path terms files unwritten inputs outs has_failed unprinted why

-- ---- the whole

-- the lock on the log was taken, which made an empty one where there was none; and from these files on the input was served, whose
-- bytes are what was to come of it
pub record ServesFiles (directory path : List ℕ) (terms : Terms) (files : KnownFiles) (coming : Option (List ℕ)) (outs : Outs)
    : Type 0 where
  pub held : Option FilesByPath
  pub holds : IsHeld files.0 held path
  pub after : InputState
  pub served : IsServed directory path terms (held, files.1) (fresh coming, after) outs

-- why it wasn't: memory was refused before anything was touched; the lock can't be had, and the log has what it had; or it wasn't
-- served from there on
pub data IsServeFault (directory path : List ℕ) (terms : Terms) (files : KnownFiles) (unwritten : BothPaths)
    (coming : Option (List ℕ)) (outs : Outs) (has_failed : Bool) (unprinted : Type 0) (why : LifeFault) : Type 0 where
  untouched : why ≡ faults.Refused refusals.NoMemory → files.1 ≡ files.0 → unprinted
      → IsServeFault directory path terms files unwritten coming outs has_failed unprinted why
  unheld : IsHoldFault unwritten path why → KeepsFile files.0 files.1 path ⊎ IsThere files.0 files.1 path → unprinted
      → IsServeFault directory path terms files unwritten coming outs has_failed unprinted why
  unserved : (held : Option FilesByPath) → IsHeld files.0 held path → (after : InputState)
      → IsUnserved directory path terms (held, files.1) unwritten (fresh coming, after) outs has_failed unprinted why
      → IsServeFault directory path terms files unwritten coming outs has_failed unprinted why
