-- A service that begins behind the batches of a log.
use Rattle.std.proofs.Common.{◌≡◌, ◌∙◌, ◌++◌, ℕ, List, Bool, Option, ap, arith, false, length, refl, subst, sym, take}
use Rattle.std.specs.Prelude.{◌≢◌}
use Rattle.std.proofs.Math.Seq.{take-append_seam}
use Rattle.hy_rows.specs.Tables.{Lists}
use Rattle.hy_batches.specs.Batches.{Batch}
use Rattle.hy_batches.specs.Encoding.{log_bytes}
use Rattle.hy_files.specs.Files.{FilesByPath, HasFile, KeepsOthers, KnownPaths}
use Rattle.hy_files.specs.LogFiles.{all_synced}
use Rattle.hy_redo.specs.Disk.{BeginsBehind}
use Rattle.hy_redo.specs.Writers.{Told}
use Rattle.hy_redo_drains.specs.of_partition.Jobs.{Log}
use Rattle.hy_script.specs.Databases.{DatabaseState}
use Rattle.hy_hyper_input.specs.Inputs.{InputState}
use Rattle.hy_hyper_service.specs.Opening.{IsOpened}
use Rattle.hy_hyper_service.specs.Rounds.{ServiceState}
use Rattle.hy_hyper_life.specs.declared.fault.LifeFault.{LifeFault}
use Rattle.hy_hyper_life.specs.declared.serving.Terms.{Terms}
use Rattle.hy_hyper_life.specs.Reading.{sums_path}
use Rattle.hy_hyper_life.specs.Served.{BeginsWith, EndsBadly, EndsWell, IsServedFrom, IsUnservedFrom, start_of}
use Rattle.hy_hyper_life.specs.Served.IsUnservedFrom.{ended}
use Rattle.hy_hyper_life.proofs.FilesLaws.{apart, has-still}

-- a log that has just these batches, all of them synced
pub begins-behind : (batches : List Batch) (told : Told) → told ≡ all_synced (log_bytes batches)
    → BeginsBehind batches (record { told = told; has_failed = false })
begins-behind batches told is =
    let synced : told.synced ≡ length (log_bytes batches) = ap (λ (told : Told). told.synced) is in record {
      written = ap (λ (told : Told). told.written) is;
      synced = omega (arith, synced);
      not_failed = refl;
    }

-- the bytes in front of what was cut
pub front-of : (batches : List Batch) (seen rest : List ℕ) (size : ℕ) → size ≡ length (log_bytes batches)
    → seen ≡ log_bytes batches ++ rest → take size seen ≡ log_bytes batches
front-of batches seen rest size is whole =
    ap (λ n. take n seen) is ∙ ap (take (length (log_bytes batches))) whole ∙ take-append_seam (log_bytes batches) rest

-- digests stand at another path than the log that they stand beside
pub beside-apart : (path beside : List ℕ) → beside ≡ sums_path path → beside ≢ path
beside-apart path beside is same = apart path (sym is ∙ same)

module _ (path beside sums : List ℕ) (terms : Terms) (lists world : Lists) (same : lists ≡ world) (batches : List Batch)
    (database : DatabaseState) (seen : Log) (opened : IsOpened lists terms.frames terms.kept batches database seen)
    (told : Told) (is : told ≡ all_synced (log_bytes batches)) (out : Option (List ℕ)) (middle files : Option FilesByPath)
    (other : beside ≢ path) (there : HasFile middle beside sums) (others : KeepsOthers middle files path)
    (inputs : InputState × InputState) (printed : Option (List ℕ)) where
  abbrev start : ServiceState
  start = start_of database told terms.style out

  begins : BeginsWith terms lists batches out start
  begins = record {
    database = database;
    seen = seen;
    opened = opened;
    start_is = ap (λ (told : Told). start_of database told terms.style out) is;
  }

  digests : HasFile files beside sums
  digests = has-still middle files beside sums path there others other

  pub served-from : EndsWell world (start_of database told terms.style out) path files inputs printed
      → IsServedFrom path beside sums terms lists batches files inputs (out, printed)
  served-from ends = record {
    start = start;
    begins = begins;
    ends = subst (λ (lists : Lists). EndsWell lists start path files inputs printed) (sym same) ends;
    digests = digests;
  }

  pub unserved-from : (old : Option FilesByPath) (before kept after : KnownPaths) → kept ≡ before → (has_failed : Bool)
      (unprinted : Type 0) (why : LifeFault)
      → EndsBadly world (start_of database told terms.style out) path files (kept, after) inputs printed has_failed why
      → IsUnservedFrom path beside sums terms lists batches (old, files) (before, after) inputs (out, printed) has_failed
      unprinted why
  unserved-from old before kept after none has_failed unprinted why ends =
      ended start begins (subst (λ (lists : Lists). EndsBadly lists start path files (before, after) inputs printed has_failed why)
      (sym same) (subst (λ (paths : KnownPaths). EndsBadly world start path files (paths, after) inputs printed has_failed why)
      none ends)) digests
