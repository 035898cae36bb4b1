-- A service on files whose log is held.
use Rattle.std.proofs.Common.{◌≡◌, ℕ, List, Bool, Option, subst}
use Rattle.hy_rows.specs.Tables.{Lists}
use Rattle.hy_batches.specs.Batches.{Batch}
use Rattle.hy_batches.specs.Logs.{IsLog}
use Rattle.hy_files.specs.Files.{FilesByPath, HasFile, KnownPaths}
use Rattle.hy_hyper_input.specs.Inputs.{InputState, fresh}
use Rattle.hy_hyper_life.specs.declared.fault.LifeFault.{LifeFault}
use Rattle.hy_hyper_life.specs.declared.serving.Terms.{Terms}
use Rattle.hy_hyper_life.specs.Reading.{HasBatches, HasLoad, IsHeld, IsOwn, sums_path}
use Rattle.hy_hyper_life.specs.Served.{IsServeFault, IsServed, IsServedFrom, IsUnserved, IsUnservedFrom}
use Rattle.hy_hyper_life.specs.Served.IsServeFault.{unserved as behind_lock}
use Rattle.hy_hyper_life.specs.Served.IsUnserved.{behind}

module _ (directory path beside sums : List ℕ) (is : beside ≡ sums_path path) (terms : Terms) (old : Option FilesByPath)
    (lists : Lists) (load : HasLoad old directory lists sums) (own : IsOwn old beside sums) (batches : List Batch)
    (bytes rest : List ℕ) (has : HasFile old path bytes) (whole : IsLog bytes batches rest) (new : Option FilesByPath)
    (inputs : InputState × InputState) (outs : Option (List ℕ) × Option (List ℕ)) where
  log : HasBatches old path batches
  log = record { bytes = bytes; rest = rest; has = has; whole = whole }

  own-here : IsOwn old (sums_path path) sums
  own-here = subst (λ (beside : List ℕ). IsOwn old beside sums) is own

  pub served-held : IsServedFrom path beside sums terms lists batches new inputs outs
      → IsServed directory path terms (old, new) inputs outs
  served-held served = record {
    lists = lists;
    sums = sums;
    load = load;
    own = own-here;
    batches = batches;
    log = log;
    served = subst (λ (beside : List ℕ). IsServedFrom path beside sums terms lists batches new inputs outs) is served;
  }

  pub unserved-held : (middle : Option FilesByPath) → middle ≡ old → (before kept after : KnownPaths) → kept ≡ before
      → (has_failed : Bool) (unprinted : Type 0) (why : LifeFault)
      → IsUnservedFrom path beside sums terms lists batches (middle, new) (kept, after) inputs outs has_failed unprinted why
      → IsUnserved directory path terms (old, new) (before, after) inputs outs has_failed unprinted why
  unserved-held middle same before kept after none has_failed unprinted why unserved =
      behind lists sums load own-here batches log
      (subst (λ (beside : List ℕ). IsUnservedFrom path beside sums terms lists batches (old, new) (before, after) inputs outs has_failed unprinted why)
      is
      (subst (λ (files : Option FilesByPath). IsUnservedFrom path beside sums terms lists batches (files, new) (before, after) inputs outs has_failed unprinted why)
      same
      (subst (λ (paths : KnownPaths). IsUnservedFrom path beside sums terms lists batches (middle, new) (paths, after) inputs outs has_failed unprinted why)
      none unserved)))

-- what holds of files, of a path and of digests holds of those that are the same
pub at-these : (Holds : Option FilesByPath → List ℕ → List ℕ → Type 0) (old new : Option FilesByPath) (path here digests text : List ℕ)
    → old ≡ new → path ≡ here → digests ≡ text → Holds old path digests → Holds new here text
at-these Holds old new path here digests text same is are holds =
    subst (λ (text : List ℕ). Holds new here text) are (subst (λ (path : List ℕ). Holds new path digests) is
    (subst (λ (files : Option FilesByPath). Holds files path digests) same holds))

-- behind the lock
pub unserved-whole : (directory path : List ℕ) (terms : Terms) (old held new : Option FilesByPath) → IsHeld old held path
    → (before kept after : KnownPaths) → kept ≡ before → (coming : Option (List ℕ)) (first last : InputState)
    → first ≡ fresh coming → (outs : Option (List ℕ) × Option (List ℕ)) (has_failed : Bool) (unprinted : Type 0)
    (why : LifeFault)
    → IsUnserved directory path terms (held, new) (kept, after) (first, last) outs has_failed unprinted why
    → IsServeFault directory path terms (old, new) (before, after) coming outs has_failed unprinted why
unserved-whole directory path terms old held new holds before kept after none coming first last is outs has_failed unprinted why unserved =
    behind_lock held holds last
    (subst (λ (first : InputState). IsUnserved directory path terms (held, new) (before, after) (first, last) outs has_failed unprinted why)
    is
    (subst (λ (paths : KnownPaths). IsUnserved directory path terms (held, new) (paths, after) (first, last) outs has_failed unprinted why)
    none unserved))
