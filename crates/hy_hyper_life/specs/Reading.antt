-- What a service reads before it begins.
use Rattle.std.specs.Prelude.{◌≡◌, ◌≢◌, ◌⊎◌, ⊤, ℕ, List, ◌++◌, Option, None, Some, codes}
use Rattle.hy_rows.specs.Tables.{Lists}
use Rattle.hy_batches.specs.Batches.{Batch}
use Rattle.hy_batches.specs.Logs.{IsLog}
use Rattle.hy_files.specs.Directory.{AreFiles, tables}
use Rattle.hy_files.specs.Files.{FilesByPath, HasFile, IsThere, KeepsOthers}
use Rattle.hy_files.specs.Loads.{SayLoad}
use Rattle.hy_files_sums.specs.Beside.{IsFound}
use Rattle.hy_files_sums.specs.Sums.{sums_text}
use Rattle.hy_files_sums.specs.declared.beside.Found.TheVariants as found

-- the path of the digests beside the log at a path
abbrev pub sums_path : List ℕ → List ℕ
sums_path path = path ++ codes ".load"

-- the files of a folder are those of a load with these lists, and these are the digests of their texts
pub record HasLoad (files : Option FilesByPath) (directory : List ℕ) (lists : Lists) (sums : List ℕ) : Type 0 where
  pub texts : List (List ℕ)
  pub are : AreFiles files directory tables texts
  pub load : SayLoad lists texts
  pub sums_are : sums ≡ sums_text tables texts

-- no digests of another load stand beside a log
abbrev pub IsOwn : Option FilesByPath → List ℕ → List ℕ → Type 0
IsOwn files beside sums = IsFound files beside sums found.Same ⊎ IsFound files beside sums found.Nothing

-- the file of a log has these whole batches, and maybe the begin of one that was cut
pub record HasBatches (files : Option FilesByPath) (path : List ℕ) (batches : List Batch) : Type 0 where
  pub bytes : List ℕ
  pub rest : List ℕ
  pub has : HasFile files path bytes
  pub whole : IsLog bytes batches rest

-- the lock on a log's file was taken: there is one, an empty one where there was none; no other file has changed
pub record IsHeld (old held : Option FilesByPath) (path : List ℕ) : Type 0 where
  pub there : IsThere old held path
  pub others : KeepsOthers old held path

-- known files stay as they were, but for a log and the digests beside it; others stay unknown
abbrev pub KeepsAllBut : Option FilesByPath → Option FilesByPath → List ℕ → List ℕ → Type 0
KeepsAllBut None None path beside = ⊤
KeepsAllBut None (Some new) path beside = ⊥
KeepsAllBut (Some old) None path beside = ⊥
KeepsAllBut (Some old) (Some new) path beside = (other : List ℕ) → other ≢ path → other ≢ beside → new other ≡ old other
