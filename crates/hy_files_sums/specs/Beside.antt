-- What the file beside a log says of a load, and why it isn't written.
use Rattle.std.specs.Prelude.{◌⊎◌, ⊤, ℕ, List, Option}
pub use Rattle.std.specs.declared.io.ErrorKind.TheVariants.{NotFound}
use Rattle.hy_files.specs.Files.{AddsPath, FilesByPath, HasFile, IsMissing, IsOutOfMemory, KnownPaths}
use Rattle.hy_files_sums.specs.declared.beside.Found.{Found}
use Rattle.hy_files_sums.specs.declared.beside.Found.TheVariants as found
use Rattle.hy_files_sums.specs.declared.beside.SumsFault.{SumsFault}
use Rattle.hy_files_sums.specs.declared.beside.SumsFault.TheVariants as faults
use Rattle.hy_files_sums.specs.Sums.{Begins}

-- the file has these digests; or it has what doesn't begin them; or there is none, or it has what begins them
abbrev pub IsFound : Option FilesByPath → List ℕ → List ℕ → Found → Type 0
IsFound files path sums found.Same = HasFile files path sums
IsFound files path sums found.Other = (bytes : List ℕ) × HasFile files path bytes × (Begins bytes sums → ⊥)
IsFound files path sums found.Nothing =
    IsMissing files path ⊎ ((bytes : List ℕ) × HasFile files path bytes × Begins bytes sums)

-- memory was refused, or the file system couldn't write the file and knows it; or a write or a sync has failed
abbrev pub IsWhyUnwritten : KnownPaths × KnownPaths → List ℕ → SumsFault → Type 0
IsWhyUnwritten unwritten path (faults.File error) = (IsOutOfMemory error → ⊥) → AddsPath unwritten.0 unwritten.1 path
IsWhyUnwritten unwritten path faults.Writer = ⊤
