-- Files by their paths, as far as they are known.
use Rattle.std.specs.Prelude.{◌≡◌, ◌≢◌, ⊤, ℕ, List, [], ◌∷◌, ◌++◌, Option, None, Some}
use Rattle.std.specs.Option.{unwrap_or}
use Rattle.std.specs.IoError.{error_kind}
use Rattle.std.specs.declared.io.Error.{Error}
use Rattle.std.specs.declared.io.ErrorKind.TheVariants.{OutOfMemory}

-- the bytes of the file at each path, where there is one
abbrev pub FilesByPath : Type 0
FilesByPath = List ℕ → Option (List ℕ)

-- no file at any path
abbrev pub no_files : FilesByPath
no_files path = None

-- known files have these bytes at the path
abbrev pub HasFile : Option FilesByPath → List ℕ → List ℕ → Type 0
HasFile None path bytes = ⊤
HasFile (Some files) path bytes = files path ≡ Some bytes

-- known files have none at the path
abbrev pub IsMissing : Option FilesByPath → List ℕ → Type 0
IsMissing None path = ⊤
IsMissing (Some files) path = files path ≡ None

-- known files stay as they were, but for the one at the path; others stay unknown
abbrev pub KeepsOthers : Option FilesByPath → Option FilesByPath → List ℕ → Type 0
KeepsOthers None None path = ⊤
KeepsOthers None (Some new) path = ⊥
KeepsOthers (Some old) None path = ⊥
KeepsOthers (Some old) (Some new) path = (other : List ℕ) → other ≢ path → new other ≡ old other

-- the known file at the path stays as it was, or there still is none; others stay unknown
abbrev pub KeepsFile : Option FilesByPath → Option FilesByPath → List ℕ → Type 0
KeepsFile None None path = ⊤
KeepsFile None (Some new) path = ⊥
KeepsFile (Some old) None path = ⊥
KeepsFile (Some old) (Some new) path = new path ≡ old path

-- the known file at the path is the one that was there, or an empty one where there was none; others stay unknown
abbrev pub IsThere : Option FilesByPath → Option FilesByPath → List ℕ → Type 0
IsThere None None path = ⊤
IsThere None (Some new) path = ⊥
IsThere (Some old) None path = ⊥
IsThere (Some old) (Some new) path = new path ≡ Some (unwrap_or (old path) [])

-- paths at which something was done, in order, as far as they are known
abbrev pub KnownPaths : Type 0
KnownPaths = Option (List (List ℕ))

-- known paths have one more behind them; others stay unknown
abbrev pub AddsPath : KnownPaths → KnownPaths → List ℕ → Type 0
AddsPath None None path = ⊤
AddsPath None (Some new) path = ⊥
AddsPath (Some old) None path = ⊥
AddsPath (Some old) (Some new) path = new ≡ old ++ path ∷ []

-- an error for want of memory
abbrev pub IsOutOfMemory : Error → Type 0
IsOutOfMemory error = error_kind error ≡ OutOfMemory
