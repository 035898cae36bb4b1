-- The nine files of a directory: their paths, and what they have.
use Rattle.std.specs.Prelude.{◌≡◌, ◌≢◌, ◌+◌, ◌++◌, ⊤, ℕ, List, [], ◌∷◌, Option, None, Some, codes, slice_get, take}
use Rattle.std.specs.List.{AllByRecursion}
use Rattle.hy_rows.specs.Catalogue.{file_of, tables_by_file}
pub use Rattle.hy_rows.specs.Catalogue.{tables_by_file as tables}
use Rattle.hy_rows.specs.declared.catalogue.Table.{Table}
use Rattle.hy_files.specs.Files.{FilesByPath, HasFile, IsMissing}

-- the path of the file of a table
abbrev pub path_of : List ℕ → Table → List ℕ
path_of directory table = directory ++ codes "/" ++ file_of table

-- the files of these tables, as far as they are known, have these texts
abbrev pub AreFiles : Option FilesByPath → List ℕ → List Table → List (List ℕ) → Type 0
AreFiles known directory [] [] = ⊤
AreFiles known directory (table ∷ others) (text ∷ texts) =
    HasFile known (path_of directory table) text × AreFiles known directory others texts
AreFiles known directory [] (text ∷ texts) = ⊥
AreFiles known directory (table ∷ others) [] = ⊥

-- there is no file of this table, and there are those of the tables before it
abbrev pub IsFirstMissing : Option FilesByPath → List ℕ → Table → Type 0
IsFirstMissing known directory table =
    (number : ℕ) × (slice_get tables_by_file number ≡ Some table) × IsMissing known (path_of directory table)
    × (texts : List (List ℕ)) × AreFiles known directory (take number tables_by_file) texts

-- known files stay as they were, but for those of these tables in a directory; others stay unknown
abbrev pub KeepsOtherFiles : Option FilesByPath → Option FilesByPath → List ℕ → List Table → Type 0
KeepsOtherFiles None None directory written = ⊤
KeepsOtherFiles None (Some new) directory written = ⊥
KeepsOtherFiles (Some old) None directory written = ⊥
KeepsOtherFiles (Some old) (Some new) directory written =
    (other : List ℕ) → AllByRecursion (λ table. other ≢ path_of directory table) written → new other ≡ old other

-- the files of the tables before this one have the first of these texts, and those behind it stay as they were
abbrev pub EndsAt : Option FilesByPath → Option FilesByPath → List ℕ → Table → List (List ℕ) → Type 0
EndsAt old new directory table texts =
    (number : ℕ) × (slice_get tables_by_file number ≡ Some table)
    × AreFiles new directory (take number tables_by_file) (take number texts)
    × KeepsOtherFiles old new directory (take (number + 1) tables_by_file)
