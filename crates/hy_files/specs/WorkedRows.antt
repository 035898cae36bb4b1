-- Worked examples of files, which the checker computes.
use Rattle.std.specs.Prelude.{◌≡◌, if◌then◌else◌, List, [], ◌∷◌, ℕ, Option, None, Some, codes, refl}
use Rattle.std.specs.Str.{bytes_eq}
use Rattle.hy_rows.specs.declared.catalogue.Table.TheVariants as table
use Rattle.hy_files.specs.Directory.{AreFiles, IsFirstMissing, path_of}

-- the file of ORDER in a directory, and that of ITEM in the folder that the program runs in
pub path-orders : path_of (codes "data") table.Order ≡ codes "data/orders.csv"
path-orders = refl

pub path-items : path_of (codes ".") table.Item ≡ codes "./item.csv"
path-items = refl

-- two files in a directory, and one that is none of its tables'
abbrev pub two_files : List ℕ → Option (List ℕ)
two_files path =
    if bytes_eq path (codes "data/warehouse.csv") then Some (codes "W")
    else if bytes_eq path (codes "data/district.csv") then Some (codes "D")
    else if bytes_eq path (codes "data/readme") then Some (codes "R")
    else None

-- the first two files are there, and that of CUSTOMER is the first that isn't
pub two-are_files :
    AreFiles (Some two_files) (codes "data") (table.Warehouse ∷ table.District ∷ []) (codes "W" ∷ codes "D" ∷ [])
two-are_files = (refl, (refl, tt))

pub two-customers_missing : IsFirstMissing (Some two_files) (codes "data") table.Customer
two-customers_missing = (2, refl, refl, codes "W" ∷ codes "D" ∷ [], (refl, (refl, tt)))

-- in another directory no file is there
pub other-warehouses_missing : IsFirstMissing (Some two_files) (codes "other") table.Warehouse
other-warehouses_missing = (0, refl, refl, [], tt)
