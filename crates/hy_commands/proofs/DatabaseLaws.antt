-- The database of a load has the rows of each of its warehouses.
use Rattle.std.proofs.Common.{◌≡◌, ℕ, ◌-◌, length, true, sym, subst, arith}
use Rattle.std.proofs.lemmas.List.FromFn.{get_or-map-range_with_len, length-map-range_with_len}
use Rattle.hy_rows.specs.Ranges.{IsBetween}
use Rattle.hy_rows.specs.Tables.{Lists, no_rows, of_warehouse}
use Rattle.hy_rows.proofs.BetweenLaws.{bounds}
use Rattle.hy_commands.specs.Parts.{database_of, is_there, rows_of}
use Rattle.hy_commands.specs.Replay.{HasWarehouse}

-- as many warehouses as the load
pub length-database : (lists : Lists) → length (database_of lists).warehouses ≡ length lists.tables.warehouses
length-database lists =
    length-map-range_with_len (λ number. of_warehouse number lists.tables) 1 (length lists.tables.warehouses)

-- a warehouse is there where the load has it
pub there-load : (lists : Lists) (number : ℕ) → is_there (database_of lists) number ≡ true → HasWarehouse lists number
there-load lists number there = subst (λ count. IsBetween 1 count number) (length-database lists) there

pub load-there : (lists : Lists) (number : ℕ) → HasWarehouse lists number → is_there (database_of lists) number ≡ true
load-there lists number has = subst (λ count. IsBetween 1 count number) (sym (length-database lists)) has

-- and has its rows
pub rows-load : (lists : Lists) (number : ℕ) → HasWarehouse lists number
    → rows_of number (database_of lists) ≡ of_warehouse number lists.tables
rows-load lists number has =
    let ends = bounds 1 (length lists.tables.warehouses) number has in
    get_or-map-range_with_len (λ number. of_warehouse number lists.tables) 1 (length lists.tables.warehouses)
    (number - 1) number no_rows (omega (arith, ends.0, ends.1)) (omega (arith, ends.0))
