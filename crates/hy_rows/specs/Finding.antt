-- Finding a row by its key, and changing it. No key stands twice in a load, nor in what commits make of a warehouse
-- (`Keys`), so that the first row with a key is the only one.
use Rattle.std.specs.Prelude.{ℕ, Bool, ◌==◌, ◌&&◌, if◌then◌else◌, List, [], ◌∷◌, find, unwrap_or}
use Rattle.hy_rows.specs.declared.warehouse.Warehouse.{Warehouse}
use Rattle.hy_rows.specs.declared.district.District.{District}
use Rattle.hy_rows.specs.declared.customer.Customer.{Customer}

-- whether a row has the key: W_ID; (D_W_ID, D_ID); (C_W_ID, C_D_ID, C_ID)
abbrev pub is_warehouse : ℕ → Warehouse → Bool
is_warehouse number row = row.id == number

abbrev pub is_district : ℕ → ℕ → District → Bool
is_district warehouse number row = (row.warehouse == warehouse) && (row.id == number)

abbrev pub is_customer : ℕ → ℕ → ℕ → Customer → Bool
is_customer warehouse district number row =
    (row.warehouse == warehouse) && (row.district == district) && (row.id == number)

-- the first row that passes the test. A command is accepted only where its rows are there; another row stands for one
-- that isn't
abbrev pub first_or : {Row : Type 0} → Row → (Row → Bool) → List Row → Row
first_or none test rows = unwrap_or (find test rows) none

-- the list with the first row that passes the test changed
abbrev pub with_changed : {Row : Type 0} → (Row → Bool) → (Row → Row) → List Row → List Row
with_changed test change [] = []
with_changed test change (row ∷ rows) = if test row then change row ∷ rows else row ∷ with_changed test change rows
