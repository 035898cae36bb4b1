-- Laws of the generated lists.
use Rattle.std.proofs.Common.{◌≡◌, ℕ, suc, ◌+◌, List, [], ◌∷◌, ◌++◌, append_assoc, add-one}
use Rattle.hy_tables.specs.Generated.{joined_up_to, rows_up_to}

-- one more row
pub rows_up_to-next : {Row : Type 0} (row : ℕ → Row) (last : ℕ) (before rows : List Row)
    → rows ≡ before ++ rows_up_to row last → rows ++ row (last + 1) ∷ [] ≡ before ++ rows_up_to row (last + 1)
rows_up_to-next row last before rows so_far =
    rw (so_far, add-one last) (append_assoc before (rows_up_to row last) (row (suc last) ∷ []))

-- one more list
pub joined_up_to-next : {Row : Type 0} (list : ℕ → List Row) (last : ℕ) (before rows : List Row)
    → rows ≡ before ++ joined_up_to list last → rows ++ list (last + 1) ≡ before ++ joined_up_to list (last + 1)
joined_up_to-next list last before rows so_far =
    rw (so_far, add-one last) (append_assoc before (joined_up_to list last) (list (suc last)))
