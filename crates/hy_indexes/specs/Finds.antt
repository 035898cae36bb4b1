-- Where rows stand, by places and by indexes.
use Rattle.hy_layout.specs.Finds.{IsIn}
use Rattle.std.specs.Prelude.{◌≡◌, ℕ, List, Option, Some}
use Rattle.hy_store.specs.Entry.{Entry}

-- an index has the slot of each row under the row's key, and nothing else
pub record IsIndexOf {Key Row : Type 0} (key_of : Row → Key) (row_at : ℕ → Option Row) (entries : List (Entry Key))
    : Type 0 where
  pub there : (entry : Entry Key) → IsIn entry entries
      → (row : Row) × (row_at entry.slot ≡ Some row) × (key_of row ≡ entry.key)
  pub all : (slot : ℕ) (row : Row) → row_at slot ≡ Some row
      → IsIn (record { key = key_of row; slot = slot }) entries
