-- How many frames a warehouse takes at most.
use Rattle.std.specs.Prelude.{ℕ, ◌+◌, List, [], ◌∷◌, ◌++◌, length, slice_index}
use Rattle.hy_rows.specs.Catalogue.{row_widths}
use Rattle.hy_rows.specs.Tables.{Tables, row_counts}
use Rattle.hy_indexes.specs.of_store.Pages.{index_pages, key_widths, row_pages}

-- how many entries each index gets at most, an entry for each row that is indexed; an order may have one of its
-- customer's last order too
abbrev pub entry_counts : Tables → List ℕ
entry_counts tables =
    length tables.orders ∷ length tables.orders ∷ length tables.new_orders ∷ length tables.order_lines ∷ []

-- how many slots or entries each segment of a store gets at most from the rows of a warehouse
abbrev pub most_of : Tables → ℕ → ℕ
most_of tables segment = slice_index (row_counts tables ++ entry_counts tables) segment

-- the pages of some segments together, by the widths of their rows or keys and how many they have
abbrev pub pages_for : (ℕ → ℕ → ℕ) → List ℕ → List ℕ → ℕ
pages_for pages (width ∷ widths) (count ∷ counts) = pages width count + pages_for pages widths counts
pages_for pages widths counts = 0

-- the most frames that the rows of a warehouse and their entries in the indexes take, with pages of n bytes
unfoldable pub frames_for : ℕ → Tables → ℕ
frames_for n tables =
    pages_for (row_pages n) row_widths (row_counts tables) + pages_for (index_pages n) key_widths (entry_counts tables)
