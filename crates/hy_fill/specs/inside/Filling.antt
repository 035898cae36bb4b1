-- Pages that are being filled.
use Rattle.std.specs.Prelude.{◌≡◌, ℕ, Bool, if◌then◌else◌, List, [], ◌∷◌, ◌++◌, length, map, Option, Some}
use Rattle.hy_indexes.specs.of_index.declared.key.Entry.{Entry}
use Rattle.hy_rows.specs.declared.new_order.NewOrder.{NewOrder}
use Rattle.hy_rows.specs.Tables.{Tables}
use Rattle.hy_space.specs.Space.{SpaceState, owner_bytes}
use Rattle.hy_indexes.specs.of_store.Pages.{HasPagesUpTo}
use Rattle.hy_indexes.specs.of_store.Stored.{Stored, nothing_stored}
use Rattle.hy_layout.specs.Finds.{IsIn}
use Rattle.hy_fill.specs.Frames.{most_of}

-- no child comes or goes, and the limit of frames stays
pub record StaysOpen (old new : SpaceState) : Type 0 where
  pub children : new.children ≡ old.children
  pub limit : new.frames.max ≡ old.frames.max

-- no page comes but for the rows of a warehouse and their entries
abbrev pub StaysWithin : ℕ → Tables → SpaceState → SpaceState → Type 0
StaysWithin n tables old new =
    HasPagesUpTo n (most_of tables) (owner_bytes old) → HasPagesUpTo n (most_of tables) (owner_bytes new)

-- a store with these rows and no entry of an index
abbrev pub without_indexes : Tables → Stored
without_indexes tables = record nothing_stored { tables = tables; new_order_slots = map Some tables.new_orders }

-- a store with more rows behind those of a table
abbrev pub with_more : {Row : Type 0} → (Tables → List Row) → (Tables → List Row → Tables) → List Row → Stored → Stored
with_more rows_in with_rows more old = record old { tables = with_rows old.tables (rows_in old.tables ++ more) }

-- a store with these rows in a table
abbrev pub with_table : {Row : Type 0} → (Tables → List Row → Tables) → List Row → Stored → Stored
with_table with_rows rows old = record old { tables = with_rows old.tables rows }

-- the same of NEW-ORDER
abbrev pub with_new_orders : List NewOrder → Stored → Stored
with_new_orders more old = record old {
  tables = record old.tables { new_orders = old.tables.new_orders ++ more };
  new_order_slots = old.new_order_slots ++ map Some more;
}

-- no two rows have the same key
abbrev pub TellsApart : {Key Row : Type 0} → (Row → Key) → (ℕ → Option Row) → Type 0
TellsApart {Key} {Row} key_of row_at = (one other : ℕ) (row another : Row) → row_at one ≡ Some row
    → row_at other ≡ Some another → key_of row ≡ key_of another → one ≡ other

-- entries with the same key are the same
abbrev pub HasOneSlotEach : {Key : Type 0} → List (Entry Key) → Type 0
HasOneSlotEach {Key} entries =
    (one other : Entry Key) → IsIn one entries → IsIn other entries → one.key ≡ other.key → one ≡ other

-- the same entries, in whatever order
pub record HasSameEntries {Key : Type 0} (entries others : List (Entry Key)) : Type 0 where
  pub there : (entry : Entry Key) → IsIn entry others → IsIn entry entries
  pub all : (entry : Entry Key) → IsIn entry entries → IsIn entry others

-- the entries after one more row: an own row has the next slot
abbrev pub with_row : {Key Row : Type 0} → (Row → Key) → (Row → Bool) → Row → List (Entry Key) → List (Entry Key)
with_row key_of is_own row entries =
    if is_own row then entries ++ record { key = key_of row; slot = length entries } ∷ [] else entries
