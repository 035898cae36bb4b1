-- The index of last orders, while one order after another is given to it.
use Rattle.std.specs.Prelude.{◌≡◌, ℕ, ◌≤◌, nat_lt, Bool, false, if◌then◌else◌, List, Option, Some, None, slice_get}
use Rattle.hy_rows.specs.declared.order.Order.{Order}
use Rattle.hy_indexes.specs.of_index.declared.key.Entry.{Entry}
use Rattle.hy_indexes.specs.of_index.Index.{found, with_entry}
use Rattle.hy_indexes.specs.of_store.declared.keys.CustomerKey.{CustomerKey}
use Rattle.hy_indexes.specs.of_store.Keys.{is_lesser_customer}
use Rattle.hy_indexes.specs.of_store.Stored.{Stored}
use Rattle.hy_layout.specs.Finds.{IsIn}

-- the number of the order at a place
abbrev pub number_of : Option Order → ℕ
number_of (Some row) = row.id
number_of None = 0

abbrev pub number_at : List Order → ℕ → ℕ
number_at orders place = number_of (slice_get orders place)

-- whether the slot that a customer has is that of an order with a greater number than an entry's
abbrev pub is_later : List Order → Entry CustomerKey → Option ℕ → Bool
is_later orders entry (Some slot) = nat_lt (number_at orders entry.slot) (number_at orders slot)
is_later orders entry None = false

-- the entries after one more order: it takes the place of one with a lesser number
abbrev pub with_order : List Order → Entry CustomerKey → List (Entry CustomerKey) → List (Entry CustomerKey)
with_order orders entry entries =
    if is_later orders entry (found is_lesser_customer entry.key entries) then entries
    else with_entry is_lesser_customer entry.key entry.slot entries

-- the store after one more order was given to its customer
abbrev pub with_last_order : Entry CustomerKey → Stored → Stored
with_last_order entry old = record old { last_orders = with_order old.tables.orders entry old.last_orders }

-- of the orders that were given, each customer has one with the greatest number
pub record AreLastOf (orders : List Order) (given entries : List (Entry CustomerKey)) : Type 0 where
  pub there : (entry : Entry CustomerKey) → IsIn entry entries → IsIn entry given
      × ((other : Entry CustomerKey) → IsIn other given → other.key ≡ entry.key
      → number_at orders other.slot ≤ number_at orders entry.slot)
  pub all : (entry : Entry CustomerKey) → IsIn entry given
      → (slot : ℕ) × IsIn (record { key = entry.key; slot = slot }) entries
