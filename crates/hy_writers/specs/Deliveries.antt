-- Order lines that are delivered one after the other, by their places.
use Rattle.std.specs.Prelude.{◌≡◌, ◌≤◌, All, length, map, ℕ, ℤ, ◌+ℤ◌, ◌==◌, pos, Bool, List, [], ◌∷◌, ◌++◌, Option, None, Some, option_to_list, slice_get, slice_set}
use Rattle.std.specs.List.{list_any}
use Rattle.hy_rows.specs.declared.customer.Customer.{Customer}
use Rattle.hy_rows.specs.declared.order.Order.{Order}
use Rattle.hy_rows.specs.declared.order_line.OrderLine.{OrderLine}
use Rattle.hy_rows.specs.Limits.{max_lines}
use Rattle.hy_commands.specs.Growth.{IsLineAmount}
use Rattle.hy_schema.specs.Keys.{AreUnique}
use Rattle.hy_schema.specs.Related.{is_line_of, lines_of}
use Rattle.hy_indexes.specs.of_index.declared.key.Entry.{Entry}
use Rattle.hy_indexes.specs.of_index.Index.{without}
use Rattle.hy_commands.specs.declared.command.Delivery.{Delivery}
use Rattle.hy_commands.specs.Invariant.{line_key}
use Rattle.hy_commands.specs.Deliveries.{customer_delivered, delivered_in, delivered_line, with_delivered}
use Rattle.hy_commands.specs.Sorting.{with_all_changed}
use Rattle.hy_indexes.specs.of_store.declared.keys.LineKey.{LineKey}
use Rattle.hy_indexes.specs.of_store.Keys.{is_lesser_waiting}
use Rattle.hy_indexes.specs.of_store.Stored.{Stored}
use Rattle.hy_indexes.specs.Finds.{IsIndexOf}
use Rattle.hy_indexes.specs.Indexes.{HasIndexes, line_key_at}

-- the lines, and what those that were delivered come to
pub record Walked : Type 0 where
  pub rows : List OrderLine
  pub cents : ℤ

abbrev pub walked_line : ℕ → ℕ → Walked → Option OrderLine → Walked
walked_line moment place walk None = walk
walked_line moment place walk (Some row) =
    record { rows = slice_set walk.rows place (delivered_line moment row); cents = walk.cents +ℤ row.amount }

abbrev pub walked : ℕ → List ℕ → Walked → Walked
walked moment [] walk = walk
walked moment (place ∷ places) walk =
    walked moment places (walked_line moment place walk (slice_get walk.rows place))

-- the lines at places
abbrev pub lines_at : List OrderLine → List ℕ → List OrderLine
lines_at rows [] = []
lines_at rows (place ∷ places) = option_to_list (slice_get rows place) ++ lines_at rows places

abbrev pub is_listed : ℕ → List ℕ → Bool
is_listed place places = list_any (λ other. other == place) places

-- the line at a place has a delivery date now
pub record DeliversLine (moment place : ℕ) (row : OrderLine) (old new : Stored) : Type 0 where
  pub here : slice_get old.tables.order_lines place ≡ Some row
  pub rows :
      new ≡ record old {
        tables = record old.tables {
          order_lines = slice_set old.tables.order_lines place (delivered_line moment row);
        };
      }

-- a store whose order lines are others
abbrev pub with_lines : Stored → List OrderLine → Stored
with_lines s rows = record s { tables = record s.tables { order_lines = rows } }

-- a walk over the lines of a store, from no cents on
abbrev pub walk_over : ℕ → List ℕ → Stored → Walked
walk_over moment places s = walked moment places (record { rows = s.tables.order_lines; cents = pos 0 })

-- the places of the lines that entries name
abbrev pub places_of : List (Entry LineKey) → List ℕ
places_of entries = map (λ (entry : Entry LineKey). entry.slot) entries

-- the lines at places are delivered
abbrev pub with_walked : ℕ → List ℕ → Stored → Stored
with_walked moment places s = with_lines s (walk_over moment places s).rows

-- the lines of an order are delivered
abbrev pub with_lines_of : ℕ → Order → Stored → Stored
with_lines_of moment order s =
    with_lines s (with_all_changed (is_line_of order) (delivered_line moment) s.tables.order_lines)

-- what is known of an order's lines before they are delivered: they are its warehouse's, few, each with its entry
pub record HasLinesOf (warehouse : ℕ) (order : Order) (s : Stored) : Type 0 where
  pub own : All (λ row. row.warehouse ≡ warehouse) s.tables.order_lines
  pub home : order.warehouse ≡ warehouse
  pub index : IsIndexOf line_key_at (slice_get s.tables.order_lines) s.lines
  pub unique : AreUnique (map line_key s.tables.order_lines)
  pub few : length (lines_of order s.tables.order_lines) ≤ max_lines
  pub amounts : All (λ row. IsLineAmount row.amount) s.tables.order_lines

-- the rows of an order, its lines and its customer are delivered; the slot of its row of NEW-ORDER is empty, and it has
-- no entry there
abbrev pub with_delivery : Delivery → Order → ℕ → Stored → Stored
with_delivery delivery order slot s = record s {
  tables = with_delivered delivery order s.tables;
  new_order_slots = slice_set s.new_order_slots slot None;
  waiting = without is_lesser_waiting (record { district = order.district; order = order.id }) s.waiting;
}

-- the customer at a place owes some cents more
pub record ChargesCustomer (cents : ℤ) (place : ℕ) (old new : Stored) : Type 0 where
  pub row : Customer
  pub here : slice_get old.tables.customers place ≡ Some row
  pub rows :
      new ≡ record old {
        tables = record old.tables {
          customers = slice_set old.tables.customers place (customer_delivered cents row);
        };
      }

-- the oldest undelivered order of a district is delivered, if there is one, and the indexes are those of the rows
pub record DeliversOldest (delivery : Delivery) (district : ℕ) (old new : Stored) : Type 0 where
  pub rows : new.tables ≡ delivered_in delivery old.tables district
  pub indexes : HasIndexes new
