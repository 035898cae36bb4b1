-- Items that are gathered one by one, each once.
use Rattle.std.specs.Prelude.{ℕ, ◌+◌, ◌&&◌, not, Bool, if◌then◌else◌, List, [], ◌∷◌, ◌++◌, fold, map}
use Rattle.hy_rows.specs.declared.order_line.OrderLine.{OrderLine}
use Rattle.hy_writers.specs.of_index.declared.key.Entry.{Entry}
use Rattle.hy_writers.specs.of_index.Index.{between}
use Rattle.hy_commands.specs.declared.command.StockLevel.{StockLevel}
use Rattle.hy_commands.specs.StockLevels.{is_low}
use Rattle.hy_writers.specs.of_store.declared.keys.LineKey.{LineKey}
use Rattle.hy_writers.specs.of_store.Keys.{is_lesser_line}
use Rattle.hy_writers.specs.of_store.Stored.{Stored}
use Rattle.hy_writers.specs.Deliveries.{is_listed}
use Rattle.hy_tpcc.specs.Lines.{lines_named}

-- an item that passes is put behind the others, where it isn't there yet
abbrev pub with_item : (ℕ → Bool) → List ℕ → ℕ → List ℕ
with_item test low item = if test item && not (is_listed item low) then low ++ item ∷ [] else low

abbrev pub with_items : (ℕ → Bool) → List ℕ → List ℕ → List ℕ
with_items test low items = fold (with_item test) low items

abbrev pub items_named : List OrderLine → List (Entry LineKey) → List ℕ
items_named rows entries = map (λ (row : OrderLine). row.item) (lines_named rows entries)

-- whether a Stock-Level counts an item
abbrev pub counts_item : StockLevel → Stored → ℕ → Bool
counts_item level s = is_low level.warehouse level.threshold s.tables.stock

-- with the items that it counts of the lines that entries name
abbrev pub with_low_items : StockLevel → Stored → List (Entry LineKey) → List ℕ → List ℕ
with_low_items level s entries low = with_items (counts_item level s) low (items_named s.tables.order_lines entries)

-- the entries of the lines of an order of a district
abbrev pub entries_of : ℕ → ℕ → List (Entry LineKey) → List (Entry LineKey)
entries_of order district entries =
    between is_lesser_line (record { order = order; district = district; number = 0 })
    (record { order = order; district = district + 1; number = 0 }) entries
