-- The load of `first`: a generated database of one warehouse and one item.
use Rattle.std.specs.Prelude.{ℕ, List}
use Rattle.hy_rows.specs.declared.item.Item.{Item}
use Rattle.hy_rows.specs.Tables.{Tables}
use Rattle.hy_tables.specs.Generated.{generated_lists}

-- its tables, with so many customers in each district
abbrev pub generated : ℕ → Tables
generated customers = (generated_lists 1 customers 1).tables

-- its one item
abbrev pub generated_items : ℕ → List Item
generated_items customers = (generated_lists 1 customers 1).items
