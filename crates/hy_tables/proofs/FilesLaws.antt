-- The texts of a load say its rows again.
use Rattle.std.proofs.Common.{◌≡◌, ◌∙◌, ap, ℕ, suc, List, [], ◌∷◌, None, map, refl, subst}
use Rattle.std.specs.List.{concat}
use Rattle.std.specs.Prelude.{All, IfSome, slice_get}
use Rattle.std.proofs.lemmas.List.Elements.{All-nil, All-cons}
use Rattle.hy_rows.specs.Tables.{Lists}
use Rattle.hy_rows.specs.Catalogue.{names_of}
use Rattle.hy_rows.specs.Rows.{customer_values, customer_with, district_values, district_with, history_values, history_with, item_values, item_with, new_order_values, new_order_with, order_line_values, order_line_with, order_values, order_with, stock_values, stock_with, warehouse_values, warehouse_with}
use Rattle.hy_rows.specs.declared.catalogue.Table.{Table}
use Rattle.hy_rows.specs.declared.catalogue.Table.TheVariants as tables
use Rattle.hy_rows.specs.declared.value.Value.{Value}
use Rattle.csv.specs.Writing.{default_writer, row_text}
use Rattle.hy_csv.specs.Fields.{fields_of}
use Rattle.hy_csv.specs.Texts.{table_reading, table_text}
use Rattle.hy_schema.specs.Loads.{HasFault, IsLoad, all_whole}
use Rattle.hy_schema.specs.declared.refusal.LoadFault.{LoadFault}
use Rattle.hy_loads.proofs.FaultLaws.{load-no_fault}
use Rattle.hy_tables.specs.Files.{ends_read, lists_read, readings_of, texts_of}

-- what follows of each row at its place holds of all rows
pub All-each : {Row : Type 0} (right : ℕ → Row → Type 0) (P : Row → Type 0)
    → ((place : ℕ) (row : Row) → right place row → P row) → (rows : List Row)
    → ((place : ℕ) → IfSome (slice_get rows place) (right place)) → All P rows
All-each right P follows [] each = All-nil P
All-each right P follows (row ∷ rows) each =
    All-cons P row rows (follows 0 row (each 0))
    (All-each (λ place. right (suc place)) P (λ place. follows (suc place)) rows (λ place. each (suc place)))

-- the text of rows, each as its values
values_text : {Row : Type 0} (values_of : Row → List Value) (rows : List Row)
    → map fields_of (map values_of rows) ≡ map (λ row. fields_of (values_of row)) rows
values_text values_of [] = refl
values_text values_of (row ∷ rows) = ap (λ later. fields_of (values_of row) ∷ later) (values_text values_of rows)

pub text-values : {Row : Type 0} (table : Table) (values_of : Row → List Value) (rows : List Row)
    → table_text table (λ row. row) (map values_of rows) ≡ table_text table values_of rows
text-values table values_of rows =
    ap (λ records. concat (map (row_text default_writer) (names_of table ∷ records))) (values_text values_of rows)

-- rows are read again from the text that their values are written as
abbrev pub ReadsBack : {Row : Type 0} → Table → (Row → List Value) → (List Value → Row) → List Row → Type 0
ReadsBack table values_of row_with rows =
    table_reading table row_with (table_text table (λ row. row) (map values_of rows)) ≡ record { rows = rows; unread = None }

pub reads-back : {Row : Type 0} (table : Table) (values_of : Row → List Value) (row_with : List Value → Row)
    → (rows : List Row) → table_reading table row_with (table_text table values_of rows) ≡ record { rows = rows; unread = None }
    → ReadsBack table values_of row_with rows
reads-back table values_of row_with rows back =
    ap (table_reading table row_with) (text-values table values_of rows) ∙ back

-- each text of the lists is read again
pub record AllReadBack (lists : Lists) : Type 0 where
  pub warehouses : ReadsBack tables.Warehouse warehouse_values warehouse_with lists.tables.warehouses
  pub districts : ReadsBack tables.District district_values district_with lists.tables.districts
  pub customers : ReadsBack tables.Customer customer_values customer_with lists.tables.customers
  pub items : ReadsBack tables.Item item_values item_with lists.items
  pub stock : ReadsBack tables.Stock stock_values stock_with lists.tables.stock
  pub orders : ReadsBack tables.Order order_values order_with lists.tables.orders
  pub new_orders : ReadsBack tables.NewOrder new_order_values new_order_with lists.tables.new_orders
  pub order_lines : ReadsBack tables.OrderLine order_line_values order_line_with lists.tables.order_lines
  pub history : ReadsBack tables.History history_values history_with lists.tables.history

pub lists-read_back : (lists : Lists) → AllReadBack lists → lists_read (readings_of (texts_of lists)) ≡ lists
lists-read_back lists back =
    rw (back.warehouses, back.districts, back.customers, back.items, back.stock, back.orders, back.new_orders, back.order_lines, back.history) refl

pub ends-read_back : (lists : Lists) → AllReadBack lists → ends_read (readings_of (texts_of lists)) ≡ all_whole
ends-read_back lists back =
    rw (back.warehouses, back.districts, back.customers, back.items, back.stock, back.orders, back.new_orders, back.order_lines, back.history) refl

pub read_back-sound : (lists : Lists) → IsLoad lists → AllReadBack lists → (fault : LoadFault)
    → HasFault (ends_read (readings_of (texts_of lists))) (lists_read (readings_of (texts_of lists))) fault → ⊥
read_back-sound lists load back fault has =
    load-no_fault lists fault load
    (subst (λ all. HasFault all_whole all fault) (lists-read_back lists back)
    (subst (λ ends. HasFault ends (lists_read (readings_of (texts_of lists))) fault) (ends-read_back lists back) has))
