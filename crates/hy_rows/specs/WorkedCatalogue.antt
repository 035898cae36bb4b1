-- What follows from the catalogue, computed by the checker: places, files and headers, and the code's constants.
use Rattle.std.specs.Prelude.{◌≡◌, [], ◌∷◌, codes, length, map, refl}
use Rattle.std.specs.List.{range_with_len}
use Rattle.hy_rows.specs.Catalogue.{all_tables, file_of, max_columns, max_slot_bytes, names_of, place_of, segment_of, segments, tables_by_file, tables_on_pages}
use Rattle.hy_rows.specs.declared.catalogue.TheConstants.{MAX_COLUMNS, MAX_SLOT_BYTES, SEGMENTS, TABLES}
use Rattle.hy_rows.specs.declared.catalogue.Table.TheVariants as tables

-- each table has its own place, and those on pages have the segments in this order
pub tables-places : map place_of all_tables ≡ range_with_len 0 9
tables-places = refl

pub tables-segments : map segment_of tables_on_pages ≡ range_with_len 0 8
tables-segments = refl

-- what the code has as constants
pub code-tables : TABLES ≡ length all_tables
code-tables = refl

pub code-segments : SEGMENTS ≡ segments
code-segments = refl

pub code-columns : MAX_COLUMNS ≡ max_columns
code-columns = refl

pub code-slots : MAX_SLOT_BYTES ≡ max_slot_bytes
code-slots = refl

-- the files in the order in which they are read
pub tables-files : map file_of tables_by_file
    ≡ codes "warehouse.csv" ∷ codes "district.csv" ∷ codes "customer.csv" ∷ codes "item.csv" ∷ codes "stock.csv"
    ∷ codes "orders.csv" ∷ codes "neworder.csv" ∷ codes "orderline.csv" ∷ codes "history.csv" ∷ []
tables-files = refl

-- the header of DISTRICT's file
pub district-names : names_of tables.District
    ≡ codes "D_ID" ∷ codes "D_W_ID" ∷ codes "D_NAME" ∷ codes "D_TAX" ∷ codes "D_YTD" ∷ codes "D_NEXT_O_ID" ∷ []
district-names = refl
