-- What `check` does: it tests the load in the files of a folder, and prints what it finds in it or, where a log is named, in
-- the database behind that.
use Rattle.std.specs.Prelude.{◌⊎◌, ℕ, ℤ, List, ◌++◌, Option, None, Some, codes, length}
use Rattle.std.specs.List.{flat_map}
use Rattle.std.specs.Fmt.{decimal, signed_decimal}
use Rattle.std.specs.Io.KnownBytes.{Appends}
use Rattle.hy_rows.specs.declared.warehouse.Warehouse.{Warehouse}
use Rattle.hy_rows.specs.Tables.{Lists, Tables, of_warehouse}
use Rattle.hy_files.specs.Files.{FilesByPath}
use Rattle.hy_files.specs.Loads.{IsReadFault}
use Rattle.hy_batches.specs.Batches.{Batch}
use Rattle.hy_program.specs.declared.fault.RunFault.{RunFault}
use Rattle.hy_program.specs.declared.fault.RunFault.TheVariants as fault
use Rattle.hy_program.specs.Faults.{IsOfFiles}
use Rattle.hy_program.specs.Reading.{HasBoth, HasLoad, HasLog, IsReadAllFault}
use Rattle.hy_program.specs.Replay.{IsReplayed, IsWhyLost, greatest_limits}

-- the line of a warehouse with this W_YTD and so many undelivered orders
abbrev pub warehouse_line : ℕ → ℤ → ℕ → List ℕ
warehouse_line number ytd undelivered =
    codes "warehouse " ++ decimal number ++ codes " ytd " ++ signed_decimal ytd
    ++ codes " open " ++ decimal undelivered ++ codes "\n"

-- the line of a warehouse of these tables
abbrev pub line_of : Tables → Warehouse → List ℕ
line_of tables row = warehouse_line row.id row.ytd (length (of_warehouse row.id tables).new_orders)

-- a line for each warehouse, and then that the consistency conditions hold
abbrev pub report : Tables → List ℕ
report tables =
    flat_map (line_of tables) tables.warehouses ++ codes "conditions 1 2 3 4 5 6 7 8 9 10 12 hold\n"

-- these rows stand behind a log of the load in the files of the folder
abbrev pub HaveRows : List ℕ → List ℕ → Option FilesByPath → Tables → Type 0
HaveRows directory log files rows =
    (lists : Lists) × (batches : List Batch) × HasLog directory log files lists batches × IsReplayed lists batches rows

-- the files are those of a load, and what is found stands behind the bytes that were there; where a log is named, it is one of
-- this load, and what is found is what its batches come to
abbrev pub IsChecked : List ℕ → Option (List ℕ) → Option FilesByPath → Option (List ℕ) → Option (List ℕ) → Type 0
IsChecked directory None files old new =
    (lists : Lists) × HasLoad files directory lists × Appends old new (report lists.tables)
IsChecked directory (Some log) files old new =
    (rows : Tables) × HaveRows directory log files rows × Appends old new (report rows)

-- why it isn't done: the files can't be read or are no load, before anything was printed; or the output failed. Where a log is
-- named, it is read behind the nine files, and what is wrong with it comes behind what is wrong with the load
abbrev pub IsCheckFault : List ℕ → Option (List ℕ) → Option FilesByPath → Type 0 → RunFault → Type 0
IsCheckFault directory None files unprinted (fault.Writer error) = (lists : Lists) × HasLoad files directory lists
IsCheckFault directory None files unprinted why = IsOfFiles directory (IsReadFault files directory) why × unprinted
IsCheckFault directory (Some log) files unprinted (fault.Writer error) = (rows : Tables) × HaveRows directory log files rows
IsCheckFault directory (Some log) files unprinted (fault.Refused refusal) =
    (IsReadAllFault directory log files (fault.Refused refusal)
    ⊎ ((lists : Lists) × (bytes : List ℕ) × HasBoth directory log files lists bytes × IsWhyLost greatest_limits lists bytes refusal))
    × unprinted
IsCheckFault directory (Some log) files unprinted why = IsReadAllFault directory log files why × unprinted
