-- The text of a refusal: its number and its name, and what it was given.
use Rattle.std.specs.Prelude.{ℕ, List, ◌++◌, codes}
use Rattle.std.specs.Fmt.{decimal}
use Rattle.hy_rows.specs.Catalogue.{definition_of}
use Rattle.hy_schema.specs.declared.refusal.LoadFault.{LoadFault}
use Rattle.hy_schema.specs.declared.refusal.LoadFault.TheVariants as fault
use Rattle.hy_schema.specs.declared.refusal.Refusal.{Refusal}
use Rattle.hy_schema.specs.declared.refusal.Refusal.TheVariants as refusal

-- the broken row or condition
abbrev pub load_fault_text : LoadFault → List ℕ
load_fault_text (fault.Row table number) = (definition_of table).name ++ codes " row " ++ decimal number
load_fault_text (fault.Condition number) = codes "condition " ++ decimal number

abbrev pub refusal_text : Refusal → List ℕ
refusal_text refusal.NoMemory = codes "E1 NoMemory"
refusal_text refusal.NoFrame = codes "E2 NoFrame"
refusal_text refusal.HistoryFull = codes "E3 HistoryFull"
refusal_text refusal.NoSuchWarehouse = codes "E4 NoSuchWarehouse"
refusal_text refusal.NoSuchDistrict = codes "E5 NoSuchDistrict"
refusal_text refusal.NoSuchCustomer = codes "E6 NoSuchCustomer"
refusal_text refusal.NoSuchItem = codes "E7 NoSuchItem"
refusal_text refusal.OutOfRange = codes "E8 OutOfRange"
refusal_text refusal.Busy = codes "E9 Busy"
refusal_text refusal.NotRunning = codes "E10 NotRunning"
refusal_text refusal.NotMine = codes "E11 NotMine"
refusal_text (refusal.BadLoad fault) = codes "E12 BadLoad " ++ load_fault_text fault
refusal_text (refusal.BadQuery place) = codes "E13 BadQuery " ++ decimal place
refusal_text refusal.LogFailed = codes "E14 LogFailed"
refusal_text (refusal.LogMalformed place) = codes "E15 LogMalformed " ++ decimal place
refusal_text refusal.Closed = codes "E16 Closed"
refusal_text refusal.QueueFull = codes "E17 QueueFull"
