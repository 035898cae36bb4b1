-- Which passes, journal, seats, desks and accounts belong together.
use Rattle.std.specs.Prelude.{ℕ, ◌-◌, List, [], slice_index_or}
use Rattle.atomic_table.specs.Seated.{TableId}

-- that of no shared word
abbrev pub no_table : TableId
no_table = record { words = 0; slots = 0; views_name = 0; atom = 0; block = 0; offset = 0; slot_names = [] }

-- one kit: the shared word of its serial list, that of its accounts, those of the desks of its partitions, the last
-- warehouse's first, its name, how many partitions and clients it was made for, and how many commits of each warehouse come
-- from the log of an earlier life, where one is recovered
pub record Origin : Type 0 where
  pub word : TableId
  pub accounts : TableId
  pub desks : List TableId
  pub name : ℕ
  pub partitions : ℕ
  pub clients : ℕ
  pub replayed : List ℕ

-- that of no kit
abbrev pub no_origin : Origin
no_origin = record {
  word = no_table;
  accounts = no_table;
  desks = [];
  name = 0;
  partitions = 0;
  clients = 0;
  replayed = [];
}

-- the desk of a warehouse's partition
abbrev pub desk_of : Origin → ℕ → TableId
desk_of kit warehouse = slice_index_or kit.desks (kit.partitions - warehouse) no_table

-- how many commits of a warehouse come from a log
abbrev pub replayed_of : Origin → ℕ → ℕ
replayed_of kit warehouse = slice_index_or kit.replayed (warehouse - 1) 0
