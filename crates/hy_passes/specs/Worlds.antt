-- What clauses see of a pass, a seat, a kept list and the journal.
use Rattle.std.specs.Prelude.{ℕ, [], List}
use Rattle.hy_passes.specs.declared.entry.Entry.{Entry}

-- a client's pass: a beginning of the serial list that the client has seen, and the number of looks at the list
pub record PassState (C : Type 0) : Type 0 where
  pub client : ℕ
  pub seen : List (Entry C)
  pub looks : ℕ

-- a partition's seat: the partition's warehouse, and a beginning of the serial list that the partition has seen
pub record SeatState (C : Type 0) : Type 0 where
  pub warehouse : ℕ
  pub seen : List (Entry C)

-- the journal: all of the serial list, and the warehouses that have still to be told of a commit that names them
pub record SerialListState (C : Type 0) : Type 0 where
  pub log : List (Entry C)
  pub behind : List ℕ

-- the seat of a warehouse's partition, and the pass of a client, before the first commit
abbrev pub new_partition : {C : Type 0} → ℕ → SeatState C
new_partition warehouse = record { warehouse = warehouse; seen = [] }

abbrev pub new_client : {C : Type 0} → ℕ → PassState C
new_client client = record { client = client; seen = []; looks = 0 }

-- a partition's kept list: what its seat has been told, and for how many more commits there is room without memory
pub record KeptState (C : Type 0) : Type 0 where
  pub warehouse : ℕ
  pub seen : List (Entry C)
  pub room : ℕ
