-- Schedules of everything: what the calls on the partitions of all warehouses come to, in whatever order they are made,
-- in a model of lists. The warehouses share one serial list and what each client knows of it. What each of them has
-- kept, the command that runs there and its snapshots are its own. Each call that succeeds is an event, and so is a
-- command over several warehouses that is refused, since it has ended what ran in them. Any other call that is refused
-- changes nothing.
use Rattle.std.specs.Prelude.{◌≡◌, ⊤, ℕ, zero, suc, ◌-◌, ◌≤◌, ◌⊎◌, nat_lt, if◌then◌else◌, Bool, true, false, List, [], ◌∷◌, ◌++◌, filter, length, map, slice_get, slice_set, Option, None, Some, IfSome, IsSome, MatchOption}
use Rattle.std.specs.List.{range_with_len}
use Rattle.std.specs.Option.{ForSome, option_map, unwrap_or}
use Rattle.hy_passes.specs.Agreement.{Agree}
use Rattle.hy_passes.specs.SerialList.{IsSerial, names}
use Rattle.hy_passes.specs.declared.entry.Entry.{Entry}
use Rattle.hy_rows.specs.Tables.{Lists}
use Rattle.hy_schema.specs.Conditions.{first_broken}
use Rattle.hy_schema.specs.declared.refusal.Refusal.{Refusal}
use Rattle.hy_commands.specs.declared.command.Command.{Command}
use Rattle.hy_commands.specs.declared.command.Commit.{Commit}
use Rattle.hy_commands.specs.declared.edition.Edition.TheVariants as editions
use Rattle.hy_commands.specs.Commands.{number_of, warehouses_of, warehouses_of_commit}
use Rattle.hy_commands.specs.Parts.{Database, refusal_in, rows_of}
use Rattle.hy_commands.specs.Transactions.{refusal_of}
use Rattle.hy_database.specs.Database.{all_rows, kept_in}
use Rattle.hy_forks.specs.of_partition.Jobs.{Log}
use Rattle.hy_forks.specs.of_partition.Partition.{PartitionState, projection_of}
use Rattle.hy_forks.specs.of_partition.Schedules as one
use Rattle.hy_forks.specs.of_partition.Schedules.{Does, Event, IsWorldOf, KeepsAll, Taken, Underway, World, with_accepted, with_known, with_open, with_refused}
use Rattle.hy_forks.specs.of_partition.Snapshots.{SnapshotState}
use Rattle.hy_forks.specs.of_crossing.Crossings.{crossing_entry, database_behind, is_named}

-- ---- the model's database

-- one warehouse: what was kept of it and how much of that was drained, the command that runs, whether an answer waits
-- to be taken, and the snapshot that is open under each number, if there is one
pub record Place : Type 0 where
  pub kept : List Commit
  pub drained : ℕ
  pub running : Option Underway
  pub waits : Bool
  pub open_at : ℕ → Option Taken

-- a load, the serial list, how many commits each client knows, and the warehouses 1, 2, 3 and so on
pub record Whole : Type 0 where
  pub load : Lists
  pub log : Log
  pub known : ℕ → ℕ
  pub places : List Place

-- the warehouse with a number, where there is one
abbrev pub place_at : List Place → ℕ → Option Place
place_at places zero = None
place_at places (suc place) = slice_get places place

-- and that list with another in its place
abbrev pub with_place : List Place → ℕ → Place → List Place
with_place places zero after = places
with_place places (suc place) after = slice_set places place after

-- one of the warehouses as a world of its own
abbrev pub world_at : Whole → ℕ → Place → World
world_at whole number place = record {
  load = whole.load;
  warehouse = number;
  log = whole.log;
  kept = place.kept;
  known = whole.known;
  running = place.running;
  waits = place.waits;
  open_at = place.open_at;
}

-- the same change of each warehouse
abbrev pub each_changed : (ℕ → Place → Place) → ℕ → List Place → List Place
each_changed change number [] = []
each_changed change number (place ∷ places) = change number place ∷ each_changed change (suc number) places

abbrev pub with_places : (ℕ → Place → Place) → Whole → Whole
with_places change whole = record whole { places = each_changed change 1 whole.places }

-- a database in which nothing happened yet
abbrev pub fresh_place : Place
fresh_place = record { kept = []; drained = 0; running = None; waits = false; open_at = λ number. None }

abbrev pub fresh_whole : Lists → Whole
fresh_whole lists = record {
  load = lists;
  log = [];
  known = λ client. 0;
  places = map (λ warehouse. fresh_place) lists.tables.warehouses;
}

-- a database at rest behind a serial list, of which its clients know so much: each warehouse has kept what that list has of
-- it, and all of that was drained; nothing runs, no answer waits, no snapshot is open
abbrev pub rested_place : List Commit → Place
rested_place kept =
    record { kept = kept; drained = length kept; running = None; waits = false; open_at = λ number. None }

abbrev pub rested_places : {Row : Type 0} → Log → ℕ → List Row → List Place
rested_places log number [] = []
rested_places log number (row ∷ rows) = rested_place (projection_of number log) ∷ rested_places log (suc number) rows

abbrev pub rested_whole : Lists → Log → (ℕ → ℕ) → Whole
rested_whole lists log known =
    record { load = lists; log = log; known = known; places = rested_places log 1 lists.tables.warehouses }

-- ---- events

-- the clients that look, one after another, while a command over several warehouses is done: before what runs in the
-- warehouse with a number ends, if the command names that; once all that has ended; and behind the command's own commit
pub record LooksAmid : Type 0 where
  pub before_end : ℕ → List ℕ
  pub before_commit : List ℕ
  pub behind : List ℕ

abbrev pub no_looks : LooksAmid
no_looks = record { before_end = λ number. []; before_commit = []; behind = [] }

-- what happens in the warehouse with a number; a client's command over several warehouses, by the second edition, while
-- clients look; a client takes a snapshot of all warehouses, under a number in each; what those under such numbers see is
-- opened under others; those under such numbers are closed; what was kept is drained; a client looks
pub data EventOfAll : Type 0 where
  at : ℕ → Event → EventOfAll
  crosses : ℕ → Command → LooksAmid → EventOfAll
  forks_all : ℕ → (ℕ → ℕ) → EventOfAll
  forks_all_from : (ℕ → ℕ) → (ℕ → ℕ) → EventOfAll
  closes_all : (ℕ → ℕ) → EventOfAll
  drains : EventOfAll
  looks : ℕ → EventOfAll

-- whether an event is of one warehouse alone: no look, and no commit of others
abbrev pub is_local : Event → Bool
is_local (one.looks client) = false
is_local (one.enters entry) = false
is_local event = true

-- a change of the world of one warehouse, which is there: other warehouses stay, and so does what was drained
pub record ChangesPlace (Change : World → World → Type 0) (number : ℕ) (old new : Whole) : Type 0 where
  pub before : Place
  pub after : Place
  pub there : place_at old.places number ≡ Some before
  pub change : Change (world_at old number before) (world_at new number after)
  pub drained : after.drained ≡ before.drained
  pub places : new.places ≡ with_place old.places number after

abbrev pub DoesAt : ℕ → Event → Whole → Whole → Type 0
DoesAt number event old new = (is_local event ≡ true) × ChangesPlace (Does event) number old new

-- what runs in a warehouse, if something does, ends: all its slices are done and it is accepted, or it is refused
abbrev pub Ends : World → World → Type 0
Ends old new = MatchOption old.running (new ≡ old) (λ job.
    ((refusal_of old.load.items old.warehouse job.command (one.rows_of old) ≡ None) × (new ≡ with_accepted old job))
    ⊎ (new ≡ with_refused old))

-- some clients look at a serial list, one after another: each of them knows all of it then
abbrev pub with_all_known : (ℕ → ℕ) → List ℕ → Log → ℕ → ℕ
with_all_known known [] log = known
with_all_known known (client ∷ clients) log = with_all_known (with_known known client log) clients log

abbrev pub with_looks : List ℕ → Whole → Whole
with_looks clients whole = record whole { known = with_all_known whole.known clients whole.log }

-- what runs in some warehouses ends, one after the other, and clients look before each end and behind the last one
abbrev pub EndsIn : LooksAmid → List ℕ → Whole → Whole → Type 0
EndsIn amid [] old new = new ≡ with_looks amid.before_commit old
EndsIn amid (number ∷ numbers) old new =
    (mid : Whole) × ChangesPlace Ends number (with_looks (amid.before_end number) old) mid × EndsIn amid numbers mid new

-- the warehouses that are there and that a command names, in rising order
abbrev pub named_in : Whole → Command → List ℕ
named_in whole command = filter (is_named command) (range_with_len 1 (length whole.places))

-- a commit enters the end of a kept list, where it names the warehouse
abbrev pub with_commit : Commit → ℕ → Place → Place
with_commit commit number place =
    if names warehouses_of_commit number commit then record place { kept = place.kept ++ commit ∷ [] } else place

-- it enters the serial list too, and a client knows all of that list then
abbrev pub with_entry : Whole → ℕ → Entry Commit → Whole
with_entry whole client entry = record (with_places (with_commit entry.commit) whole) {
  log = whole.log ++ entry ∷ [];
  known = with_known whole.known client (whole.log ++ entry ∷ []);
}

-- why a command over several warehouses is refused, and what it enters, stamped with what its client knew
abbrev pub refusal_behind : Whole → Command → Option Refusal
refusal_behind whole command = refusal_in (database_behind whole.load whole.log) command

abbrev pub entry_behind : Whole → Command → ℕ → Entry Commit
entry_behind whole command stamp =
    crossing_entry editions.Second (kept_in (database_behind whole.load whole.log) command) stamp whole.log

-- what runs in the warehouses that a command names ends; then the command is refused, or it is accepted and enters; clients
-- look before each of these commits, and behind them
pub record DoesCross (client : ℕ) (command : Command) (amid : LooksAmid) (old new : Whole) : Type 0 where
  pub several : nat_lt 1 (length (warehouses_of command)) ≡ true
  pub ended : Whole
  pub ends : EndsIn amid (named_in old command) old ended
  pub done : Whole
  pub does : (done ≡ ended)
      ⊎ ((refusal_behind ended command ≡ None)
      × (done ≡ with_entry ended client (entry_behind ended command (old.known client))))
  pub looked : new ≡ with_looks amid.behind done

-- a snapshot of a warehouse as it is now, under the number that it has there
abbrev pub with_snapshot : Whole → (ℕ → ℕ) → ℕ → Place → Place
with_snapshot whole children number place = record place {
  open_at = with_open place.open_at (children number) (Some (record {
    commits = length place.kept;
    rows = one.rows_of (world_at whole number place);
  }));
}

-- a snapshot of what another one sees
abbrev pub with_snapshot_from : (ℕ → ℕ) → (ℕ → ℕ) → ℕ → Place → Place
with_snapshot_from from children number place = record place {
  open_at = with_open place.open_at (children number) (place.open_at (from number));
}

-- that one closed
abbrev pub without_snapshot : (ℕ → ℕ) → ℕ → Place → Place
without_snapshot children number place =
    record place { open_at = with_open place.open_at (children number) None }

-- all that is kept is drained
abbrev pub with_drained : ℕ → Place → Place
with_drained number place = record place { drained = length place.kept }

-- what an event does
abbrev pub DoesAll : EventOfAll → Whole → Whole → Type 0
DoesAll (at number event) old new = DoesAt number event old new
DoesAll (crosses client command amid) old new = DoesCross client command amid old new
DoesAll (forks_all client children) old new =
    ((number : ℕ) → IfSome (place_at old.places number) (λ place. place.open_at (children number) ≡ None))
    × (new ≡ record (with_places (with_snapshot old children) old) { known = with_known old.known client old.log })
DoesAll (forks_all_from from children) old new =
    ((number : ℕ) → IfSome (place_at old.places number) (λ place.
    IsSome (place.open_at (from number)) × (place.open_at (children number) ≡ None)))
    × (new ≡ with_places (with_snapshot_from from children) old)
DoesAll (closes_all children) old new =
    ((number : ℕ) → IfSome (place_at old.places number) (λ place. IsSome (place.open_at (children number))))
    × (new ≡ with_places (without_snapshot children) old)
DoesAll drains old new = new ≡ with_places with_drained old
DoesAll (looks client) old new = new ≡ record old { known = with_known old.known client old.log }

-- what a call comes to: its event, or nothing
abbrev pub HappensAll : EventOfAll → Whole → Whole → Type 0
HappensAll event old new = (new ≡ old) ⊎ DoesAll event old new

-- one event after another
abbrev pub RunsAll : List EventOfAll → Whole → Whole → Type 0
RunsAll [] old new = new ≡ old
RunsAll (event ∷ events) old new = (mid : Whole) × HappensAll event old mid × RunsAll events mid new

-- ---- what no schedule breaks

-- a warehouse is in order alone; no more of it was drained than is kept, what runs there has a stamp that the serial list
-- respects, and its rows are those of the warehouse in the database behind that list
pub record KeepsPlace (lists : Lists) (whole : Whole) (number : ℕ) (place : Place) : Type 0 where
  pub alone : KeepsAll lists number (world_at whole number place)
  pub drained : place.drained ≤ length place.kept
  pub stamped : ForSome place.running (λ job. job.stamp ≤ length whole.log)
  pub rows : one.rows_of (world_at whole number place) ≡ rows_of number (database_behind lists whole.log)

-- what the warehouse with a number has kept
abbrev pub kept_at : List Place → ℕ → List Commit
kept_at places number = unwrap_or (option_map (λ place. place.kept) (place_at places number)) []

-- the load is that of the first moment, and no warehouse came or went. The serial list names warehouses that are there,
-- respects its stamps, and numbers its commits of several warehouses 1, 2, 3 and so on; the kept lists agree on these.
-- All rows together meet the consistency conditions 1 to 10 and 12 (TPC-C clause 3.3.2)
pub record KeepsEverything (lists : Lists) (whole : Whole) : Type 0 where
  pub load : whole.load ≡ lists
  pub count : length whole.places ≡ length lists.tables.warehouses
  pub each : (number : ℕ) → IfSome (place_at whole.places number) (KeepsPlace lists whole number)
  pub serial : IsSerial warehouses_of_commit number_of (length lists.tables.warehouses) whole.log
  pub agree : Agree warehouses_of_commit number_of (length lists.tables.warehouses) (kept_at whole.places)
  pub conditions : first_broken (all_rows (database_behind lists whole.log)) ≡ None

-- the snapshot of a warehouse under a number has the rows of the warehouse in a database
abbrev pub HasSnapshotOf : Database → ℕ → ℕ → Place → Type 0
HasSnapshotOf database number child place =
    place.open_at child ≡ Some (record { commits = length place.kept; rows = rows_of number database })

-- ---- the whole of some partitions

-- the world of a place is that of a partition
abbrev pub IsPlaceOf : ℕ → Log → Whole → ℕ → PartitionState → Place → Type 0
IsPlaceOf n log whole number p place = IsWorldOf n log p (world_at whole number place)

-- so it is for each, as many as there are
abbrev pub ArePlacesOf : ℕ → Log → Whole → ℕ → List PartitionState → List Place → Type 0
ArePlacesOf n log whole number [] [] = ⊤
ArePlacesOf n log whole number (p ∷ parts) (place ∷ places) =
    IsPlaceOf n log whole number p place × ArePlacesOf n log whole (suc number) parts places
ArePlacesOf n log whole number parts places = ⊥

-- a whole is that of partitions, one for each warehouse in order, beside a journal with this serial list
abbrev pub IsWholeOf : ℕ → Log → List PartitionState → Whole → Type 0
IsWholeOf n log parts whole = (whole.log ≡ log) × ArePlacesOf n log whole 1 parts whole.places

-- what was drained of each warehouse is what it has of a beginning of the serial list
abbrev pub IsDrainedTo : Log → Whole → Type 0
IsDrainedTo seen whole = (number : ℕ)
    → IfSome (place_at whole.places number) (λ place. place.drained ≡ length (projection_of number seen))

-- an event happens in a whole, and leaves that of partitions beside a journal with this serial list
abbrev pub LeadsAll : ℕ → EventOfAll → Whole → Log → List PartitionState → Type 0
LeadsAll n event whole log parts = (next : Whole) × DoesAll event whole next × IsWholeOf n log parts next

-- the numbers of some snapshots, one for each warehouse in order
abbrev pub children_of : List SnapshotState → ℕ → ℕ
children_of snapshots number =
    unwrap_or (option_map (λ snapshot. snapshot.child) (slice_get snapshots (number - 1))) 0
