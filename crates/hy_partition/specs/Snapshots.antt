-- Snapshots.
use Rattle.std.specs.Prelude.{◌≡◌, ℕ, ◌≤◌, List, length}
use Rattle.atomic_table.specs.Seated.{TableId}
use Rattle.hy_tickets.specs.Desks.{TicketState}
use Rattle.hy_commands.specs.declared.command.Commit.{Commit}
use Rattle.hy_commands.specs.Replay.{rows_after}
use Rattle.hy_frames.specs.FrameTable.{IsPageSize, max_frames}
use Rattle.hy_rows.specs.Spelling.{HasTables, Spells, list_at, tables_of}
use Rattle.hy_rows.specs.Tables.{Lists}

-- the load, the warehouse, the name of the kit and the desk that it comes from, the child of the warehouse's page tables,
-- the number of commits and the commits, and the bytes of the pages by segment
pub record SnapshotState : Type 0 where
  pub load : Lists
  pub warehouse : ℕ
  pub name : ℕ
  pub desk : TableId
  pub child : ℕ
  pub commits : ℕ
  pub kept : List Commit
  pub bytes : List (List (List ℕ))

-- what a snapshot shares with those that are forked from it: the commits that it is behind, and the bytes of its pages
pub record PagesState : Type 0 where
  pub kept : List Commit
  pub bytes : List (List (List ℕ))

-- a snapshot with a ticket, whose number is that of its child
abbrev pub snapshot_of : Lists → TicketState → ℕ → PagesState → SnapshotState
snapshot_of lists ticket commits shared = record {
  load = lists;
  warehouse = ticket.warehouse;
  name = ticket.name;
  desk = ticket.desk;
  child = ticket.number;
  commits = commits;
  kept = shared.kept;
  bytes = shared.bytes;
}

abbrev pub pages_of : SnapshotState → PagesState
pages_of s = record { kept = s.kept; bytes = s.bytes }

abbrev pub ticket_of : SnapshotState → TicketState
ticket_of s = record { warehouse = s.warehouse; name = s.name; desk = s.desk; number = s.child }

-- the rows of all tables that a snapshot has, with pages of n bytes
abbrev pub lists_in : ℕ → SnapshotState → Lists
lists_in n snapshot = record { items = snapshot.load.items; tables = tables_of n snapshot.bytes }

-- a snapshot has its tables, on pages of n bytes; a segment has no more pages than there can be frames
pub record IsWhole (n : ℕ) (bytes : List (List (List ℕ))) : Type 0 where
  pub size : IsPageSize n
  pub few : (segment : ℕ) → length (list_at bytes segment) ≤ max_frames
  pub tables : HasTables n bytes

-- and its pages spell the rows after its commits
pub record IsTakenBehind (n : ℕ) (snapshot : SnapshotState) : Type 0 where
  pub whole : IsWhole n snapshot.bytes
  pub commits : snapshot.commits ≡ length snapshot.kept
  pub spells : Spells n snapshot.bytes (rows_after snapshot.load snapshot.warehouse snapshot.kept)
