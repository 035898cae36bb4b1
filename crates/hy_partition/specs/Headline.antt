-- The theorem that the database stands on. Whenever nobody holds a partition: each frame's count is the number of page
-- tables that map it; every open snapshot spells the warehouse's rows after a whole number of its kept commits,
-- replayed one by one; the live pages with the running transaction undone spell the replay of all kept commits, and
-- nothing is to be undone where no job runs and no part of a command over several warehouses is done; and that replay
-- meets the consistency conditions 1 to 9 and 12 (TPC-C clause 3.3.2). The kept commits are those that name the
-- warehouse in the beginning of the serial list that the partition has been told of.
use Rattle.std.specs.Prelude.{◌≡◌, ℕ, ◌≤◌, length, take, MatchOption, None, IsNone, IsSomeAnd}
use Rattle.hy_rows.specs.Spelling.{Spells}
use Rattle.hy_commands.specs.Invariant.{MeetsOwnConditions}
use Rattle.hy_space.specs.Space.{CountsAreExact, NoFrameTwice, owner_bytes, child_bytes}
use Rattle.hy_undo.specs.UndoLog.{undone, empty_log}
use Rattle.hy_partition.specs.Partition.{PartitionState, commits_of, projection_of, rows_after, rows_now}

-- each frame's count is the number of page tables that map it, and no table maps a frame twice
pub record FrameCountsAreExact (p : PartitionState) : Type 0 where
  pub counts : CountsAreExact p.space
  pub once : NoFrameTwice p.space

-- the pages of an open snapshot spell the rows after its number of commits; what is no open snapshot has no pages
abbrev pub SpellsBeginning : ℕ → PartitionState → ℕ → Type 0
SpellsBeginning n p child =
    MatchOption (commits_of p child) (IsNone (child_bytes p.space child)) (λ commits.
    (commits ≤ length p.kept) × IsSomeAnd (child_bytes p.space child)
    (λ bytes. Spells n bytes (rows_after p (take commits p.kept))))

-- with pages of n bytes
pub record Headline (n : ℕ) (p : PartitionState) : Type 0 where
  pub frame_counts_are_exact : FrameCountsAreExact p
  pub open_snapshots_spell_a_beginning : (child : ℕ) → SpellsBeginning n p child
  pub live_pages_undone_spell_all : Spells n (undone (owner_bytes p.space) p.undo) (rows_now p)
  pub nothing_to_undo_where_nothing_runs : p.running ≡ None → p.part ≡ None → p.undo ≡ empty_log p.space
  pub replay_meets_the_conditions : MeetsOwnConditions (rows_now p)
  pub kept_is_the_projection : p.kept ≡ projection_of p.warehouse p.seen
