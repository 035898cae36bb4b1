-- What writes into a store leave, whether they succeed or are refused half-way.
use Rattle.std.specs.Prelude.{◌≡◌, ℕ, length}
use Rattle.hy_space.specs.Space.{SameForChildren, SpaceState, owner_bytes}
use Rattle.hy_undo.specs.UndoLog.{UndoLog}
use Rattle.hy_undo.specs.PrivatePages.{IsUndoLog, UndoesTheSame}
use Rattle.hy_store.specs.Stored.{HasStore, Stored, stored}

-- what the owner's pages of a space say, of n bytes each
abbrev pub stored_in : ℕ → SpaceState → Stored
stored_in n space = stored n (owner_bytes space)

-- undoing gives what it gave, no child sees a change, and the page counts of the begin, the number of segments and the
-- limit of frames stay
pub record WritesStore (n : ℕ) (old new : SpaceState) (before after : UndoLog) : Type 0 where
  pub undoes : UndoesTheSame n old new before after
  pub counts : after.counts ≡ before.counts
  pub children : SameForChildren old new
  pub segments : length new.owner ≡ length old.owner
  pub limit : new.frames.max ≡ old.frames.max

-- what a call needs that writes: pages that are a store, and the undo log that is theirs
pub record IsWritableStore (n : ℕ) (space : SpaceState) (undo : UndoLog) : Type 0 where
  pub store : HasStore n (owner_bytes space)
  pub undo_log : IsUndoLog n space undo

-- a store that is as it was but for a change
pub record ChangesStore (n : ℕ) (old new : SpaceState) (change : Stored → Stored) : Type 0 where
  pub store : HasStore n (owner_bytes new)
  pub changed : stored_in n new ≡ change (stored_in n old)

-- a store that a step leads to from the one before
pub record LeavesStore (n : ℕ) (old new : SpaceState) (IsStep : Stored → Stored → Type 0) : Type 0 where
  pub store : HasStore n (owner_bytes new)
  pub step : IsStep (stored_in n old) (stored_in n new)
