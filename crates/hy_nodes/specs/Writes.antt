-- The bytes of a segment, and what writes into it leave.
use Rattle.std.specs.Prelude.{◌≡◌, ◌≢◌, ℕ, List, length}
use Rattle.hy_space.specs.Space.{SpaceState, SameForChildren, owner_bytes}
use Rattle.hy_undo.specs.UndoLog.{UndoLog}
use Rattle.hy_undo.specs.PrivatePages.{UndoesTheSame}
use Rattle.hy_nodes.specs.Nodes.{list_at}

-- the bytes of the owner's pages in one segment
abbrev pub pages_of : SpaceState → ℕ → List (List ℕ)
pages_of space segment = list_at (owner_bytes space) segment

-- writes through the undo log into one segment, also where the last one was refused: undoing gives what it gave, no
-- child sees a change, the page counts of the begin and the limit of frames stay, and so does every other segment
pub record WritesSegment (n segment : ℕ) (old new : SpaceState) (before after : UndoLog) : Type 0 where
  pub undoes : UndoesTheSame n old new before after
  pub counts : after.counts ≡ before.counts
  pub children : SameForChildren old new
  pub limit : new.frames.max ≡ old.frames.max
  pub segments : length new.owner ≡ length old.owner
  pub others : (other : ℕ) → other ≢ segment → pages_of new other ≡ pages_of old other
