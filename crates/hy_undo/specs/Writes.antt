-- What calls that write through the undo log do to a space.
use Rattle.std.specs.Prelude.{◌≡◌, ◌≢◌, ℕ, ◌+◌, ◌/◌, ◌≤◌, List, [], length, slice_index_or, IsSome}
use Rattle.std.specs.List.{concat}
use Rattle.hy_page.specs.Bytes.{overwritten}
use Rattle.hy_frames.specs.FrameTable.{free_of}
use Rattle.hy_space.specs.Space.{SpaceState, SameForChildren, child_table, owner_bytes}
use Rattle.hy_undo.specs.UndoLog.{UndoLog, undone, page_counts}
use Rattle.hy_undo.specs.PrivatePages.{IsUndoLog}

-- no page comes or goes, at most so many frames are taken, and the limit of frames stays
pub record TakesFrames (most : ℕ) (old new : SpaceState) : Type 0 where
  pub pages : page_counts new ≡ page_counts old
  pub frames : free_of old.frames ≤ free_of new.frames + most
  pub limit : new.frames.max ≡ old.frames.max

-- at most so many writes: no child sees a change, undoing gives what it gave, the undo log is one still and has as many
-- images more at most, and as many frames are taken at most
pub record CanUndo (n most : ℕ) (old new : SpaceState) (before after : UndoLog) : Type 0 where
  pub children : SameForChildren old new
  pub undone : undone (owner_bytes new) after ≡ undone (owner_bytes old) before
  pub undo_log : IsUndoLog n new after
  pub counts : after.counts ≡ before.counts
  pub images : length after.images ≤ length before.images + most
  pub frames : TakesFrames most old new

-- the same of writes, at most so many, between which pages may be grown: so many frames are taken at most, and the
-- limit of frames stays
pub record CanUndoGrowth (n writes most : ℕ) (old new : SpaceState) (before after : UndoLog) : Type 0 where
  pub children : SameForChildren old new
  pub undone : undone (owner_bytes new) after ≡ undone (owner_bytes old) before
  pub undo_log : IsUndoLog n new after
  pub counts : after.counts ≡ before.counts
  pub images : length after.images ≤ length before.images + writes
  pub frames : free_of old.frames ≤ free_of new.frames + most
  pub limit : new.frames.max ≡ old.frames.max

-- some child is open
abbrev pub HasChild : SpaceState → Type 0
HasChild space = (child : ℕ) × IsSome (child_table space child)

-- no frame is free, and a child is open, which may share the page that is written
pub record IsOutOfFrames (space : SpaceState) : Type 0 where
  pub full : free_of space.frames ≡ 0
  pub open_child : HasChild space

-- the pages of a segment
abbrev pub pages_at : List (List (List ℕ)) → ℕ → List (List ℕ)
pages_at all segment = slice_index_or all segment []

-- bytes were written over those from a place on among all bytes of a segment; no page came or went, and no other segment
-- changed
pub record WritesAcross (old new : List (List (List ℕ))) (segment start : ℕ) (bytes : List ℕ) : Type 0 where
  pub segments : length new ≡ length old
  pub pages : length (pages_at new segment) ≡ length (pages_at old segment)
  pub joined : concat (pages_at new segment) ≡ overwritten (concat (pages_at old segment)) start bytes
  pub others : (other : ℕ) → other ≢ segment → pages_at new other ≡ pages_at old other

-- how many pages so many bytes from an offset of a page on lie on at most
abbrev pub pages_of_part : ℕ → ℕ → ℕ → ℕ
pages_of_part n offset count = (offset + count) / n + 1
