-- What holds of the undo log of a space, and what a call leaves of it.
use Rattle.std.specs.Prelude.{◌≡◌, ℕ, ◌+◌, ◌≤◌, length, slice_index}
use Rattle.std.specs.List.{AllByRecursion}
use Rattle.hy_frames.specs.FrameTable.{free_of}
use Rattle.hy_space.specs.Space.{SpaceState, HasPage, IsPrivate, KeepsOwn, MakesPrivate, SameForChildren, owner_bytes, page_count}
use Rattle.hy_undo.specs.UndoLog.{Image, UndoLog, undone, with_image}

-- an image lies within a page that is there and private
pub record IsOfPrivatePage (n : ℕ) (space : SpaceState) (image : Image) : Type 0 where
  pub there : HasPage space image.segment image.page
  pub private : IsPrivate space image.segment image.page
  pub within : image.offset + length image.bytes ≤ n

-- a log of a space with pages of n bytes: no segment has lost pages, and every touched page is private, so it is the
-- owner's alone and is written in place
pub record IsUndoLog (n : ℕ) (space : SpaceState) (log : UndoLog) : Type 0 where
  pub segments : length log.counts ≡ length space.owner
  pub counts : (segment : ℕ) → slice_index log.counts segment ≤ page_count space segment
  pub images : AllByRecursion (IsOfPrivatePage n space) log.images

-- what the log undoes is the same as before, and it is the log of the space still
pub record UndoesTheSame (n : ℕ) (old new : SpaceState) (before after : UndoLog) : Type 0 where
  pub undone : undone (owner_bytes new) after ≡ undone (owner_bytes old) before
  pub undo_log : IsUndoLog n new after

-- the page of an image was made private, and the log has this image more
pub record LogsImage (old new : SpaceState) (before after : UndoLog) (image : Image) : Type 0 where
  pub made : MakesPrivate old new image.segment image.page
  pub log : after ≡ with_image before image

-- no segment has more pages than before
pub record HasNoMorePages (old new : SpaceState) : Type 0 where
  pub segments : length new.owner ≡ length old.owner
  pub pages : (segment : ℕ) → page_count new segment ≤ page_count old segment

-- pages at the ends of segments are given up, and what is left of the owner's pages stays its own
pub record GivesUpPages (old new : SpaceState) : Type 0 where
  pub fewer : HasNoMorePages old new
  pub kept : KeepsOwn old new
  pub children : SameForChildren old new
  pub free : free_of old.frames ≤ free_of new.frames
  pub limit : new.frames.max ≡ old.frames.max
