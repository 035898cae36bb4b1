-- What stays while pages are written, cut off and put back.
use Rattle.std.specs.Prelude.{◌≡◌, ℕ, ◌+◌, ◌-◌, ◌<◌, ◌≤◌, [], length, slice_index_or, take}
use Rattle.hy_frames.specs.FrameTable.{free_of}
use Rattle.hy_space.specs.Space.{SpaceState, HasPage, IsPrivate, KeepsOwn, SameForChildren, page_count}
use Rattle.hy_undo.specs.UndoLog.{Image, UndoLog}

-- no segment loses pages, and each private page is so still
pub record KeepsPages (old new : SpaceState) : Type 0 where
  pub segments : length new.owner ≡ length old.owner
  pub pages : (segment : ℕ) → page_count old segment ≤ page_count new segment
  pub kept : KeepsOwn old new

-- an image can be put back: where its page wasn't cut off, it is private
pub record IsPrivateWhereThere (n : ℕ) (space : SpaceState) (image : Image) : Type 0 where
  pub segment : image.segment < length space.owner
  pub private : HasPage space image.segment image.page → IsPrivate space image.segment image.page
  pub within : image.offset + length image.bytes ≤ n

-- the owner's table stays, and each page of its own
pub record KeepsTable (old new : SpaceState) : Type 0 where
  pub table : new.owner ≡ old.owner
  pub kept : KeepsOwn old new
  pub children : SameForChildren old new
  pub free : free_of new.frames ≡ free_of old.frames
  pub limit : new.frames.max ≡ old.frames.max

-- a log without its last image
abbrev pub without_last : UndoLog → UndoLog
without_last log = record { counts = log.counts; images = take (length log.images - 1) log.images }

-- its last image
abbrev pub last_image : UndoLog → Image
last_image log =
    slice_index_or log.images (length log.images - 1) (record { segment = 0; page = 0; offset = 0; bytes = [] })
