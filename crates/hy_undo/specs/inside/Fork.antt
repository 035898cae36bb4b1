-- A child that is rolled back: pages of its own where the transaction wrote, and none of those that it grew.
use Rattle.std.specs.Prelude.{◌≡◌, ℕ, ◌+◌, ◌<◌, ◌≤◌, true, false, List, [], length, map, drop, slice_index, slice_index_or, Some, unwrap_or}
use Rattle.std.specs.List.{list_any}
use Rattle.hy_frames.specs.FrameTable.{count_of, lent_at}
use Rattle.hy_space.specs.Space.{SpaceState, HasPage, HasChildPage, SameForOwner, SameForOthers, IsChildPrivate, times, child_table, child_bytes, frame_no, page_count}
use Rattle.hy_undo.specs.UndoLog.{Image, UndoLog}
use Rattle.hy_undo.specs.Touched.{PageAddress, is_same_address, address_of, was_there}

-- the table of an open child
abbrev pub rows_of : SpaceState → ℕ → List (List ℕ)
rows_of s child = unwrap_or (child_table s child) []

-- the addresses of the pages of some images
abbrev pub addresses : List Image → List PageAddress
addresses images = map address_of images

abbrev pub address_at : List Image → ℕ → PageAddress
address_at images i = slice_index_or (addresses images) i (record { segment = 0; page = 0 })

-- an open child has a table beside the owner's, and each has a frame once at most
pub record IsBeside (s : SpaceState) (child : ℕ) : Type 0 where
  pub is_open : child_table s child ≡ Some (rows_of s child)
  pub users : (f : ℕ) → times f s.owner + times f (rows_of s child) ≤ count_of s.frames f
  pub owner_once : (f : ℕ) → times f s.owner ≤ 1
  pub once : (f : ℕ) → times f (rows_of s child) ≤ 1
  pub segments : length (rows_of s child) ≡ length s.owner

-- a segment of the child has as many pages as the owner's, and shares all behind the first ones
pub record SharesGrown (counts : List ℕ) (s : SpaceState) (child segment : ℕ) : Type 0 where
  pub pages : length (slice_index_or (rows_of s child) segment []) ≡ page_count s segment
  pub grown : drop (slice_index counts segment) (slice_index_or (rows_of s child) segment [])
      ≡ drop (slice_index counts segment) (slice_index_or s.owner segment [])

-- only this child changes, each frame has as many users more as the child has it more often, and each that others use
-- too is lent as before
pub record ChangesChild (old new : SpaceState) (child : ℕ) : Type 0 where
  pub owner : SameForOwner old new
  pub others : SameForOthers old new child
  pub counts : (f : ℕ) → count_of new.frames f + times f (rows_of old child)
      ≡ count_of old.frames f + times f (rows_of new child)
  pub lent : (f : ℕ) → times f (rows_of old child) < count_of old.frames f → lent_at new.frames f ≡ lent_at old.frames f
  pub limit : new.frames.max ≡ old.frames.max

-- the child has not the owner's page
abbrev pub IsApart : SpaceState → ℕ → PageAddress → Type 0
IsApart s child address = times (frame_no s address.segment address.page) (rows_of s child) ≡ 0

-- owner and child have a page each, and the child's is private
pub record IsSplit (s : SpaceState) (child : ℕ) (address : PageAddress) : Type 0 where
  pub apart : IsApart s child address
  pub private : IsChildPrivate s child address.segment address.page

-- each page that the log touched is split
abbrev pub AllSplit : UndoLog → SpaceState → ℕ → Type 0
AllSplit log s child =
    (address : PageAddress) → HasPage s address.segment address.page → was_there log.counts address ≡ true
    → list_any (is_same_address address) (addresses log.images) ≡ true → IsSplit s child address

-- the child has no page that was grown
abbrev pub AllGrownApart : UndoLog → SpaceState → ℕ → Type 0
AllGrownApart log s child =
    (address : PageAddress) → HasPage s address.segment address.page → was_there log.counts address ≡ false
    → IsApart s child address

-- the pages that an open child sees
abbrev pub child_pages : SpaceState → ℕ → List (List (List ℕ))
child_pages s child = unwrap_or (child_bytes s child) []

-- the page of an image is there
abbrev pub IsOfPage : SpaceState → Image → Type 0
IsOfPage s image = HasPage s image.segment image.page

-- where a child has the page of an image, it is private, and the image lies within
pub record IsWritableIn (n : ℕ) (counts : List ℕ) (s : SpaceState) (child : ℕ) (image : Image) : Type 0 where
  pub segment : image.segment < length counts
  pub within : image.offset + length image.bytes ≤ n
  pub pages : length (slice_index_or (rows_of s child) image.segment []) ≡ slice_index counts image.segment
  pub private : image.page < slice_index counts image.segment
      → (HasChildPage s child image.segment image.page) × (IsChildPrivate s child image.segment image.page)
