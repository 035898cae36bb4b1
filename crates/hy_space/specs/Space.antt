-- Page tables over one table of frames: the owner's, and those of its open children.
use Rattle.std.specs.Prelude.{◌≡◌, ◌≢◌, ℕ, ◌+◌, ◌-◌, ◌<◌, ◌≤◌, ◌==◌, nat_lt, Bool, true, false, List, [], ◌∷◌, ◌++◌, length, map, take, slice_index, slice_index_or, slice_set, replicate, count_by, sum_by, All, Option, None, Some, IsSome, IsSomeAnd, unwrap_or, option_to_list}
use Rattle.std.specs.Option.{option_map}
use Rattle.std.specs.List.{flat_map}
use Rattle.hy_frames.specs.FrameTable.{FrameTable, Sets, max_frames, frame_at, count_of, page_of, lent_at, in_use, free_of, IsPageSize}

-- for each table the frame number of each page, by segment; a closed child has none
pub record SpaceState : Type 0 where
  pub owner : List (List ℕ)
  pub children : List (Option (List (List ℕ)))
  pub frames : FrameTable

-- the bytes of each page of a table, by segment
abbrev pub table_bytes : FrameTable → List (List ℕ) → List (List (List ℕ))
table_bytes frames table = map (map (page_of frames)) table

-- the bytes that the owner sees
abbrev pub owner_bytes : SpaceState → List (List (List ℕ))
owner_bytes s = table_bytes s.frames s.owner

-- a child's table, or `None` where no such child is open
abbrev pub child_table : SpaceState → ℕ → Option (List (List ℕ))
child_table s child = slice_index_or s.children child None

-- the bytes that a child sees
abbrev pub child_bytes : SpaceState → ℕ → Option (List (List (List ℕ)))
child_bytes s child = option_map (table_bytes s.frames) (child_table s child)

-- at how many places of a table a frame stands
abbrev pub times : ℕ → List (List ℕ) → ℕ
times f table = sum_by (λ segment. count_by (λ frame. frame == f) segment) table

-- some place of the table has the frame
abbrev pub maps : ℕ → List (List ℕ) → Bool
maps f table = nat_lt 0 (times f table)

-- the owner's table and that of each open child
abbrev pub tables : SpaceState → List (List (List ℕ))
tables s = s.owner ∷ flat_map option_to_list s.children

-- each frame's count is the number of tables that have it
abbrev pub CountsAreExact : SpaceState → Type 0
CountsAreExact s = (f : ℕ) → count_of s.frames f ≡ count_by (maps f) (tables s)

-- no table has a frame at two places
abbrev pub NoFrameTwice : SpaceState → Type 0
NoFrameTwice s = (f : ℕ) → All (λ table. times f table ≤ 1) (tables s)

-- how many pages a segment has
abbrev pub page_count : SpaceState → ℕ → ℕ
page_count s segment = length (slice_index_or s.owner segment [])

-- the owner has this segment, and the segment has this page
abbrev pub HasPage : SpaceState → ℕ → ℕ → Type 0
HasPage s segment page = (segment < length s.owner) × (page < page_count s segment)

-- the frame of a page of the owner
abbrev pub frame_no : SpaceState → ℕ → ℕ → ℕ
frame_no s segment page = slice_index (slice_index_or s.owner segment []) page

-- the bytes of one page among segments
abbrev pub page_at : List (List (List ℕ)) → ℕ → ℕ → List ℕ
page_at segments segment page = slice_index_or (slice_index_or segments segment []) page []

-- the bytes of a page of the owner
abbrev pub page_bytes : SpaceState → ℕ → ℕ → List ℕ
page_bytes s segment page = page_at (owner_bytes s) segment page

-- the page's frame has one user; where the space is sound and the page is there, no open child has that frame
abbrev pub IsOwn : SpaceState → ℕ → ℕ → Type 0
IsOwn s segment page = count_of s.frames (frame_no s segment page) ≡ 1

-- the page is the owner's own, and no hold has its bytes: it is written in place
pub record IsPrivate (s : SpaceState) (segment page : ℕ) : Type 0 where
  pub own : IsOwn s segment page
  pub not_lent : lent_at s.frames (frame_no s segment page) ≡ false

-- each page that was the owner's own is so still, and each that no hold had either
pub record KeepsOwn (old new : SpaceState) : Type 0 where
  pub own : (segment page : ℕ) → HasPage old segment page → HasPage new segment page → IsOwn old segment page
      → IsOwn new segment page
  pub private : (segment page : ℕ) → HasPage old segment page → HasPage new segment page → IsPrivate old segment page
      → IsPrivate new segment page

-- a table with another frame at one place
abbrev pub with_frame : List (List ℕ) → ℕ → ℕ → ℕ → List (List ℕ)
with_frame table segment page frame = slice_set table segment (slice_set (slice_index_or table segment []) page frame)

-- a table with one more frame at the end of a segment
abbrev pub with_new_frame : List (List ℕ) → ℕ → ℕ → List (List ℕ)
with_new_frame table segment frame = slice_set table segment (slice_index_or table segment [] ++ frame ∷ [])

-- a table in which one segment keeps its first frames only
abbrev pub with_first_frames : List (List ℕ) → ℕ → ℕ → List (List ℕ)
with_first_frames table segment count = slice_set table segment (take count (slice_index_or table segment []))

-- segments with other bytes in one page
abbrev pub with_page : List (List (List ℕ)) → ℕ → ℕ → List ℕ → List (List (List ℕ))
with_page segments segment page bytes =
    slice_set segments segment (slice_set (slice_index_or segments segment []) page bytes)

-- segments with one more page at the end of one
abbrev pub with_new_page : List (List (List ℕ)) → ℕ → List ℕ → List (List (List ℕ))
with_new_page segments segment bytes = slice_set segments segment (slice_index_or segments segment [] ++ bytes ∷ [])

-- segments of which one keeps its first pages only
abbrev pub with_first_pages : List (List (List ℕ)) → ℕ → ℕ → List (List (List ℕ))
with_first_pages segments segment count = slice_set segments segment (take count (slice_index_or segments segment []))

-- the children have the same tables and see the same bytes
pub record SameForChildren (old new : SpaceState) : Type 0 where
  pub tables : new.children ≡ old.children
  pub bytes : (child : ℕ) → child_bytes new child ≡ child_bytes old child

-- the page's frame is a fresh one, which nothing had before; its frame from before has a user less, and is else the
-- same
pub record TakesFrame (old new : SpaceState) (segment page : ℕ) : Type 0 where
  pub unused : count_of old.frames (frame_no new segment page) ≡ 0
  pub table : new.owner ≡ with_frame old.owner segment page (frame_no new segment page)
  pub left : frame_at new.frames (frame_no old segment page)
      ≡ record (frame_at old.frames (frame_no old segment page)) {
        count = count_of old.frames (frame_no old segment page) - 1;
      }
  pub free : free_of new.frames + 1 ≡ free_of old.frames

-- no frame changes but those of one page, where it stood and where it stands; each page that was the owner's own is so
-- still, and so is each other one that no hold had either
pub record KeepsOthers (old new : SpaceState) (segment page : ℕ) : Type 0 where
  pub frames : (f : ℕ) → f ≢ frame_no old segment page → f ≢ frame_no new segment page
      → frame_at new.frames f ≡ frame_at old.frames f
  pub own : (segment' page' : ℕ) → HasPage old segment' page' → HasPage new segment' page' → IsOwn old segment' page'
      → IsOwn new segment' page'
  pub private : (segment' page' : ℕ) → ¬ ((segment' ≡ segment) × (page' ≡ page)) → HasPage old segment' page'
      → HasPage new segment' page' → IsPrivate old segment' page' → IsPrivate new segment' page'

-- the page is private afterwards: it stays where it is, or takes one fresh frame; no frame changes but those of this
-- page
pub record MakesPrivate (old new : SpaceState) (segment page : ℕ) : Type 0 where
  pub private : IsPrivate new segment page
  pub table : IsOwn old segment page → new.owner ≡ old.owner
  pub free : IsOwn old segment page → free_of new.frames ≡ free_of old.frames
  pub fresh : ¬ IsOwn old segment page → TakesFrame old new segment page
  pub others : (f : ℕ) → f ≢ frame_no old segment page → f ≢ frame_no new segment page
      → frame_at new.frames f ≡ frame_at old.frames f
  pub kept : KeepsOwn old new
  pub children : SameForChildren old new
  pub limit : new.frames.max ≡ old.frames.max

-- a page of the owner's own has other bytes in the frame where it stands
pub record WritesPage (old new : SpaceState) (segment page : ℕ) (content : List ℕ) : Type 0 where
  pub bytes : owner_bytes new ≡ with_page (owner_bytes old) segment page content
  pub table : new.owner ≡ old.owner
  pub frame : Sets old.frames new.frames (frame_no old segment page)
      (record { count = 1; bytes = content; lent = false })
  pub others : KeepsOthers old new segment page
  pub children : SameForChildren old new
  pub free : free_of new.frames ≡ free_of old.frames
  pub limit : new.frames.max ≡ old.frames.max

-- a page of zeros, the owner's own, is behind all pages of a segment, in a fresh frame
pub record GrowsPage (page_size : ℕ) (old new : SpaceState) (segment page : ℕ) : Type 0 where
  pub number : page ≡ page_count old segment
  pub bytes : owner_bytes new ≡ with_new_page (owner_bytes old) segment (replicate page_size 0)
  pub table : new.owner ≡ with_new_frame old.owner segment (frame_no new segment page)
  pub unused : count_of old.frames (frame_no new segment page) ≡ 0
  pub frame : Sets old.frames new.frames (frame_no new segment page)
      (record { count = 1; bytes = replicate page_size 0; lent = false })
  pub private : IsPrivate new segment page
  pub kept : KeepsOwn old new
  pub children : SameForChildren old new
  pub free : free_of new.frames + 1 ≡ free_of old.frames
  pub limit : new.frames.max ≡ old.frames.max

-- the page needs a frame of its own, and there is none
abbrev pub LacksFrame : SpaceState → ℕ → ℕ → Type 0
LacksFrame s segment page = (¬ IsOwn s segment page) × (free_of s.frames ≡ 0)

-- the least number that no open child has
pub record IsLeastFree (s : SpaceState) (child : ℕ) : Type 0 where
  pub closed : child_table s child ≡ None
  pub least : (lower : ℕ) → lower < child → IsSome (child_table s lower)

-- each child but one has the same table and sees the same bytes
pub record SameForOthers (old new : SpaceState) (child : ℕ) : Type 0 where
  pub tables : (other : ℕ) → other ≢ child → child_table new other ≡ child_table old other
  pub bytes : (other : ℕ) → other ≢ child → child_bytes new other ≡ child_bytes old other

-- the owner has the same table and sees the same bytes
pub record SameForOwner (old new : SpaceState) : Type 0 where
  pub table : new.owner ≡ old.owner
  pub bytes : owner_bytes new ≡ owner_bytes old

-- ---- pages of a child

-- the child is open, and its segment has this page
abbrev pub HasChildPage : SpaceState → ℕ → ℕ → ℕ → Type 0
HasChildPage s child segment page =
    IsSomeAnd (child_table s child)
    (λ table. (segment < length table) × (page < length (slice_index_or table segment [])))

-- the frame of a page of a child
abbrev pub child_frame_no : SpaceState → ℕ → ℕ → ℕ → ℕ
child_frame_no s child segment page = slice_index (slice_index_or (unwrap_or (child_table s child) []) segment []) page

-- no other table has the child's page, and no hold has its bytes
pub record IsChildPrivate (s : SpaceState) (child segment page : ℕ) : Type 0 where
  pub own : count_of s.frames (child_frame_no s child segment page) ≡ 1
  pub not_lent : lent_at s.frames (child_frame_no s child segment page) ≡ false

-- ---- users of frames, many at once

-- each frame gains users, and every page stays
pub record AddsUsers (old new : FrameTable) (added : ℕ → ℕ) : Type 0 where
  pub counts : (f : ℕ) → count_of new f ≡ count_of old f + added f
  pub pages : (f : ℕ) → page_of new f ≡ page_of old f
  pub lent : (f : ℕ) → lent_at new f ≡ lent_at old f
  pub limit : new.max ≡ old.max
  pub free : free_of new ≡ free_of old

-- each frame loses users, and every page that still has one stays
pub record DropsUsers (old new : FrameTable) (dropped : ℕ → ℕ) : Type 0 where
  pub counts : (f : ℕ) → count_of new f + dropped f ≡ count_of old f
  pub pages : (f : ℕ) → 0 < count_of new f → page_of new f ≡ page_of old f
  pub lent : (f : ℕ) → 0 < count_of new f → lent_at new f ≡ lent_at old f
  pub limit : new.max ≡ old.max
  pub free : free_of old ≤ free_of new

-- a user of one frame goes to another, which had none and gets a copy of the page
pub record MovesUser (old new : FrameTable) (from to : ℕ) : Type 0 where
  pub unused : count_of old to ≡ 0
  pub here : count_of new to ≡ 1
  pub copied : page_of new to ≡ page_of old from
  pub not_lent : lent_at new to ≡ false
  pub left : count_of new from + 1 ≡ count_of old from
  pub others : (f : ℕ) → f ≢ from → f ≢ to → count_of new f ≡ count_of old f
  pub pages : (f : ℕ) → 0 < count_of old f → page_of new f ≡ page_of old f
  pub lent : (f : ℕ) → 0 < count_of old f → lent_at new f ≡ lent_at old f
  pub limit : new.max ≡ old.max
  pub free : free_of new + 1 ≡ free_of old

-- frames whose pages get holds: only those of which `lending` says so may be lent now that were not
pub record Lends (old new : FrameTable) (lending : ℕ → ℕ) : Type 0 where
  pub counts : (f : ℕ) → count_of new f ≡ count_of old f
  pub pages : (f : ℕ) → page_of new f ≡ page_of old f
  pub others : (f : ℕ) → lending f ≡ 0 → lent_at new f ≡ lent_at old f
  pub still : (f : ℕ) → lent_at old f ≡ true → lent_at new f ≡ true
  pub limit : new.max ≡ old.max
  pub free : free_of new ≡ free_of old

-- at how many places of a child's table a frame stands
abbrev pub child_times : ℕ → Option (List (List ℕ)) → ℕ
child_times f None = 0
child_times f (Some table) = times f table

-- the tables, the bytes and the counts stay; pages may be lent
pub record IsUnchanged (old new : SpaceState) : Type 0 where
  pub owner : new.owner ≡ old.owner
  pub children : new.children ≡ old.children
  pub counts : (f : ℕ) → count_of new.frames f ≡ count_of old.frames f
  pub pages : (f : ℕ) → page_of new.frames f ≡ page_of old.frames f
  pub limit : new.frames.max ≡ old.frames.max
  pub free : free_of new.frames ≡ free_of old.frames

-- only the bytes that one child sees change
pub record ChangesBytesOf (old new : SpaceState) (child : ℕ) : Type 0 where
  pub tables : new.children ≡ old.children
  pub owner : SameForOwner old new
  pub others : SameForOthers old new child
  pub counts : (f : ℕ) → count_of new.frames f ≡ count_of old.frames f
  pub lent : (f : ℕ) → lent_at new.frames f ≡ lent_at old.frames f
  pub free : free_of new.frames ≡ free_of old.frames
  pub limit : new.frames.max ≡ old.frames.max

-- a page of a child stands in another frame, and its user moved with it
pub record MovesChildPage (old new : SpaceState) (child segment page : ℕ) : Type 0 where
  pub table : child_table new child
      ≡ option_map (λ table. with_frame table segment page (child_frame_no new child segment page))
      (child_table old child)
  pub users : MovesUser old.frames new.frames (child_frame_no old child segment page)
      (child_frame_no new child segment page)

-- each page of a table has `page_size` bytes
abbrev pub HasPagesOf : ℕ → List (List (List ℕ)) → Type 0
HasPagesOf page_size segments = All (λ segment. All (λ bytes. length bytes ≡ page_size) segment) segments

-- what always holds
pub record IsSound (page_size : ℕ) (s : SpaceState) : Type 0 where
  pub counts : CountsAreExact s
  pub once : NoFrameTwice s
  pub pages : All (λ table. HasPagesOf page_size (table_bytes s.frames table)) (tables s)
  pub size : IsPageSize page_size
  pub page_counts : (segment : ℕ) → page_count s segment ≤ in_use s.frames
  pub within : in_use s.frames ≤ s.frames.max
  pub some : 1 ≤ s.frames.max
  pub limit : s.frames.max ≤ max_frames
