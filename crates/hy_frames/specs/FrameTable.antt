-- A table of frames: numbered places for pages, each with a count of its users.
use Rattle.std.specs.Prelude.{◌≡◌, ◌≢◌, ℕ, ◌+◌, ◌-◌, ◌==◌, ◌≤◌, Bool, false, List, [], length, slice_index_or, count_by, nat_lt}

-- how many use a page, its bytes, and whether holds may have it too
pub record Frame : Type 0 where
  pub count : ℕ
  pub bytes : List ℕ
  pub lent : Bool

-- the frames by their numbers, and how many may be in use
pub record FrameTable : Type 0 where
  pub max : ℕ
  pub frames : List Frame

-- a frame that nobody uses
abbrev pub empty_frame : Frame
empty_frame = record { count = 0; bytes = []; lent = false }

-- the most frames that a table can have
abbrev pub max_frames : ℕ
max_frames = 10000000

-- the frame of a number, which is empty where no frame has that number
abbrev pub frame_at : FrameTable → ℕ → Frame
frame_at table f = slice_index_or table.frames f empty_frame

-- how many use the frame of a number
abbrev pub count_of : FrameTable → ℕ → ℕ
count_of table f = (frame_at table f).count

-- the bytes in the frame of a number
abbrev pub page_of : FrameTable → ℕ → List ℕ
page_of table f = (frame_at table f).bytes

-- whether holds may have the page in the frame of a number
abbrev pub lent_at : FrameTable → ℕ → Bool
lent_at table f = (frame_at table f).lent

-- how many frames are in use
abbrev pub in_use : FrameTable → ℕ
in_use table = count_by (λ frame. nat_lt 0 frame.count) table.frames

-- how many more frames can be taken
abbrev pub free_of : FrameTable → ℕ
free_of table = table.max - in_use table

-- how many frames have more than one user
abbrev pub shared_of : FrameTable → ℕ
shared_of table = count_by (λ frame. nat_lt 1 frame.count) table.frames

-- the frame of one number is set, and each other frame and the limit stay
pub record Sets (old new : FrameTable) (f : ℕ) (frame : Frame) : Type 0 where
  pub here : frame_at new f ≡ frame
  pub others : (g : ℕ) → g ≢ f → frame_at new g ≡ frame_at old g
  pub limit : new.max ≡ old.max

-- a frame that nobody used gets one user and a page, and nothing else changes
pub record Takes (old new : FrameTable) (f : ℕ) (bytes : List ℕ) : Type 0 where
  pub unused : count_of old f ≡ 0
  pub set : Sets old new f (record { count = 1; bytes = bytes; lent = false })
  pub free : free_of new + 1 ≡ free_of old
  pub shared : shared_of new ≡ shared_of old

-- a limit that a table can have: at least one frame, at most ten million, and no fewer than are in use
abbrev pub IsLimitFor : FrameTable → ℕ → Type 0
IsLimitFor table limit = (1 ≤ limit) × (limit ≤ max_frames) × (in_use table ≤ limit)

-- a page has 256 to 65,536 bytes
pub record IsPageSize (page_size : ℕ) : Type 0 where
  pub smallest : 256 ≤ page_size
  pub largest : page_size ≤ 65536

-- how often a number stands in a list
abbrev pub occurrences : ℕ → List ℕ → ℕ
occurrences n numbers = count_by (λ number. number == n) numbers

-- what always holds of a table of frames with pages of `page_size` bytes
pub record IsSoundTable (page_size : ℕ) (table : FrameTable) : Type 0 where
  pub size : IsPageSize page_size
  pub pages : (f : ℕ) → 1 ≤ count_of table f → length (page_of table f) ≡ page_size
  pub within : in_use table ≤ table.max
  pub some : 1 ≤ table.max
  pub limit : table.max ≤ max_frames
