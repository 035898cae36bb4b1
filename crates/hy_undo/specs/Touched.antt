-- The pages that a transaction touched.
use Rattle.std.specs.Prelude.{ℕ, Bool, ◌==◌, ◌&&◌, nat_lt, List, [], ◌∷◌, length, map, slice_index, if◌then◌else◌}
use Rattle.std.specs.List.{filter, list_any}
use Rattle.hy_undo.specs.UndoLog.{Image, UndoLog}

-- where a page stands
pub record PageAddress : Type 0 where
  pub segment : ℕ
  pub page : ℕ

abbrev pub is_same_address : PageAddress → PageAddress → Bool
is_same_address one other = (one.segment == other.segment) && (one.page == other.page)

-- the address of the page of an image
abbrev pub address_of : Image → PageAddress
address_of image = record { segment = image.segment; page = image.page }

-- the different addresses of a list: one that stands again further behind is left out
abbrev pub different : List PageAddress → List PageAddress
different [] = []
different (address ∷ later) = if list_any (is_same_address address) later then different later else address ∷ different later

-- a page was there at the begin
abbrev pub was_there : List ℕ → PageAddress → Bool
was_there counts address = nat_lt address.page (slice_index counts address.segment)

-- the different pages that were there at the begin and were written since then; pages grown since then don't count
abbrev pub touched_pages : UndoLog → List PageAddress
touched_pages log = filter (was_there log.counts) (different (map address_of log.images))

-- how many pages were touched
abbrev pub touched : UndoLog → ℕ
touched log = length (touched_pages log)
