-- The undo log of the running transaction: how many pages there were when it began, and the bytes that each of its
-- writes took away (as in the HyPer paper, section 2.2, with the bytes of one write as its records).
use Rattle.std.specs.Prelude.{ℕ, List, [], ◌∷◌, ◌++◌, length, map, take}
use Rattle.hy_page.specs.Bytes.{bytes_at, overwritten}
use Rattle.hy_space.specs.Space.{SpaceState, page_at, page_bytes, with_page}

-- the bytes that stood in a page from an offset on, before one write
pub record Image : Type 0 where
  pub segment : ℕ
  pub page : ℕ
  pub offset : ℕ
  pub bytes : List ℕ

-- how many pages each segment had at the begin, and an image for each write since then, the oldest first
pub record UndoLog : Type 0 where
  pub counts : List ℕ
  pub images : List Image

-- each segment with its first pages only, as many as its count says; a segment without a count keeps all
abbrev pub first_pages : List ℕ → List (List (List ℕ)) → List (List (List ℕ))
first_pages [] segments = segments
first_pages (count ∷ counts) [] = []
first_pages (count ∷ counts) (segment ∷ segments) = take count segment ∷ first_pages counts segments

-- the pages with the bytes of an image in their address; an image of a page that isn't there changes nothing
abbrev pub put_back : List (List (List ℕ)) → Image → List (List (List ℕ))
put_back pages image =
    let before = page_at pages image.segment image.page in
    with_page pages image.segment image.page (overwritten before image.offset image.bytes)

-- the pages with every image put back, the last one first
abbrev pub restored : List (List (List ℕ)) → List Image → List (List (List ℕ))
restored pages [] = pages
restored pages (image ∷ later) = put_back (restored pages later) image

-- the pages as they were at the begin: those grown since then are cut off, and what was overwritten is put back
abbrev pub undone : List (List (List ℕ)) → UndoLog → List (List (List ℕ))
undone pages log = restored (first_pages log.counts pages) log.images

-- how many pages each segment of the owner has
abbrev pub page_counts : SpaceState → List ℕ
page_counts s = map length s.owner

-- the log of a transaction that begins now
abbrev pub empty_log : SpaceState → UndoLog
empty_log s = record { counts = page_counts s; images = [] }

-- a log with one more image at its end
abbrev pub with_image : UndoLog → Image → UndoLog
with_image log image = record { counts = log.counts; images = log.images ++ image ∷ [] }

-- some bytes of a page of the owner, as they are now
abbrev pub image_at : SpaceState → ℕ → ℕ → ℕ → ℕ → Image
image_at s segment page offset count =
    record {
      segment = segment;
      page = page;
      offset = offset;
      bytes = bytes_at (page_bytes s segment page) offset count;
    }
