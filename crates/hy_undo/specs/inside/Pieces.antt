-- How overwritten bytes stand in one buffer, those of one write behind those of another.
use Rattle.std.specs.Prelude.{ℕ, List, [], ◌∷◌, length, map, take, drop, sum_by, slice_index_or}
use Rattle.hy_undo.specs.declared.images.Piece.{Piece}
use Rattle.hy_undo.specs.UndoLog.{Image}
use Rattle.hy_undo.specs.Touched.{PageAddress, different, was_there}
use Rattle.std.specs.List.{filter}

-- how many bytes some pieces have together
abbrev pub byte_count : List Piece → ℕ
byte_count pieces = sum_by (λ piece. piece.count) pieces

-- each piece with its bytes, which stand one behind another
abbrev pub images_of : List ℕ → List Piece → List Image
images_of bytes [] = []
images_of bytes (piece ∷ later) =
    record { segment = piece.segment; page = piece.page; offset = piece.offset; bytes = take piece.count bytes }
    ∷ images_of (drop piece.count bytes) later

-- the page of a piece
abbrev pub address_of_piece : Piece → PageAddress
address_of_piece piece = record { segment = piece.segment; page = piece.page }

-- how many different pages pieces are of, among those that were there when segments had so many pages
abbrev pub touched_by : List Piece → List ℕ → ℕ
touched_by pieces counts = length (filter (was_there counts) (different (map address_of_piece pieces)))

-- the page of the piece of one number
abbrev pub piece_at : List Piece → ℕ → PageAddress
piece_at pieces i = slice_index_or (map address_of_piece pieces) i (record { segment = 0; page = 0 })

-- the bytes of the last image, and others where there is none
abbrev pub last_bytes_or : List ℕ → List Image → List ℕ
last_bytes_or bytes [] = bytes
last_bytes_or bytes (image ∷ later) = last_bytes_or image.bytes later

abbrev pub last_bytes : List Image → List ℕ
last_bytes images = last_bytes_or [] images
