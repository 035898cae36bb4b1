-- Laws of overwritten bytes in one buffer.
use Rattle.std.proofs.Common.{◌≡◌, ℕ, zero, suc, sum_by, ◌+◌, ◌-◌, ◌<◌, ◌≤◌, Bool, ◌&&◌, ◌||◌, not, cond, get_or, List, [], ◌∷◌, ◌++◌, length, take, drop, map, refl, sym, ap, ap₂, ◌∙◌, arith, length-drop}
use Rattle.std.proofs.lemmas.List.{take_all, take_more, at_drop_more, take-append-le, drop-append-le, take-append-drop, length-take-le, nil_from_length, take_at, length_push, drop-drop}
use Rattle.std.proofs.lemmas.List.Sums.{sum_by-cons, sum_by_push, sum_by-take-drop, sum_by_more}
use Rattle.hy_undo.specs.declared.images.Piece.{Piece}
use Rattle.hy_undo.specs.UndoLog.{Image}
use Rattle.hy_undo.specs.Touched.{PageAddress, is_same_address, address_of, different, was_there, touched}
use Rattle.hy_undo.specs.inside.Pieces.{byte_count, images_of, address_of_piece, piece_at, touched_by}
use Rattle.hy_undo.specs.inside.Fork.{address_at}
use Rattle.std.specs.List.{filter, list_any}
use Rattle.hy_undo.proofs.TouchedLaws.{length-kept-cons}
use Rattle.hy_space.proofs.TableLaws.{get_or-map_at}

-- the image of a piece with these bytes
abbrev pub image_of : Piece → List ℕ → Image
image_of piece bytes = record { segment = piece.segment; page = piece.page; offset = piece.offset; bytes = bytes }

-- a piece and its bytes behind all others
pub images_of-push : (bytes more : List ℕ) (pieces : List Piece) (piece : Piece) → byte_count pieces ≡ length bytes → piece.count ≡ length more → images_of (bytes ++ more) (pieces ++ piece ∷ []) ≡ images_of bytes pieces ++ image_of piece more ∷ []
images_of-push bytes more [] piece fits size =
    let none : bytes ≡ [] = nil_from_length bytes (sym fits) in
    ap (λ (front : List ℕ). image_of piece (take piece.count (front ++ more)) ∷ []) none
    ∙ ap (λ (all : List ℕ). image_of piece all ∷ []) (take_all piece.count more (omega arith))
images_of-push bytes more (first ∷ pieces) piece fits size =
    let parts = sum_by-cons (λ (x : Piece). x.count) first pieces in
    ap₂ (λ (front rest : List ℕ). image_of first front ∷ images_of rest (pieces ++ piece ∷ [])) (take-append-le first.count bytes more (omega arith)) (drop-append-le first.count bytes more (omega arith))
    ∙ ap (λ (all : List Image). image_of first (take first.count bytes) ∷ all) (images_of-push (drop first.count bytes) more pieces piece (omega (arith, length-drop first.count bytes)) size)

pub byte_count-push : (pieces : List Piece) (piece : Piece) → byte_count (pieces ++ piece ∷ []) ≡ byte_count pieces + piece.count
byte_count-push pieces piece = sum_by_push (λ (x : Piece). x.count) pieces piece

-- without the last piece and its bytes
pub images_of-pop : (bytes : List ℕ) (pieces : List Piece) (piece : Piece) → byte_count (pieces ++ piece ∷ []) ≡ length bytes → images_of bytes (pieces ++ piece ∷ []) ≡ images_of (take (length bytes - piece.count) bytes) pieces ++ image_of piece (drop (length bytes - piece.count) bytes) ∷ []
images_of-pop bytes pieces piece fits =
    let rest = length bytes - piece.count in
    let total = byte_count-push pieces piece in
    ap (λ (all : List ℕ). images_of all (pieces ++ piece ∷ [])) (sym (take-append-drop rest bytes))
    ∙ images_of-push (take rest bytes) (drop rest bytes) pieces piece (omega (arith, length-take-le rest bytes (omega arith))) (omega (arith, length-drop rest bytes))

pub length-images_of : (bytes : List ℕ) (pieces : List Piece) → length (images_of bytes pieces) ≡ length pieces
length-images_of bytes [] = refl
length-images_of bytes (piece ∷ pieces) = ap suc (length-images_of (drop piece.count bytes) pieces)

-- images and pieces are of the same pages
pub addresses-images_of : (bytes : List ℕ) (pieces : List Piece) → map address_of (images_of bytes pieces) ≡ map address_of_piece pieces
addresses-images_of bytes [] = refl
addresses-images_of bytes (piece ∷ pieces) = ap (λ rest. address_of_piece piece ∷ rest) (addresses-images_of (drop piece.count bytes) pieces)

pub touched-images_of : (counts bytes : List ℕ) (pieces : List Piece) → touched (record { counts = counts; images = images_of bytes pieces }) ≡ touched_by pieces counts
touched-images_of counts bytes pieces = ap (λ addresses. length (filter (was_there counts) (different addresses))) (addresses-images_of bytes pieces)

-- all but the last element
pub take-front : {X : Type 0} (xs : List X) (x : X) → take (length (xs ++ x ∷ []) - 1) (xs ++ x ∷ []) ≡ xs
take-front xs x = take_at xs (x ∷ []) (length (xs ++ x ∷ []) - 1) (omega (arith, length_push xs x))

-- a test of each address
list_any-addresses : (test : PageAddress → Bool) (pieces : List Piece) → list_any test (map address_of_piece pieces) ≡ list_any (λ piece. test (address_of_piece piece)) pieces
list_any-addresses test [] = refl
list_any-addresses test (piece ∷ pieces) = ap (λ rest. test (address_of_piece piece) || rest) (list_any-addresses test pieces)

-- the pieces from one on touch one page more than those behind it, where its page was there and comes no more
pub touched_by-drop_more : (pieces : List Piece) (counts : List ℕ) (i : ℕ) (d : Piece) → i < length pieces → touched_by (drop i pieces) counts ≡ cond (was_there counts (address_of_piece (get_or pieces i d)) && not (list_any (λ other. is_same_address (address_of_piece (get_or pieces i d)) (address_of_piece other)) (drop (i + 1) pieces))) 1 0 + touched_by (drop (i + 1) pieces) counts
touched_by-drop_more pieces counts i d within =
    let piece = get_or pieces i d in
    let later = drop (i + 1) pieces in
    at_drop_more (λ rest. touched_by rest counts) pieces i d within
    ∙ length-kept-cons (was_there counts) (address_of_piece piece) (map address_of_piece later)
    ∙ ap (λ among. cond (was_there counts (address_of_piece piece) && not among) 1 0 + touched_by later counts) (list_any-addresses (is_same_address (address_of_piece piece)) later)

-- the last piece, with the bytes at the end
pub images_of-last : (bytes : List ℕ) (pieces : List Piece) (d : Piece) → byte_count pieces ≡ length bytes → 0 < length pieces → images_of bytes pieces ≡ take (length (images_of bytes pieces) - 1) (images_of bytes pieces) ++ image_of (get_or pieces (length pieces - 1) d) (drop (length bytes - (get_or pieces (length pieces - 1) d).count) bytes) ∷ []
images_of-last bytes pieces d fits some =
    let n = length pieces - 1 in
    let last = get_or pieces n d in
    let end = image_of last (drop (length bytes - last.count) bytes) in
    let front = images_of (take (length bytes - last.count) bytes) (take n pieces) in
    let next : length pieces ≡ n + 1 = omega arith in
    let parts : pieces ≡ take n pieces ++ last ∷ [] = sym (take_all (length pieces) pieces (omega arith)) ∙ ap (λ k. take k pieces) next ∙ take_more pieces n d (omega arith) in
    let whole : images_of bytes pieces ≡ front ++ end ∷ [] = ap (images_of bytes) parts ∙ images_of-pop bytes (take n pieces) last (sym (ap byte_count parts) ∙ fits) in
    whole ∙ sym (ap (λ (all : List Image). take (length all - 1) all ++ end ∷ []) whole ∙ ap (λ (all : List Image). all ++ end ∷ []) (take-front front end))

-- ---- one image among all

pub take-images_of : (i : ℕ) (bytes : List ℕ) (pieces : List Piece) → take i (images_of bytes pieces) ≡ images_of bytes (take i pieces)
take-images_of zero bytes pieces = refl
take-images_of (suc i) bytes [] = refl
take-images_of (suc i) bytes (piece ∷ pieces) = ap (λ (rest : List Image). image_of piece (take piece.count bytes) ∷ rest) (take-images_of i (drop piece.count bytes) pieces)

-- images have as many bytes as their pieces say
pub bytes-images_of : (bytes : List ℕ) (pieces : List Piece) → byte_count pieces ≤ length bytes → sum_by (λ image. length image.bytes) (images_of bytes pieces) ≡ byte_count pieces
bytes-images_of bytes [] fits = refl
bytes-images_of bytes (piece ∷ pieces) fits =
    let parts = sum_by-cons (λ (x : Piece). x.count) piece pieces in
    omega (
      arith,
      sum_by-cons (λ (image : Image). length image.bytes) (image_of piece (take piece.count bytes)) (images_of (drop piece.count bytes) pieces),
      length-take-le piece.count bytes (omega arith),
      bytes-images_of (drop piece.count bytes) pieces (omega (arith, length-drop piece.count bytes)),
    )

pub byte_count-take-le : (i : ℕ) (pieces : List Piece) → byte_count (take i pieces) ≤ byte_count pieces
byte_count-take-le i pieces = omega (arith, sum_by-take-drop (λ (x : Piece). x.count) pieces i)

pub byte_count-more : (pieces : List Piece) (i : ℕ) (d : Piece) → i < length pieces → byte_count (take (i + 1) pieces) ≡ byte_count (take i pieces) + (get_or pieces i d).count
byte_count-more pieces i d within = sum_by_more (λ (x : Piece). x.count) pieces i d within

pub image_at-images_of : (bytes : List ℕ) (pieces : List Piece) (i : ℕ) (d : Image) (p : Piece) → i < length pieces → get_or (images_of bytes pieces) i d ≡ image_of (get_or pieces i p) (take (get_or pieces i p).count (drop (byte_count (take i pieces)) bytes))
image_at-images_of bytes [] i d p within = absurd (omega arith)
image_at-images_of bytes (piece ∷ pieces) zero d p within = refl
image_at-images_of bytes (piece ∷ pieces) (suc i) d p within =
    let here = get_or pieces i p in
    image_at-images_of (drop piece.count bytes) pieces i d p (omega arith)
    ∙ ap (λ (rest : List ℕ). image_of here (take here.count rest)) (drop-drop (byte_count (take i pieces)) piece.count bytes ∙ sym (ap (λ n. drop n bytes) (sum_by-cons (λ (x : Piece). x.count) piece (take i pieces))))

pub piece_at-images_of : (bytes : List ℕ) (pieces : List Piece) (i : ℕ) (images : List Image) → images_of bytes pieces ≡ images → piece_at pieces i ≡ address_at images i
piece_at-images_of bytes pieces i images is = ap (λ all. get_or all i (record { segment = 0; page = 0 })) (sym (addresses-images_of bytes pieces)) ∙ ap (λ (all : List Image). address_at all i) is

-- the page of a piece was there, and no later piece is of it
pub last_in : (pieces : List Piece) (counts : List ℕ) (i : ℕ) → let piece = get_or pieces i (record { segment = 0; page = 0; offset = 0; count = 0 }) in (was_there counts (address_of_piece piece) && not (list_any (λ other. is_same_address (address_of_piece piece) (address_of_piece other)) (drop (i + 1) pieces))) ≡ (was_there counts (piece_at pieces i) && not (list_any (is_same_address (piece_at pieces i)) (drop (i + 1) (map address_of_piece pieces))))
last_in pieces counts i =
    let piece = get_or pieces i (record { segment = 0; page = 0; offset = 0; count = 0 }) in
    let here : address_of_piece piece ≡ piece_at pieces i = sym (get_or-map_at address_of_piece pieces i (record { segment = 0; page = 0; offset = 0; count = 0 })) in
    ap (λ among. was_there counts (address_of_piece piece) && not among) (sym (list_any-addresses (is_same_address (address_of_piece piece)) (drop (i + 1) pieces)))
    ∙ ap (λ (later : List PageAddress). was_there counts (address_of_piece piece) && not (list_any (is_same_address (address_of_piece piece)) later)) (drop-map address_of_piece (i + 1) pieces)
    ∙ ap (λ (q : PageAddress). was_there counts q && not (list_any (is_same_address q) (drop (i + 1) (map address_of_piece pieces)))) here
  where
    drop-map : {A B : Type 0} (h : A → B) (n : ℕ) (xs : List A) → map h (drop n xs) ≡ drop n (map h xs)
    drop-map h zero xs = refl
    drop-map h (suc n) [] = refl
    drop-map h (suc n) (x ∷ xs) = drop-map h n xs
