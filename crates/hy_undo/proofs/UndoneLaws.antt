-- Laws of undoing.
use Rattle.std.proofs.Common.{◌≡◌, ℕ, zero, suc, ◌+◌, ◌<◌, ◌≤◌, ◌⊎◌, inl, inr, List, [], ◌∷◌, ◌++◌, length, get_or, set, take, map, refl, sym, ap, ap₂, ◌∙◌, subst, arith}
use Rattle.std.proofs.lemmas.List.{get_or-take, take-append-le, take_all, length-take, length-take-le}
use Rattle.std.proofs.lemmas.Bool.{cases_lt}
use Rattle.hy_page.specs.Bytes.{bytes_at, overwritten}
use Rattle.hy_page.proofs.ByteLaws.{length-bytes_at}
use Rattle.hy_space.specs.Space.{page_at, with_page, with_new_page, with_first_pages}
use Rattle.hy_undo.specs.UndoLog.{Image, UndoLog, first_pages, put_back, restored, undone, with_image}
use Rattle.hy_undo.proofs.PutBackLaws.{overwritten-same, with_page-same, IsThere, cases_there, put_back-past, put_back-written, with_page-past, length-with_page, length-segment-with_page}

-- ---- the first pages

-- the first elements of a list with another element at one address
take-set_any : {X : Type 0} (n : ℕ) (xs : List X) (i : ℕ) (x : X) → take n (set xs i x) ≡ set (take n xs) i x
take-set_any zero xs i x = refl
take-set_any (suc n) [] i x = refl
take-set_any (suc n) (y ∷ xs) zero x = refl
take-set_any (suc n) (y ∷ xs) (suc i) x = ap (λ rest. y ∷ rest) (take-set_any n xs i x)

-- where each count is that of the pages, all stay
pub first_pages-all : (pages : List (List (List ℕ))) → first_pages (map length pages) pages ≡ pages
first_pages-all [] = refl
first_pages-all (segment ∷ pages) = ap₂ ◌∷◌ (take_all (length segment) segment (omega arith)) (first_pages-all pages)

-- the number of segments stays
pub length-first_pages : (counts : List ℕ) (pages : List (List (List ℕ))) → length (first_pages counts pages) ≡ length pages
length-first_pages [] pages = refl
length-first_pages (count ∷ counts) [] = refl
length-first_pages (count ∷ counts) (segment ∷ pages) = ap suc (length-first_pages counts pages)

-- a segment that has a count, and one that has none
pub segment-first_pages : (counts : List ℕ) (pages : List (List (List ℕ))) (s : ℕ) → s < length counts → get_or (first_pages counts pages) s [] ≡ take (get_or counts s 0) (get_or pages s [])
segment-first_pages [] pages s counted = absurd (omega arith)
segment-first_pages (count ∷ counts) [] s counted = sym (nothing_of (get_or (count ∷ counts) s 0))
  where
    nothing_of : (n : ℕ) → take n (get_or {A = List (List ℕ)} [] s []) ≡ []
    nothing_of zero = refl
    nothing_of (suc n) = refl
segment-first_pages (count ∷ counts) (segment ∷ pages) zero counted = refl
segment-first_pages (count ∷ counts) (segment ∷ pages) (suc s) counted = segment-first_pages counts pages s (omega arith)

pub segment-first_pages_past : (counts : List ℕ) (pages : List (List (List ℕ))) (s : ℕ) → length counts ≤ s → get_or (first_pages counts pages) s [] ≡ get_or pages s []
segment-first_pages_past [] pages s past = refl
segment-first_pages_past (count ∷ counts) [] s past = refl
segment-first_pages_past (count ∷ counts) (segment ∷ pages) zero past = absurd (omega arith)
segment-first_pages_past (count ∷ counts) (segment ∷ pages) (suc s) past = segment-first_pages_past counts pages s (omega arith)

-- another page in its address, before or after the cut
pub first_pages-with_page : (counts : List ℕ) (pages : List (List (List ℕ))) (s p : ℕ) (bytes : List ℕ) → first_pages counts (with_page pages s p bytes) ≡ with_page (first_pages counts pages) s p bytes
first_pages-with_page [] pages s p bytes = refl
first_pages-with_page (count ∷ counts) [] s p bytes = refl
first_pages-with_page (count ∷ counts) (segment ∷ pages) zero p bytes = ap (λ row. row ∷ first_pages counts pages) (take-set_any count segment p bytes)
first_pages-with_page (count ∷ counts) (segment ∷ pages) (suc s) p bytes = ap (λ rest. take count segment ∷ rest) (first_pages-with_page counts pages s p bytes)

-- a page that the cut leaves is the one that was there
pub page_at-first_pages : (counts : List ℕ) (pages : List (List (List ℕ))) (s p : ℕ) → IsThere (first_pages counts pages) s p → page_at (first_pages counts pages) s p ≡ page_at pages s p
page_at-first_pages counts pages s p there = elim (cases_lt s (length counts)) [
  | inl counted ↦
      let row = segment-first_pages counts pages s counted in
      let short : p < get_or counts s 0 = elim (cases_lt p (get_or counts s 0)) [
        | inl below ↦ below
        | inr above ↦ absurd (omega (arith, there.in_segment, ap length row, length-take (get_or counts s 0) (get_or pages s [])))
      ] in
      ap (λ x. get_or x p []) row ∙ get_or-take (get_or counts s 0) (get_or pages s []) p [] short
  | inr past ↦ ap (λ x. get_or x p []) (segment-first_pages_past counts pages s past)
]

-- a page more at a segment's end is cut off
pub first_pages-with_new_page : (counts : List ℕ) (pages : List (List (List ℕ))) (s : ℕ) (bytes : List ℕ) → s < length counts → get_or counts s 0 ≤ length (get_or pages s []) → first_pages counts (with_new_page pages s bytes) ≡ first_pages counts pages
first_pages-with_new_page [] pages s bytes counted few = absurd (omega arith)
first_pages-with_new_page (count ∷ counts) [] s bytes counted few = refl
first_pages-with_new_page (count ∷ counts) (segment ∷ pages) zero bytes counted few = ap (λ row. row ∷ first_pages counts pages) (take-append-le count segment (bytes ∷ []) few)
first_pages-with_new_page (count ∷ counts) (segment ∷ pages) (suc s) bytes counted few = ap (λ rest. take count segment ∷ rest) (first_pages-with_new_page counts pages s bytes (omega arith) few)

-- one segment more is cut
pub first_pages-more : (counts : List ℕ) (pages : List (List (List ℕ))) (s : ℕ) → s < length counts → first_pages (take (s + 1) counts) pages ≡ with_first_pages (first_pages (take s counts) pages) s (get_or counts s 0)
first_pages-more counts pages s counted = ap (λ n. first_pages (take n counts) pages) (next s) ∙ step counts pages s counted
  where
    next : (n : ℕ) → n + 1 ≡ suc n
    next n = omega arith

    step : (counts : List ℕ) (pages : List (List (List ℕ))) (s : ℕ) → s < length counts → first_pages (take (suc s) counts) pages ≡ with_first_pages (first_pages (take s counts) pages) s (get_or counts s 0)
    step [] pages s counted = absurd (omega arith)
    step (count ∷ counts) [] zero counted = refl
    step (count ∷ counts) [] (suc s) counted = refl
    step (count ∷ counts) (segment ∷ pages) zero counted = refl
    step (count ∷ counts) (segment ∷ pages) (suc s) counted = ap (λ rest. take count segment ∷ rest) (step counts pages s (omega arith))

-- a segment that wasn't cut yet has all its pages
pub segment-first_pages_ahead : (counts : List ℕ) (pages : List (List (List ℕ))) (s : ℕ) → get_or (first_pages (take s counts) pages) s [] ≡ get_or pages s []
segment-first_pages_ahead counts pages s = segment-first_pages_past (take s counts) pages s (omega (arith, length-take s counts))

-- ---- images put back

-- the last image is put back first
pub restored-push : (pages : List (List (List ℕ))) (images : List Image) (image : Image) → restored pages (images ++ image ∷ []) ≡ restored (put_back pages image) images
restored-push pages [] image = refl
restored-push pages (first ∷ images) image = ap (λ all. put_back all first) (restored-push pages images image)

-- the last of the images that are left changes nothing where its page was cut off
pub restored-push_past : (pages : List (List (List ℕ))) (images : List Image) (image : Image) → (length pages ≤ image.segment) ⊎ (length (get_or pages image.segment []) ≤ image.page) → restored pages (images ++ image ∷ []) ≡ restored pages images
restored-push_past pages images image past = restored-push pages images image ∙ ap (λ all. restored all images) (put_back-past pages image past)

-- the number of segments, and of a segment's pages, stays
pub length-restored : (pages : List (List (List ℕ))) (images : List Image) → length (restored pages images) ≡ length pages
length-restored pages [] = refl
length-restored pages (image ∷ images) =
    let later = restored pages images in
    length-with_page later image.segment image.page (overwritten (page_at later image.segment image.page) image.offset image.bytes) ∙ length-restored pages images

pub length-segment-restored : (pages : List (List (List ℕ))) (images : List Image) (s : ℕ) → length (get_or (restored pages images) s []) ≡ length (get_or pages s [])
length-segment-restored pages [] s = refl
length-segment-restored pages (image ∷ images) s =
    let later = restored pages images in
    length-segment-with_page later image.segment image.page (overwritten (page_at later image.segment image.page) image.offset image.bytes) s ∙ length-segment-restored pages images s

-- ---- undoing

-- an empty log of the pages as they are
pub undone-empty : (pages : List (List (List ℕ))) → undone pages (record { counts = map length pages; images = [] }) ≡ pages
undone-empty pages = first_pages-all pages

-- a write with its image behind all images
pub undone-written : (pages : List (List (List ℕ))) (log : UndoLog) (segment page offset : ℕ) (bytes : List ℕ) → offset + length bytes ≤ length (page_at pages segment page) → undone (with_page pages segment page (overwritten (page_at pages segment page) offset bytes)) (with_image log (record { segment = segment; page = page; offset = offset; bytes = bytes_at (page_at pages segment page) offset (length bytes) })) ≡ undone pages log
undone-written pages log segment page offset bytes within =
    let old = page_at pages segment page in
    let new = overwritten old offset bytes in
    let image : Image = record { segment = segment; page = page; offset = offset; bytes = bytes_at old offset (length bytes) } in
    let kept = first_pages log.counts pages in
    let back : put_back (with_page kept segment page new) image ≡ kept = elim (cases_there kept segment page) [
      | inl there ↦
          let same : page_at kept segment page ≡ old = page_at-first_pages log.counts pages segment page there in
          subst (λ (here : List ℕ). put_back (with_page kept segment page (overwritten here offset bytes)) (record { segment = segment; page = page; offset = offset; bytes = bytes_at here offset (length bytes) }) ≡ kept) same
          (put_back-written kept segment page offset bytes (subst (λ (here : List ℕ). offset + length bytes ≤ length here) (sym same) within))
      | inr past ↦
          ap (λ all. put_back all image) (with_page-past kept segment page new past) ∙ put_back-past kept image past
    ] in
    restored-push (first_pages log.counts (with_page pages segment page new)) log.images image
    ∙ ap (λ all. restored (put_back all image) log.images) (first_pages-with_page log.counts pages segment page new)
    ∙ ap (λ all. restored all log.images) back

-- bytes that are kept, with no write
pub undone-kept : (pages : List (List (List ℕ))) (log : UndoLog) (segment page offset count : ℕ) → offset + count ≤ length (page_at pages segment page) → undone pages (with_image log (record { segment = segment; page = page; offset = offset; bytes = bytes_at (page_at pages segment page) offset count })) ≡ undone pages log
undone-kept pages log segment page offset count within =
    let old = page_at pages segment page in
    let bytes = bytes_at old offset count in
    let size : length bytes ≡ count = length-bytes_at old offset count within in
    let image_of = λ (n : ℕ). let image : Image = record { segment = segment; page = page; offset = offset; bytes = bytes_at old offset n } in image in
    let same : with_page pages segment page (overwritten old offset bytes) ≡ pages = ap (with_page pages segment page) (overwritten-same old offset count within) ∙ with_page-same pages segment page in
    ap₂ (λ (all : List (List (List ℕ))) (n : ℕ). undone all (with_image log (image_of n))) (sym same) (sym size)
    ∙ undone-written pages log segment page offset bytes (omega arith)

-- a page more at a segment's end
pub undone-grown : (pages : List (List (List ℕ))) (log : UndoLog) (s : ℕ) (bytes : List ℕ) → s < length log.counts → get_or log.counts s 0 ≤ length (get_or pages s []) → undone (with_new_page pages s bytes) log ≡ undone pages log
undone-grown pages log s bytes counted few = ap (λ all. restored all log.images) (first_pages-with_new_page log.counts pages s bytes counted few)

-- the number of segments, and how many pages each has
pub length-undone : (pages : List (List (List ℕ))) (log : UndoLog) → length (undone pages log) ≡ length pages
length-undone pages log = length-restored (first_pages log.counts pages) log.images ∙ length-first_pages log.counts pages

pub length-segment-undone : (pages : List (List (List ℕ))) (log : UndoLog) (s : ℕ) → s < length log.counts → get_or log.counts s 0 ≤ length (get_or pages s []) → length (get_or (undone pages log) s []) ≡ get_or log.counts s 0
length-segment-undone pages log s counted few =
    length-segment-restored (first_pages log.counts pages) log.images s
    ∙ ap length (segment-first_pages log.counts pages s counted)
    ∙ length-take-le (get_or log.counts s 0) (get_or pages s []) few
