-- What one write, and one image put back, do to the pages.
use Rattle.std.proofs.Common.{◌≡◌, ℕ, ◌+◌, ◌<◌, ◌≤◌, ◌⊎◌, inl, inr, List, [], ◌++◌, length, get_or, set, take, drop, sym, ap, ap₂, ◌∙◌, arith, length-append, length-drop, append_assoc, get_or-set_same, get_or-set_other, length-set}
use Rattle.std.proofs.lemmas.List.{set-set, set_past, set-get_or, length-take-le, take_at, drop_at, drop-drop, take-append-drop}
use Rattle.std.proofs.lemmas.Bool.{cases_lt, cases_eq}
use Rattle.hy_page.specs.Bytes.{bytes_at, overwritten}
use Rattle.hy_page.proofs.ByteLaws.{length-bytes_at}
use Rattle.hy_space.specs.Space.{page_at, with_page}
use Rattle.hy_undo.specs.UndoLog.{Image, put_back}

-- a page is there among segments
pub record IsThere (pages : List (List (List ℕ))) (segment page : ℕ) : Type 0 where
  pub in_pages : segment < length pages
  pub in_segment : page < length (get_or pages segment [])

pub cases_there : (pages : List (List (List ℕ))) (segment page : ℕ) → IsThere pages segment page ⊎ ((length pages ≤ segment) ⊎ (length (get_or pages segment []) ≤ page))
cases_there pages segment page = elim (cases_lt segment (length pages)) [
  | inl within ↦ elim (cases_lt page (length (get_or pages segment []))) [
    | inl there ↦ inl (record { in_pages = within; in_segment = there })
    | inr past ↦ inr (inr past)
  ]
  | inr past ↦ inr (inl past)
]

-- ---- bytes

-- overwriting keeps the length, where the bytes lie within
pub length-overwritten : (bytes : List ℕ) (offset : ℕ) (others : List ℕ) → offset + length others ≤ length bytes → length (overwritten bytes offset others) ≡ length bytes
length-overwritten bytes offset others within = omega (
  arith,
  length-append (take offset bytes ++ others) (drop (offset + length others) bytes),
  length-append (take offset bytes) others,
  length-take-le offset bytes (omega arith),
  length-drop (offset + length others) bytes,
)

-- bytes that are written over, and then put back
pub overwritten-overwritten : (bytes : List ℕ) (offset : ℕ) (others : List ℕ) → offset + length others ≤ length bytes → overwritten (overwritten bytes offset others) offset (bytes_at bytes offset (length others)) ≡ bytes
overwritten-overwritten bytes offset others within =
    let count = length others in
    let rest = drop (offset + count) bytes in
    let old = bytes_at bytes offset count in
    let same : length old ≡ count = length-bytes_at bytes offset count within in
    let front : length (take offset bytes) ≡ offset = length-take-le offset bytes (omega arith) in
    let before : take offset (overwritten bytes offset others) ≡ take offset bytes = ap (take offset) (append_assoc (take offset bytes) others rest) ∙ take_at (take offset bytes) (others ++ rest) offset front in
    let size : length (take offset bytes ++ others) ≡ offset + count = omega (arith, length-append (take offset bytes) others) in
    let behind : drop (offset + length old) (overwritten bytes offset others) ≡ drop count (drop offset bytes) =
    ap (λ n. drop (offset + n) (overwritten bytes offset others)) same
    ∙ drop_at (take offset bytes ++ others) rest (offset + count) size
    ∙ sym (drop-drop count offset bytes)
    in
    ap₂ (λ a b. a ++ old ++ b) before behind
    ∙ append_assoc (take offset bytes) old (drop count (drop offset bytes))
    ∙ ap (λ all. take offset bytes ++ all) (take-append-drop count (drop offset bytes))
    ∙ take-append-drop offset bytes

-- bytes that are written over by themselves
pub overwritten-same : (bytes : List ℕ) (offset count : ℕ) → offset + count ≤ length bytes → overwritten bytes offset (bytes_at bytes offset count) ≡ bytes
overwritten-same bytes offset count within =
    let old = bytes_at bytes offset count in
    ap (λ n. take offset bytes ++ old ++ drop (offset + n) bytes) (length-bytes_at bytes offset count within)
    ∙ ap (λ rest. take offset bytes ++ old ++ rest) (sym (drop-drop count offset bytes))
    ∙ append_assoc (take offset bytes) old (drop count (drop offset bytes))
    ∙ ap (λ all. take offset bytes ++ all) (take-append-drop count (drop offset bytes))
    ∙ take-append-drop offset bytes

-- ---- one page

module _ (pages : List (List (List ℕ))) (segment page : ℕ) where
  pub length-with_page : (bytes : List ℕ) → length (with_page pages segment page bytes) ≡ length pages
  length-with_page bytes = length-set pages segment (set (get_or pages segment []) page bytes)

  -- a segment has as many pages as before
  pub length-segment-with_page : (bytes : List ℕ) (s : ℕ) → length (get_or (with_page pages segment page bytes) s []) ≡ length (get_or pages s [])
  length-segment-with_page bytes s = elim (cases_eq s segment) [
    | inl same ↦ elim (cases_lt segment (length pages)) [
      | inl within ↦
          ap (λ x. length (get_or (with_page pages segment page bytes) x [])) same
          ∙ ap length (get_or-set_same pages segment (set (get_or pages segment []) page bytes) [] within)
          ∙ length-set (get_or pages segment []) page bytes
          ∙ sym (ap (λ x. length (get_or pages x [])) same)
      | inr past ↦ ap (λ all. length (get_or all s [])) (set_past pages segment (set (get_or pages segment []) page bytes) past)
    ]
    | inr apart ↦ ap length (get_or-set_other pages segment s (set (get_or pages segment []) page bytes) [] apart)
  ]

  -- a page that isn't there can't be changed
  pub with_page-past : (bytes : List ℕ) → (length pages ≤ segment) ⊎ (length (get_or pages segment []) ≤ page) → with_page pages segment page bytes ≡ pages
  with_page-past bytes past = elim past [
    | inl no_segment ↦ set_past pages segment (set (get_or pages segment []) page bytes) no_segment
    | inr no_page ↦ ap (set pages segment) (set_past (get_or pages segment []) page bytes no_page) ∙ set-get_or pages segment []
  ]

  -- a page that is replaced by itself
  pub with_page-same : with_page pages segment page (page_at pages segment page) ≡ pages
  with_page-same = ap (set pages segment) (set-get_or (get_or pages segment []) page []) ∙ set-get_or pages segment []

  -- the changed page
  pub page_at-with_page_same : (bytes : List ℕ) → IsThere pages segment page → page_at (with_page pages segment page bytes) segment page ≡ bytes
  page_at-with_page_same bytes there =
      ap (λ row. get_or row page []) (get_or-set_same pages segment (set (get_or pages segment []) page bytes) [] there.in_pages)
      ∙ get_or-set_same (get_or pages segment []) page bytes [] there.in_segment

  -- another page of the segment, and a page of another segment
  pub page_at-with_page_other : (bytes : List ℕ) (s p : ℕ) → ((s ≡ segment) × (p ≡ page) → ⊥) → page_at (with_page pages segment page bytes) s p ≡ page_at pages s p
  page_at-with_page_other bytes s p apart = elim (cases_eq s segment) [
    | inl same ↦ elim (cases_lt segment (length pages)) [
      | inl within ↦
          ap (λ x. page_at (with_page pages segment page bytes) x p) same
          ∙ ap (λ row. get_or row p []) (get_or-set_same pages segment (set (get_or pages segment []) page bytes) [] within)
          ∙ get_or-set_other (get_or pages segment []) page p bytes [] (λ e. apart (same, e))
          ∙ sym (ap (λ x. page_at pages x p) same)
      | inr past ↦ ap (λ all. page_at all s p) (set_past pages segment (set (get_or pages segment []) page bytes) past)
    ]
    | inr differs ↦ ap (λ row. get_or row p []) (get_or-set_other pages segment s (set (get_or pages segment []) page bytes) [] differs)
  ]

  -- of two changes of one page the second remains
  pub with_page-with_page : (one two : List ℕ) → with_page (with_page pages segment page one) segment page two ≡ with_page pages segment page two
  with_page-with_page one two = elim (cases_lt segment (length pages)) [
    | inl within ↦
        ap (λ row. set (with_page pages segment page one) segment (set row page two)) (get_or-set_same pages segment (set (get_or pages segment []) page one) [] within)
        ∙ set-set pages segment (set (get_or pages segment []) page one) (set (set (get_or pages segment []) page one) page two)
        ∙ ap (set pages segment) (set-set (get_or pages segment []) page one two)
    | inr past ↦ ap (λ all. with_page all segment page two) (set_past pages segment (set (get_or pages segment []) page one) past)
  ]

-- ---- one image

-- an image of a page that isn't there changes nothing
pub put_back-past : (pages : List (List (List ℕ))) (image : Image) → (length pages ≤ image.segment) ⊎ (length (get_or pages image.segment []) ≤ image.page) → put_back pages image ≡ pages
put_back-past pages image past = with_page-past pages image.segment image.page (overwritten (page_at pages image.segment image.page) image.offset image.bytes) past

-- where bytes are written into a page, and the bytes that stood there are put back, the pages are what they were
pub put_back-written : (pages : List (List (List ℕ))) (segment page offset : ℕ) (bytes : List ℕ) → offset + length bytes ≤ length (page_at pages segment page) → put_back (with_page pages segment page (overwritten (page_at pages segment page) offset bytes)) (record { segment = segment; page = page; offset = offset; bytes = bytes_at (page_at pages segment page) offset (length bytes) }) ≡ pages
put_back-written pages segment page offset bytes within =
    let old = page_at pages segment page in
    let new = overwritten old offset bytes in
    let image : Image = record { segment = segment; page = page; offset = offset; bytes = bytes_at old offset (length bytes) } in
    elim (cases_there pages segment page) [
      | inl there ↦
          ap (λ here. with_page (with_page pages segment page new) segment page (overwritten here offset image.bytes)) (page_at-with_page_same pages segment page new there)
          ∙ with_page-with_page pages segment page new (overwritten new offset image.bytes)
          ∙ ap (with_page pages segment page) (overwritten-overwritten old offset bytes within)
          ∙ with_page-same pages segment page
      | inr past ↦
          let still : with_page pages segment page new ≡ pages = with_page-past pages segment page new past in
          ap (λ all. put_back all image) still ∙ put_back-past pages image past
    ]
