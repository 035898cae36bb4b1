-- What undoing makes of one page.
use Rattle.std.proofs.Common.{◌≡◌, ℕ, ◌+◌, ◌<◌, ◌≤◌, Bool, false, eqb, inl, inr, List, [], ◌∷◌, length, get_or, set, take, refl, sym, ap, ◌∙◌, subst, arith, All}
use Rattle.std.specs.List.{AllByRecursion, filter, list_any}
use Rattle.std.proofs.lemmas.List.{length-take-le}
use Rattle.std.proofs.lemmas.List.Elements.{All-cons, All-head, All-tail, All-take, All-get_or, All-set}
use Rattle.std.proofs.lemmas.Bool.{cases_Bool, and_from, eq-eqb, or_parts, cond-true, cond-false}
use Rattle.hy_page.specs.Bytes.{overwritten}
use Rattle.hy_space.specs.Space.{page_at, with_page, HasPagesOf}
use Rattle.hy_undo.specs.UndoLog.{Image, UndoLog, first_pages, put_back, restored, undone}
use Rattle.hy_undo.specs.Touched.{PageAddress, is_same_address, address_of}
use Rattle.hy_undo.proofs.PutBackLaws.{IsThere, cases_there, put_back-past, length-overwritten, page_at-with_page_same, page_at-with_page_other}
use Rattle.hy_undo.proofs.UndoneLaws.{length-first_pages, segment-first_pages, page_at-first_pages, length-restored, length-segment-restored}
use Rattle.hy_undo.proofs.TouchedLaws.{same_address, never_both}

-- an image is of this page
abbrev pub is_image_of : PageAddress → Image → Bool
is_image_of address image = is_same_address address (address_of image)

-- the bytes of one page with its images put back, the last one first
abbrev pub page_restored : List ℕ → List Image → List ℕ
page_restored bytes [] = bytes
page_restored bytes (image ∷ later) = overwritten (page_restored bytes later) image.offset image.bytes

-- a page that is there is there still
IsThere-restored : (pages : List (List (List ℕ))) (images : List Image) (s p : ℕ) → IsThere pages s p → IsThere (restored pages images) s p
IsThere-restored pages images s p there = record {
  in_pages = omega (arith, there.in_pages, length-restored pages images);
  in_segment = omega (arith, there.in_segment, length-segment-restored pages images s);
}

-- a page has its own images put back, and no other
pub page_at-restored : (pages : List (List (List ℕ))) (images : List Image) (address : PageAddress) → IsThere pages address.segment address.page → page_at (restored pages images) address.segment address.page ≡ page_restored (page_at pages address.segment address.page) (filter (is_image_of address) images)
page_at-restored pages [] address there = refl
page_at-restored pages (image ∷ images) address there =
    let later = restored pages images in
    let bytes = page_at pages address.segment address.page in
    let rest = page_at-restored pages images address there in
    elim (cases_Bool (is_image_of address image)) [
      | inl same ↦
          let here : address ≡ address_of image = same_address address (address_of image) same in
          let new = λ (at : PageAddress). overwritten (page_at later at.segment at.page) image.offset image.bytes in
          ap (λ (at : PageAddress). page_at (with_page later at.segment at.page (new at)) address.segment address.page) (sym here)
          ∙ page_at-with_page_same later address.segment address.page (new address) (IsThere-restored pages images address.segment address.page there)
          ∙ ap (λ (all : List ℕ). overwritten all image.offset image.bytes) rest
          ∙ sym (ap (page_restored bytes) (cond-true (is_image_of address image) (image ∷ filter (is_image_of address) images) (filter (is_image_of address) images) same))
      | inr other ↦
          let apart : (address.segment ≡ image.segment) × (address.page ≡ image.page) → ⊥ = λ same. differs address image same other in
          page_at-with_page_other later image.segment image.page (overwritten (page_at later image.segment image.page) image.offset image.bytes) address.segment address.page apart
          ∙ rest
          ∙ sym (ap (page_restored bytes) (cond-false (is_image_of address image) (image ∷ filter (is_image_of address) images) (filter (is_image_of address) images) other))
    ]
  where
    differs : (address : PageAddress) (image : Image) → (address.segment ≡ image.segment) × (address.page ≡ image.page) → is_image_of address image ≡ false → ⊥
    differs address image same other = never_both (is_image_of address image) (and_from (eqb address.segment image.segment) (eqb address.page image.page) (eq-eqb address.segment image.segment same.0) (eq-eqb address.page image.page same.1)) other

-- a page that was there at the begin, with the transaction undone
pub page_at-undone : (pages : List (List (List ℕ))) (log : UndoLog) (address : PageAddress) → IsThere (first_pages log.counts pages) address.segment address.page → page_at (undone pages log) address.segment address.page ≡ page_restored (page_at pages address.segment address.page) (filter (is_image_of address) log.images)
page_at-undone pages log address there =
    page_at-restored (first_pages log.counts pages) log.images address there
    ∙ ap (λ bytes. page_restored bytes (filter (is_image_of address) log.images)) (page_at-first_pages log.counts pages address.segment address.page there)

-- a page below its segment's count is there at the begin
pub IsThere-first_pages : (counts : List ℕ) (pages : List (List (List ℕ))) (s p : ℕ) → s < length counts → s < length pages → p < get_or counts s 0 → get_or counts s 0 ≤ length (get_or pages s []) → IsThere (first_pages counts pages) s p
IsThere-first_pages counts pages s p counted there below few = record {
  in_pages = omega (arith, there, length-first_pages counts pages);
  in_segment = omega (arith, below, ap length (segment-first_pages counts pages s counted), length-take-le (get_or counts s 0) (get_or pages s []) few);
}

-- no image is of this page
nothing_filtered : (address : PageAddress) (images : List Image) → list_any (is_image_of address) images ≡ false → filter (is_image_of address) images ≡ []
nothing_filtered address [] none = refl
nothing_filtered address (image ∷ images) none =
    let parts = or_parts (is_image_of address image) (list_any (is_image_of address) images) none in
    cond-false (is_image_of address image) (image ∷ filter (is_image_of address) images) (filter (is_image_of address) images) parts.0 ∙ nothing_filtered address images parts.1

-- a page that was not touched stays as it is
pub page_at-undone_untouched : (pages : List (List (List ℕ))) (log : UndoLog) (address : PageAddress) → IsThere (first_pages log.counts pages) address.segment address.page → list_any (is_image_of address) log.images ≡ false → page_at (undone pages log) address.segment address.page ≡ page_at pages address.segment address.page
page_at-undone_untouched pages log address there none =
    page_at-undone pages log address there ∙ ap (page_restored (page_at pages address.segment address.page)) (nothing_filtered address log.images none)

-- ---- the size of pages

-- each page among segments of pages of n bytes has n bytes
pub length-page_at : (n : ℕ) (pages : List (List (List ℕ))) (s p : ℕ) → HasPagesOf n pages → IsThere pages s p → length (page_at pages s p) ≡ n
length-page_at n pages s p sized there =
    let P = λ (bytes : List ℕ). length bytes ≡ n in
    All-get_or P (get_or pages s []) p [] there.in_segment (All-get_or (λ segment. All P segment) pages s [] there.in_pages sized)

pub HasPagesOf-first_pages : (n : ℕ) (counts : List ℕ) (pages : List (List (List ℕ))) → HasPagesOf n pages → HasPagesOf n (first_pages counts pages)
HasPagesOf-first_pages n [] pages sized = sized
HasPagesOf-first_pages n (count ∷ counts) [] sized = sized
HasPagesOf-first_pages n (count ∷ counts) (segment ∷ pages) sized =
    let P = λ (bytes : List ℕ). length bytes ≡ n in
    let Q = λ (row : List (List ℕ)). All P row in
    All-cons Q (take count segment) (first_pages counts pages) (All-take P count segment (All-head Q segment pages sized)) (HasPagesOf-first_pages n counts pages (All-tail Q segment pages sized))

pub HasPagesOf-put_back : (n : ℕ) (pages : List (List (List ℕ))) (image : Image) → image.offset + length image.bytes ≤ n → HasPagesOf n pages → HasPagesOf n (put_back pages image)
HasPagesOf-put_back n pages image within sized =
    let P = λ (bytes : List ℕ). length bytes ≡ n in
    let Q = λ (row : List (List ℕ)). All P row in
    elim (cases_there pages image.segment image.page) [
      | inl there ↦
          let old = page_at pages image.segment image.page in
          let size : length old ≡ n = length-page_at n pages image.segment image.page sized there in
          let new : length (overwritten old image.offset image.bytes) ≡ n = length-overwritten old image.offset image.bytes (omega arith) ∙ size in
          All-set Q pages image.segment (set (get_or pages image.segment []) image.page (overwritten old image.offset image.bytes))
          (All-set P (get_or pages image.segment []) image.page (overwritten old image.offset image.bytes) new (All-get_or Q pages image.segment [] there.in_pages sized)) sized
      | inr past ↦ subst (λ (all : List (List (List ℕ))). HasPagesOf n all) (sym (put_back-past pages image past)) sized
    ]

-- undoing keeps each page's size
pub HasPagesOf-restored : (n : ℕ) (pages : List (List (List ℕ))) (images : List Image) → AllByRecursion (λ image. image.offset + length image.bytes ≤ n) images → HasPagesOf n pages → HasPagesOf n (restored pages images)
HasPagesOf-restored n pages [] within sized = sized
HasPagesOf-restored n pages (image ∷ images) within sized = HasPagesOf-put_back n (restored pages images) image within.0 (HasPagesOf-restored n pages images within.1 sized)

pub HasPagesOf-undone : (n : ℕ) (pages : List (List (List ℕ))) (log : UndoLog) → AllByRecursion (λ image. image.offset + length image.bytes ≤ n) log.images → HasPagesOf n pages → HasPagesOf n (undone pages log)
HasPagesOf-undone n pages log within sized = HasPagesOf-restored n (first_pages log.counts pages) log.images within (HasPagesOf-first_pages n log.counts pages sized)
