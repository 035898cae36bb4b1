-- Pages, their joined bytes, and what is written into them.
use Rattle.std.proofs.Common.{◌≡◌, ℕ, zero, suc, ◌+◌, ◌-◌, ◌*◌, ◌/◌, ◌%◌, ◌^◌, ◌<◌, ◌≤◌, List, [], ◌∷◌, ◌++◌, length, take, drop, set, sym, ap, ◌∙◌, arith, append_assoc, length-append}
use Rattle.std.specs.List.{concat}
use Rattle.std.proofs.lemmas.List.{append-nil, drop-append-le, drop-set-lt, drop_at, get_or-drop, get_or-set_same, get_or_append_left, length-drop, length-set, length-take-le, take-append-le, take-take, take_at}
use Rattle.std.proofs.lemmas.List.Folds.{concat-append}
use Rattle.std.proofs.lemmas.Nat.{div-add-mod'}
use Rattle.hy_page.specs.Bytes.{bytes_at, bytes_of, overwritten}
use Rattle.hy_page.proofs.ByteLaws.{field_written}
use Rattle.hy_rows.specs.Columns.{number_at}
use Rattle.hy_rows.specs.Spelling.{list_at, slot_at, slot_bytes, slot_start, slot_width, used_slots}
use Rattle.hy_undo.specs.Writes.{WritesAcross}
use Rattle.hy_undo.proofs.JoinedLaws.{Sized, concat-at, length-concat}
use Rattle.hy_relation.proofs.OverwriteLaws.{drop-overwritten}
use Rattle.hy_relation.specs.inside.Addresses.{CountsSlots, GrowsSlots, WritesJoined, slot_offset, slot_page}

-- the pages of a segment behind its first one
sized-rest : (n : ℕ) (pages : List (List ℕ)) → Sized n pages → Sized n (drop 1 pages)
sized-rest n pages sized k d within =
    ap length (get_or-drop 1 pages k d) ∙ sized (1 + k) d (omega (arith, length-drop 1 pages))

pub length-slot_bytes : (n : ℕ) (pages : List (List ℕ)) → Sized n pages → length (slot_bytes pages) ≡ (length pages - 1) * n
length-slot_bytes n pages sized = length-concat n (drop 1 pages) (sized-rest n pages sized) ∙ ap (λ count. count * n) (length-drop 1 pages)

-- the first page and those behind it, in the bytes of all
pub first_page : (n : ℕ) (pages : List (List ℕ)) → Sized n pages → 0 < length pages → take n (concat pages) ≡ list_at pages 0
first_page n [] sized some = absurd (omega (arith, some))
first_page n (page ∷ pages) sized some = take_at page (concat pages) n (sized 0 [] (omega arith))

pub other_pages : (n : ℕ) (pages : List (List ℕ)) → Sized n pages → 0 < length pages → drop n (concat pages) ≡ slot_bytes pages
other_pages n [] sized some = absurd (omega (arith, some))
other_pages n (page ∷ pages) sized some = drop_at page (concat pages) n (sized 0 [] (omega arith))

take-overwritten : (bytes : List ℕ) (first start : ℕ) (part : List ℕ) → first ≤ start → start ≤ length bytes
    → take first (overwritten bytes start part) ≡ take first bytes
take-overwritten bytes first start part before within =
    let front : List ℕ = take start bytes in
    let size : length front ≡ start = length-take-le start bytes within in
    ap (take first) (append_assoc front part (drop (start + length part) bytes))
    ∙ take-append-le first front (part ++ drop (start + length part) bytes) (omega (arith, size, before))
    ∙ take-take first start bytes before

-- a slot that one page holds
pub slot_at-on_page : (n width : ℕ) (pages : List (List ℕ)) (k : ℕ) → Sized n pages → slot_page n width k < length pages → slot_offset n width k + slot_width width ≤ n
    → slot_at n width pages k ≡ bytes_at (list_at pages (slot_page n width k)) (slot_offset n width k) (slot_width width)
slot_at-on_page n width pages k sized there fits =
    let start : ℕ = slot_start n width k in
    let parts : start / n * n + start % n ≡ start = div-add-mod' start n in
    ap (λ from. bytes_at (slot_bytes pages) from (slot_width width)) (sym parts)
    ∙ concat-at n (drop 1 pages) (start / n) (slot_offset n width k) (slot_width width) (sized-rest n pages sized) (omega (arith, there, length-drop 1 pages)) fits
    ∙ ap (λ page. bytes_at page (slot_offset n width k) (slot_width width)) (get_or-drop 1 pages (start / n) [])

-- some bytes of one page, in those of a slot
pub part-on_page : (n : ℕ) (pages : List (List ℕ)) (page offset from count : ℕ) → Sized n pages → 0 < page → page < length pages → offset + count ≤ n
    → (page - 1) * n + offset ≡ from → bytes_at (slot_bytes pages) from count ≡ bytes_at (list_at pages page) offset count
part-on_page n pages page offset from count sized behind there fits at =
    let next : 1 + (page - 1) ≡ page = omega (arith, behind) in
    ap (λ start. bytes_at (slot_bytes pages) start count) (sym at)
    ∙ concat-at n (drop 1 pages) (page - 1) offset count (sized-rest n pages sized) (omega (arith, there, behind, length-drop 1 pages)) fits
    ∙ ap (λ bytes. bytes_at bytes offset count) (get_or-drop 1 pages (page - 1) [] ∙ ap (λ p. list_at pages p) next)

-- the first of so many pages and the others
pub times-first : (n count : ℕ) → 0 < count → count * n ≡ n + (count - 1) * n
times-first n zero some = absurd (omega (arith, some))
times-first n (suc count) some =
    let others : (suc count - 1) * n ≡ count * n = ap (λ rest. rest * n) (let rest : suc count - 1 ≡ count = omega arith in rest) in
    let whole : suc count * n ≡ (count + 1) * n = ap (λ all. all * n) (let all : suc count ≡ count + 1 = omega arith in all) in
    omega (arith, others, whole)

-- a write over some bytes of the slots, in the bytes of all pages
pub across-joined : (n : ℕ) (old new : List (List (List ℕ))) (segment at start : ℕ) (part : List ℕ) → Sized n (list_at old segment) → Sized n (list_at new segment)
    → 0 < length (list_at old segment) → 8 ≤ n → start ≤ length (slot_bytes (list_at old segment)) → at ≡ n + start
    → WritesAcross old new segment at part
    → WritesJoined (list_at old segment) (list_at new segment) start part
across-joined n old new segment at start part sized resized some room within place written =
    let pages : List (List ℕ) = list_at old segment in
    let now : List (List ℕ) = list_at new segment in
    let still : 0 < length now = omega (arith, some, written.pages) in
    let count : length pages * n ≡ n + (length pages - 1) * n = times-first n (length pages) some in
    let all : length (concat pages) ≡ n + length (slot_bytes pages) = length-concat n pages sized ∙ omega (arith, length-slot_bytes n pages sized, count) in
    let joined : concat now ≡ overwritten (concat pages) (n + start) part = written.joined ∙ ap (λ from. overwritten (concat pages) from part) place in
    record {
      joined = sym (other_pages n now resized still) ∙ ap (drop n) joined ∙ drop-overwritten (concat pages) n start part (omega (arith, all, within))
          ∙ ap (λ bytes. overwritten bytes start part) (other_pages n pages sized some);
      used = ap (λ page. number_at page 0 8) (sym (first_page n now resized still) ∙ ap (take n) joined
          ∙ take-overwritten (concat pages) n (n + start) part (omega arith) (omega (arith, all, within)) ∙ first_page n pages sized some);
      pages = written.pages;
    }

-- another number of used slots
pub counts_slots : (n : ℕ) (pages : List (List ℕ)) (count : ℕ) → 8 ≤ n → 0 < length pages → length (list_at pages 0) ≡ n → count < 2 ^ 64
    → CountsSlots pages (set pages 0 (overwritten (list_at pages 0) 0 (bytes_of 8 count))) count
counts_slots n pages count room some full small =
    let written = overwritten (list_at pages 0) 0 (bytes_of 8 count) in
    record {
      joined = ap concat (drop-set-lt 1 pages 0 written (omega arith));
      used = ap (λ page. number_at page 0 8) (get_or-set_same pages 0 written [] some) ∙ field_written (list_at pages 0) 0 8 count (omega arith) small;
      pages = length-set pages 0 written;
    }

-- one page more
pub grows_slots : (pages : List (List ℕ)) (page : List ℕ) → 0 < length pages → GrowsSlots pages (pages ++ page ∷ [])
grows_slots pages page some = record {
  joined = (concat (page ∷ []), ap concat (drop-append-le 1 pages (page ∷ []) (omega arith)) ∙ concat-append (drop 1 pages) (page ∷ []));
  used = ap (λ first. number_at first 0 8) (get_or_append_left pages (page ∷ []) [] 0 some);
  pages = omega (arith, length-append pages (page ∷ []));
}

-- no page more
pub grows_none : (old new : List (List ℕ)) → new ≡ old → GrowsSlots old new
grows_none old new same = record {
  joined = ([], ap slot_bytes same ∙ sym (append-nil (slot_bytes old)));
  used = ap used_slots same;
  pages = omega (arith, ap length same);
}
