-- The joined bytes of pages, and what is written into them.
use Rattle.std.proofs.Common.{◌≡◌, ◌≢◌, ℕ, zero, suc, ◌+◌, ◌-◌, ◌*◌, ◌/◌, ◌<◌, ◌≤◌, List, [], ◌∷◌, ◌++◌, length, take, drop, set, get_or, refl, sym, ap, ◌∙◌, ap₂, subst, arith, append_assoc, length-append}
use Rattle.std.specs.Prelude.{All}
use Rattle.std.specs.List.{concat}
use Rattle.std.proofs.Math.Nat.{add-mul-div_right, lt_of_mul-lt-mul_right}
use Rattle.std.proofs.Math.Seq.{take-add}
use Rattle.std.proofs.lemmas.List.{append-nil, drop-append-le, drop-drop, drop_at, get_or-set_other, get_or-set_same, get_or_push, length-drop, length-take-le, length_push, nil_from_length, take-append-drop, take-append-le, take_at}
use Rattle.std.proofs.lemmas.List.Elements.{All-get_or}
use Rattle.hy_page.specs.Bytes.{bytes_at, overwritten}
use Rattle.hy_space.specs.Space.{HasPage, IsSound, SpaceState, owner_bytes, page_at, page_bytes, with_page}
use Rattle.hy_undo.specs.UndoLog.{Image, UndoLog, image_at, put_back, with_image}
use Rattle.hy_undo.specs.Writes.{WritesAcross, pages_at, pages_of_part}
use Rattle.hy_undo.specs.inside.RollBack.{last_image, without_last}
use Rattle.hy_undo.proofs.PieceLaws.{take-front}
use Rattle.hy_undo.proofs.PrivatePageLaws.{HasPagesOf-owner_bytes, IsThere-owner_bytes, length-page_bytes}
use Rattle.hy_undo.proofs.PutBackLaws.{length-segment-with_page, length-with_page, put_back-written}

-- each page has so many bytes
abbrev pub Sized : ℕ → List (List ℕ) → Type 0
Sized n pages = All (λ page. length page ≡ n) pages

-- all bytes of such pages
pub length-concat : (n : ℕ) (pages : List (List ℕ)) → Sized n pages → length (concat pages) ≡ length pages * n
length-concat n [] sized = omega arith
length-concat n (page ∷ pages) sized =
    let size : length page ≡ n = sized 0 [] (omega arith) in
    let rest = length-concat n pages (λ k d within. sized (suc k) d (omega arith)) in
    omega (arith, length-append page (concat pages))

-- a part of one page, in the bytes of all
pub concat-at : (n : ℕ) (pages : List (List ℕ)) (place offset count : ℕ) → Sized n pages → place < length pages → offset + count ≤ n
    → bytes_at (concat pages) (place * n + offset) count ≡ bytes_at (get_or pages place []) offset count
concat-at n [] place offset count sized within fits = absurd (omega arith)
concat-at n (page ∷ pages) zero offset count sized within fits =
    let size : length page ≡ n = sized 0 [] (omega arith) in
    let start : 0 * n + offset ≡ offset = omega arith in
    ap (λ from. bytes_at (page ++ concat pages) from count) start
    ∙ ap (take count) (drop-append-le offset page (concat pages) (omega arith))
    ∙ take-append-le count (drop offset page) (concat pages) (omega (arith, length-drop offset page))
concat-at n (page ∷ pages) (suc place) offset count sized within fits =
    let size : length page ≡ n = sized 0 [] (omega arith) in
    let start : suc place * n + offset ≡ n + (place * n + offset) = omega arith in
    ap (λ from. bytes_at (page ++ concat pages) from count) start
    ∙ ap (take count) (sym (drop-drop (place * n + offset) n (page ++ concat pages)) ∙ ap (drop (place * n + offset)) (drop_at page (concat pages) n size))
    ∙ concat-at n pages place offset count (λ k d lower. sized (suc k) d (omega arith)) (omega arith) fits

-- a write into one page, in the bytes of all
pub concat-written : (n : ℕ) (pages : List (List ℕ)) (place offset : ℕ) (part : List ℕ) → Sized n pages → place < length pages → offset + length part ≤ n
    → concat (set pages place (overwritten (get_or pages place []) offset part)) ≡ overwritten (concat pages) (place * n + offset) part
concat-written n [] place offset part sized within fits = absurd (omega arith)
concat-written n (page ∷ pages) zero offset part sized within fits =
    let size : length page ≡ n = sized 0 [] (omega arith) in
    let all = concat pages in
    let start : offset ≡ 0 * n + offset = omega arith in
    append_assoc (take offset page ++ part) (drop (offset + length part) page) all
    ∙ ap₂ (λ front rest. front ++ part ++ rest) (sym (take-append-le offset page all (omega arith))) (sym (drop-append-le (offset + length part) page all (omega arith)))
    ∙ ap (λ from. overwritten (page ++ all) from part) start
concat-written n (page ∷ pages) (suc place) offset part sized within fits =
    let size : length page ≡ n = sized 0 [] (omega arith) in
    let all = concat pages in
    let from = place * n + offset in
    let rest : List ℕ = drop (from + length part) all in
    let start : n + from ≡ suc place * n + offset = omega arith in
    let end : n + (from + length part) ≡ n + from + length part = omega arith in
    let front : page ++ take from all ≡ take (n + from) (page ++ all) =
    ap₂ (λ first more. first ++ take from more) (sym (take_at page all n size)) (sym (drop_at page all n size)) ∙ sym (take-add n from (page ++ all)) in
    let behind : rest ≡ drop (n + from + length part) (page ++ all) =
    ap (drop (from + length part)) (sym (drop_at page all n size)) ∙ drop-drop (from + length part) n (page ++ all) ∙ ap (λ to. drop to (page ++ all)) end in
    ap (λ bytes. page ++ bytes) (concat-written n pages place offset part (λ k d lower. sized (suc k) d (omega arith)) (omega arith) fits)
    ∙ sym (append_assoc page (take from all ++ part) rest)
    ∙ ap (λ bytes. bytes ++ rest) (sym (append_assoc page (take from all) part))
    ∙ ap₂ (λ first last. first ++ part ++ last) front behind
    ∙ ap (λ to. overwritten (page ++ all) to part) start

-- bytes that are written over, and others behind them, are both written over at once
pub overwritten-then : (bytes : List ℕ) (start : ℕ) (first more : List ℕ) → start + length first + length more ≤ length bytes
    → overwritten (overwritten bytes start first) (start + length first) more ≡ overwritten bytes start (first ++ more)
overwritten-then bytes start first more within =
    let front : List ℕ = take start bytes ++ first in
    let rest : List ℕ = drop (start + length first) bytes in
    let size : length front ≡ start + length first = omega (arith, length-append (take start bytes) first, length-take-le start bytes (omega arith)) in
    let end : start + length first + length more ≡ start + length (first ++ more) = omega (arith, length-append first more) in
    let behind : drop (start + length first + length more) (front ++ rest) ≡ drop (start + length (first ++ more)) bytes =
    sym (drop-drop (length more) (start + length first) (front ++ rest)) ∙ ap (drop (length more)) (drop_at front rest (start + length first) size)
    ∙ drop-drop (length more) (start + length first) bytes ∙ ap (λ from. drop from bytes) end in
    ap₂ (λ before after. before ++ more ++ after) (take_at front rest (start + length first) size) behind
    ∙ ap (λ before. before ++ drop (start + length (first ++ more)) bytes) (append_assoc (take start bytes) first more)

-- and where they are none, nothing is
overwritten-none : (bytes : List ℕ) (start : ℕ) → overwritten bytes start [] ≡ bytes
overwritten-none bytes start =
    let end : start + 0 ≡ start = omega arith in
    ap₂ (λ front from. front ++ drop from bytes) (append-nil (take start bytes)) end ∙ take-append-drop start bytes

-- ---- one segment

-- a write into one page of a space
pub across-written : (n : ℕ) (old new : SpaceState) (segment page offset : ℕ) (bytes : List ℕ) → IsSound n old → HasPage old segment page → offset + length bytes ≤ n
    → owner_bytes new ≡ with_page (owner_bytes old) segment page (overwritten (page_bytes old segment page) offset bytes)
    → WritesAcross (owner_bytes old) (owner_bytes new) segment (page * n + offset) bytes
across-written n old new segment page offset bytes sound has within written =
    let all : List (List (List ℕ)) = owner_bytes old in
    let there = IsThere-owner_bytes old segment page has in
    let pages : List (List ℕ) = pages_at all segment in
    let content : List ℕ = overwritten (page_bytes old segment page) offset bytes in
    let sized : Sized n pages = All-get_or (λ (one : List (List ℕ)). Sized n one) all segment [] there.in_pages (HasPagesOf-owner_bytes n old sound) in
    let here : pages_at (owner_bytes new) segment ≡ set pages page content =
    ap (λ (now : List (List (List ℕ))). pages_at now segment) written ∙ get_or-set_same all segment (set pages page content) [] there.in_pages in
    record {
      segments = ap length written ∙ length-with_page all segment page content;
      pages = ap (λ (now : List (List (List ℕ))). length (pages_at now segment)) written ∙ length-segment-with_page all segment page content segment;
      joined = ap concat here ∙ concat-written n pages page offset bytes sized there.in_segment within;
      others = λ other differs. ap (λ (now : List (List (List ℕ))). pages_at now other) written ∙ get_or-set_other all segment other (set pages page content) [] differs;
    }

-- and then one behind it
pub across-then : (old mid new : List (List (List ℕ))) (segment start next : ℕ) (first more bytes : List ℕ) → start + length first ≡ next → first ++ more ≡ bytes
    → start + length bytes ≤ length (concat (pages_at old segment))
    → WritesAcross old mid segment start first → WritesAcross mid new segment next more → WritesAcross old new segment start bytes
across-then old mid new segment start next first more bytes goes_on whole within one two = record {
  segments = two.segments ∙ one.segments;
  pages = two.pages ∙ one.pages;
  joined = two.joined ∙ ap₂ (λ (all : List ℕ) from. overwritten all from more) one.joined (sym goes_on)
      ∙ overwritten-then (concat (pages_at old segment)) start first more (omega (arith, within, ap length whole, length-append first more))
      ∙ ap (overwritten (concat (pages_at old segment)) start) whole;
  others = λ other differs. two.others other differs ∙ one.others other differs;
}

-- all bytes of a segment of a space
pub length-segment : (n : ℕ) (s : SpaceState) (segment : ℕ) → IsSound n s → segment < length (owner_bytes s)
    → length (concat (pages_at (owner_bytes s) segment)) ≡ length (pages_at (owner_bytes s) segment) * n
length-segment n s segment sound there =
    length-concat n (pages_at (owner_bytes s) segment) (All-get_or (λ (one : List (List ℕ)). Sized n one) (owner_bytes s) segment [] there (HasPagesOf-owner_bytes n s sound))

-- ---- a write that is taken back

pub last_image-with : (log : UndoLog) (image : Image) → last_image (with_image log image) ≡ image
last_image-with log image =
    get_or_push log.images image (record { segment = 0; page = 0; offset = 0; bytes = [] }) (length (log.images ++ image ∷ []) - 1) (omega (arith, length_push log.images image))

pub written_back : (n : ℕ) (old mid new : SpaceState) (log : UndoLog) (before : UndoLog) (segment page offset count : ℕ) (bytes : List ℕ) → IsSound n old → HasPage old segment page → offset + length bytes ≤ n → length bytes ≡ count
    → owner_bytes mid ≡ with_page (owner_bytes old) segment page (overwritten (page_bytes old segment page) offset bytes)
    → log ≡ with_image before (image_at old segment page offset count)
    → owner_bytes new ≡ put_back (owner_bytes mid) (last_image log)
    → owner_bytes new ≡ owner_bytes old
written_back n old mid new log before segment page offset count bytes sound has within counted written kept back =
    let image_of = λ (size : ℕ). image_at old segment page offset size in
    back
    ∙ ap₂ put_back written (ap last_image kept ∙ last_image-with before (image_of count) ∙ ap image_of (sym counted))
    ∙ put_back-written (owner_bytes old) segment page offset bytes (omega (arith, within, length-page_bytes n old segment page sound has))

pub without_last-with : (log : UndoLog) (image : Image) → without_last (with_image log image) ≡ log
without_last-with log image =
    let log_of = λ (images : List Image). let some : UndoLog = record { counts = log.counts; images = images } in some in
    ap log_of (take-front log.images image)

-- ---- the pages of a part

-- the page at which some bytes begin is there
pub page_there : (n page offset count pages : ℕ) → 0 < count → page * n + offset + count ≤ pages * n → page < pages
page_there n page offset count pages some within = lt_of_mul-lt-mul_right n (omega (arith, some, within))

-- what doesn't fit the first page lies on the others
pub pages_behind : (n offset room count : ℕ) → 0 < n → offset + room ≡ n → room ≤ count
    → pages_of_part n offset count ≡ 1 + pages_of_part n 0 (count - room)
pages_behind n offset room count some ends more =
    let whole : offset + count ≡ count - room + 1 * n = omega (arith, ends, more) in
    let same : (0 + (count - room)) / n ≡ (count - room) / n = ap (λ all. all / n) (let zero : 0 + (count - room) ≡ count - room = omega arith in zero) in
    let one : (offset + count) / n ≡ (count - room) / n + 1 = ap (λ all. all / n) whole ∙ add-mul-div_right (count - room) 1 some in
    omega (arith, one, same)

-- no bytes at all
pub across-none : (all : List (List (List ℕ))) (segment start : ℕ) (bytes : List ℕ) → length bytes ≡ 0 → WritesAcross all all segment start bytes
across-none all segment start bytes none = record {
  segments = refl;
  pages = refl;
  joined = sym (ap (overwritten (concat (pages_at all segment)) start) (nil_from_length bytes none) ∙ overwritten-none (concat (pages_at all segment)) start);
  others = λ other differs. refl;
}
