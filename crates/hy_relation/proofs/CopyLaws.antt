-- Some bytes of a slot, copied page by page.
use Rattle.std.proofs.Common.{◌≡◌, ℕ, ◌+◌, ◌-◌, ◌*◌, ◌<◌, ◌≤◌, List, [], ◌++◌, length, length-append, min, take, drop, sym, ap, ap₂, ◌∙◌, arith}
use Rattle.std.proofs.Math.Nat.{lt_of_mul-lt-mul_right}
use Rattle.std.proofs.Math.Seq.{take-add}
use Rattle.std.proofs.lemmas.List.{drop-drop}
use Rattle.hy_page.specs.Bytes.{bytes_at}
use Rattle.hy_page.proofs.ByteLaws.{length-bytes_at}
use Rattle.hy_rows.specs.Spelling.{list_at, slot_bytes}
use Rattle.hy_undo.proofs.JoinedLaws.{Sized}
use Rattle.hy_relation.proofs.PageLaws.{length-slot_bytes, part-on_page, times-first}

-- the first of so many bytes from a start on were copied, and the next ones begin at an offset of a page
pub record IsCopied (n total start : ℕ) (pages : List (List ℕ)) (copied : List ℕ) (page offset : ℕ) : Type 0 where
  pub within : length copied ≤ total
  pub bytes : copied ≡ bytes_at (slot_bytes pages) start (length copied)
  pub behind : 0 < page
  pub inside : offset < n
  pub at : length copied < total → (page - 1) * n + offset ≡ start + length copied

-- some bytes, and those behind them
bytes_at-then : (bytes : List ℕ) (start first more : ℕ) → bytes_at bytes start (first + more) ≡ bytes_at bytes start first ++ bytes_at bytes (start + first) more
bytes_at-then bytes start first more =
    take-add first more (drop start bytes) ∙ ap (λ rest. take first (drop start bytes) ++ take more rest) (drop-drop first start bytes)

module _ (n total start : ℕ) (pages : List (List ℕ)) (copied : List ℕ) (page offset : ℕ) (sized : Sized n pages)
    (fits : start + total ≤ length (slot_bytes pages)) (so_far : IsCopied n total start pages copied page offset)
    (more : length copied < total) where
  -- the page is there
  pub copied-there : page < length pages
  copied-there =
      let bytes : length (slot_bytes pages) ≡ (length pages - 1) * n = length-slot_bytes n pages sized in
      let place : page - 1 < length pages - 1 = lt_of_mul-lt-mul_right n (omega (arith, so_far.at more, more, fits, bytes)) in
      omega (arith, place)

  -- and as many of its bytes as are left follow
  pub copied-more : (count : ℕ) (part : List ℕ) → count ≡ min (total - length copied) (n - offset)
      → part ≡ bytes_at (list_at pages page) offset count → IsCopied n total start pages (copied ++ part) (page + 1) 0
  copied-more count part counted is =
      let joined : List ℕ = slot_bytes pages in
      let room : offset + count ≤ n = omega (arith, counted, so_far.inside) in
      let page_size : length (list_at pages page) ≡ n = sized page [] copied-there in
      let size : length part ≡ count = ap length is ∙ length-bytes_at (list_at pages page) offset count (omega (arith, room, page_size)) in
      let all : length (copied ++ part) ≡ length copied + count = omega (arith, length-append copied part, size) in
      let here : part ≡ bytes_at joined (start + length copied) count =
      is ∙ sym (part-on_page n pages page offset (start + length copied) count sized so_far.behind copied-there room (so_far.at more)) in
      let pages_before : page * n ≡ n + (page - 1) * n = times-first n page so_far.behind in
      let next : (page + 1 - 1) * n ≡ page * n = ap (λ place. place * n) (let same : page + 1 - 1 ≡ page = omega arith in same) in
      record {
        within = omega (arith, all, counted, so_far.within);
        bytes = ap₂ (λ one other. one ++ other) so_far.bytes here ∙ sym (bytes_at-then joined start (length copied) count) ∙ ap (bytes_at joined start) (sym all);
        behind = omega arith;
        inside = omega (arith, so_far.inside);
        at = λ still. omega (arith, still, all, counted, so_far.at more, so_far.inside, pages_before, next);
      }
