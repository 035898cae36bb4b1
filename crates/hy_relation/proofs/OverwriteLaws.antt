-- Bytes that are written over, within some of a list.
use Rattle.std.proofs.Common.{◌≡◌, ℕ, suc, ◌+◌, ◌-◌, ◌≤◌, List, ◌∷◌, ◌++◌, length, take, drop, sym, ap, ap₂, ◌∙◌, arith, append_assoc, length-append}
use Rattle.std.proofs.Math.Seq.{take-add, take-append-add}
use Rattle.std.proofs.lemmas.List.{drop-append-le, drop-drop, drop-take, drop_at, length-drop, length-take-le, take-take}
use Rattle.hy_page.specs.Bytes.{bytes_at, overwritten}

-- bytes behind the first ones that are written over
pub drop-overwritten : (bytes : List ℕ) (first start : ℕ) (part : List ℕ) → first + start ≤ length bytes
    → drop first (overwritten bytes (first + start) part) ≡ overwritten (drop first bytes) start part
drop-overwritten bytes first start part within =
    let front : List ℕ = take (first + start) bytes in
    let rest : List ℕ = drop (first + start + length part) bytes in
    let size : length front ≡ first + start = length-take-le (first + start) bytes within in
    let behind : drop first front ≡ take start (drop first bytes) =
    ap (drop first) (take-add first start bytes) ∙ drop_at (take first bytes) (take start (drop first bytes)) first (length-take-le first bytes (omega (arith, within))) in
    let end : first + (start + length part) ≡ first + start + length part = omega arith in
    ap (drop first) (append_assoc front part rest)
    ∙ drop-append-le first front (part ++ rest) (omega (arith, size))
    ∙ sym (append_assoc (drop first front) part rest)
    ∙ ap₂ (λ before after. before ++ part ++ after) behind
    (ap (λ from. drop from bytes) (sym end) ∙ sym (drop-drop (start + length part) first bytes))

-- and the first of them
take-overwritten_inside : (bytes : List ℕ) (count start : ℕ) (part : List ℕ) → start + length part ≤ count → count ≤ length bytes
    → take count (overwritten bytes start part) ≡ overwritten (take count bytes) start part
take-overwritten_inside bytes count start part inside within =
    let end : ℕ = start + length part in
    let front : List ℕ = take start bytes ++ part in
    let rest : List ℕ = drop end bytes in
    let size : length front ≡ end = omega (arith, length-append (take start bytes) part, length-take-le start bytes (omega (arith, inside, within))) in
    let all : count ≡ end + (count - end) = omega (arith, inside) in
    let behind : drop end (take count bytes) ≡ take (count - end) rest =
    ap (λ some. drop end (take some bytes)) all ∙ drop-take end (count - end) bytes in
    ap (λ some. take some (front ++ rest)) (all ∙ ap (λ some. some + (count - end)) (sym size))
    ∙ take-append-add front rest (count - end)
    ∙ ap₂ (λ before after. before ++ part ++ after) (sym (take-take start count bytes (omega (arith, inside)))) (sym behind)

-- some bytes, where others are written over within them
pub bytes_at-overwritten_inside : (bytes : List ℕ) (from count offset : ℕ) (part : List ℕ) → from + count ≤ length bytes → offset + length part ≤ count
    → bytes_at (overwritten bytes (from + offset) part) from count ≡ overwritten (bytes_at bytes from count) offset part
bytes_at-overwritten_inside bytes from count offset part within inside =
    ap (take count) (drop-overwritten bytes from offset part (omega (arith, within, inside)))
    ∙ take-overwritten_inside (drop from bytes) count offset part inside (omega (arith, length-drop from bytes, within))

-- bytes behind the first one
pub overwritten-behind : (byte : ℕ) (bytes : List ℕ) (start : ℕ) (part : List ℕ)
    → overwritten (byte ∷ bytes) (1 + start) part ≡ byte ∷ overwritten bytes start part
overwritten-behind byte bytes start part =
    let next : 1 + start ≡ suc start = omega arith in
    let end : 1 + start + length part ≡ suc (start + length part) = omega arith in
    ap₂ (λ front from. take front (byte ∷ bytes) ++ part ++ drop from (byte ∷ bytes)) next end
