-- The laws of numbers as bytes and of overwritten bytes.
use Rattle.std.proofs.Common.{◌≡◌, ℕ, zero, suc, ◌+◌, ◌-◌, ◌*◌, ◌/◌, ◌%◌, ◌^◌, ◌<◌, ◌≤◌, List, [], ◌∷◌, ◌++◌, length, take, drop, replicate, refl, sym, ap, ◌∙◌, arith, append_assoc, length-append, length-drop, get_or-drop}
use Rattle.std.proofs.lemmas.List.{length-take-le, take_at, drop_at, drop-take, drop-drop, take-append-le, take-take, take-replicate, drop-replicate}
use Rattle.std.proofs.lemmas.Nat.{div_below}
use Rattle.std.proofs.Math.Nat.{pow-suc, pow-le-pow_right, div-div-eq-div-mul}
use Rattle.std.specs.Int.{w64, to_le_bytes, bytes_low_first}
use Rattle.hy_page.specs.Bytes.{number_of, bytes_of, bytes_at, overwritten, AreBytes}

-- a number has as many bytes as are asked for
pub length-bytes_of : (width number : ℕ) → length (bytes_of width number) ≡ width
length-bytes_of zero number = refl
length-bytes_of (suc width) number = ap suc (length-bytes_of width (number / 256))

-- the bytes of a number that fits them spell that number
pub number_of-bytes_of : (width number : ℕ) → number < 256 ^ width → number_of (bytes_of width number) ≡ number
number_of-bytes_of zero number fits = omega arith
number_of-bytes_of (suc width) number fits =
    let above : number / 256 < 256 ^ width = div_below number 256 (256 ^ width) (omega arith) (omega (arith, pow-suc 256 width)) in
    omega (arith, number_of-bytes_of width (number / 256) above)

-- some bytes spell a number that fits them
pub number_of-below : (bytes : List ℕ) → AreBytes bytes → number_of bytes < 256 ^ length bytes
number_of-below [] are_bytes = omega arith
number_of-below (byte ∷ bytes) are_bytes =
    let low : byte < 256 = are_bytes 0 in
    let rest = number_of-below bytes (λ k. are_bytes (suc k)) in
    omega (arith, pow-suc 256 (length bytes))

-- the lowest bytes of a number
pub take-bytes_of : (width more number : ℕ) → width ≤ more → take width (bytes_of more number) ≡ bytes_of width number
take-bytes_of zero more number within = refl
take-bytes_of (suc width) zero number within = absurd (omega arith)
take-bytes_of (suc width) (suc more) number within = ap (λ bytes. number % 256 ∷ bytes) (take-bytes_of width more (number / 256) (omega arith))

-- a part within a list has as many bytes as are asked for
pub length-bytes_at : (bytes : List ℕ) (offset count : ℕ) → offset + count ≤ length bytes → length (bytes_at bytes offset count) ≡ count
length-bytes_at bytes offset count within = length-take-le count (drop offset bytes) (omega (arith, length-drop offset bytes))

-- where bytes were written, these bytes stand
pub bytes_at-overwritten_same : (bytes : List ℕ) (offset : ℕ) (others : List ℕ) → offset + length others ≤ length bytes → bytes_at (overwritten bytes offset others) offset (length others) ≡ others
bytes_at-overwritten_same bytes offset others within =
    let rest = drop (offset + length others) bytes in
    let front : length (take offset bytes) ≡ offset = length-take-le offset bytes (omega arith) in
    ap (λ all. take (length others) (drop offset all)) (append_assoc (take offset bytes) others rest)
    ∙ ap (take (length others)) (drop_at (take offset bytes) (others ++ rest) offset front)
    ∙ take_at others rest (length others) refl

-- bytes before a write stay
pub bytes_at-overwritten_before : (bytes : List ℕ) (offset : ℕ) (others : List ℕ) (from count : ℕ) → offset ≤ length bytes → from + count ≤ offset → bytes_at (overwritten bytes offset others) from count ≡ bytes_at bytes from count
bytes_at-overwritten_before bytes offset others from count within before =
    let rest = drop (offset + length others) bytes in
    let front : length (take offset bytes) ≡ offset = length-take-le offset bytes within in
    sym (drop-take from count (overwritten bytes offset others))
    ∙ ap (λ all. drop from (take (from + count) all)) (append_assoc (take offset bytes) others rest)
    ∙ ap (drop from) (take-append-le (from + count) (take offset bytes) (others ++ rest) (omega arith))
    ∙ ap (drop from) (take-take (from + count) offset bytes before)
    ∙ drop-take from count bytes

-- bytes behind a write stay
pub bytes_at-overwritten_behind : (bytes : List ℕ) (offset : ℕ) (others : List ℕ) (from count : ℕ) → offset + length others ≤ length bytes → offset + length others ≤ from → bytes_at (overwritten bytes offset others) from count ≡ bytes_at bytes from count
bytes_at-overwritten_behind bytes offset others from count within behind =
    let end = offset + length others in
    let rest = drop end bytes in
    let front : length (take offset bytes ++ others) ≡ end = length-append (take offset bytes) others ∙ ap (λ n. n + length others) (length-take-le offset bytes (omega arith)) in
    let more : end + (from - end) ≡ from = omega arith in
    let parts = overwritten bytes offset others in
    ap (λ n. take count (drop n parts)) (sym more)
    ∙ ap (take count) (sym (drop-drop (from - end) end parts))
    ∙ ap (λ all. take count (drop (from - end) all)) (drop_at (take offset bytes ++ others) rest end front)
    ∙ ap (take count) (drop-drop (from - end) end bytes)
    ∙ ap (λ n. take count (drop n bytes)) more

-- a field that was written reads as the number that was written
pub field_written : (bytes : List ℕ) (offset width number : ℕ) → offset + width ≤ length bytes → number < 256 ^ width → number_of (bytes_at (overwritten bytes offset (bytes_of width number)) offset width) ≡ number
field_written bytes offset width number within fits =
    let size = length-bytes_of width number in
    ap (λ n. number_of (bytes_at (overwritten bytes offset (bytes_of width number)) offset n)) (sym size)
    ∙ ap number_of (bytes_at-overwritten_same bytes offset (bytes_of width number) (omega arith))
    ∙ number_of-bytes_of width number fits

-- zeros spell 0
pub number_of-replicate : (count : ℕ) → number_of (replicate count 0) ≡ 0
number_of-replicate zero = refl
number_of-replicate (suc count) = ap (λ n. 0 + 256 * n) (number_of-replicate count)

-- a field of zeros reads as 0
pub field_of_zeros : (size offset width : ℕ) → offset + width ≤ size → number_of (bytes_at (replicate size 0) offset width) ≡ 0
field_of_zeros size offset width within =
    ap (λ all. number_of (take width all)) (drop-replicate offset size 0)
    ∙ ap number_of (take-replicate width (size - offset) 0 (omega arith))
    ∙ number_of-replicate width

-- each element of a part of bytes is a byte
pub AreBytes-drop : (bytes : List ℕ) (from : ℕ) → AreBytes bytes → AreBytes (drop from bytes)
AreBytes-drop bytes from are_bytes k = omega (arith, get_or-drop from bytes k 0, are_bytes (from + k))

-- what at most seven bytes spell
pub number_of-drop-below : (bytes : List ℕ) (from : ℕ) → AreBytes bytes → length bytes ≤ 8 → 0 < from → number_of (drop from bytes) < 2 ^ 56
number_of-drop-below bytes from are_bytes short some =
    let size : length (drop from bytes) ≤ 7 = omega (arith, length-drop from bytes) in
    let below = number_of-below (drop from bytes) (AreBytes-drop bytes from are_bytes) in
    let room : 256 ^ length (drop from bytes) ≤ 256 ^ 7 = pow-le-pow_right (omega arith) size in
    omega arith

-- the eight bytes of a number, as the standard library gives them
pub to_le_bytes-bytes_of : (number : ℕ) → to_le_bytes w64 number ≡ bytes_of 8 number
to_le_bytes-bytes_of number = ap (λ bytes. number % 256 ∷ bytes) (low_first 0 7 number)
  where
    low_first : (i count number : ℕ) → bytes_low_first (suc i) count number ≡ bytes_of count (number / 256 ^ suc i)
    low_first i zero number = refl
    low_first i (suc count) number =
        ap (λ bytes. number / 256 ^ suc i % 256 ∷ bytes) (low_first (suc i) count number ∙ ap (bytes_of count) (ap (λ n. number / n) (pow-suc 256 (suc i)) ∙ sym (div-div-eq-div-mul number (256 ^ suc i) 256)))
