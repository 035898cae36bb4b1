-- The laws of columns that lie one behind another in the bytes of a row.
use Rattle.std.proofs.Common.{◌≡◌, ℕ, ℤ, ◌+◌, ◌/◌, ◌%◌, ◌^◌, ◌<◌, ◌≤◌, List, [], ◌∷◌, ◌++◌, length, take, drop, refl, sym, ap, ◌∙◌, arith, add-one, append_assoc, length-append, length-drop}
use Rattle.std.proofs.lemmas.List.{take_all, take-append-le, drop_at, drop-append-le}
use Rattle.std.proofs.lemmas.Int.{ints}
use Rattle.std.proofs.lemmas.List.{append-nil}
use Rattle.std.specs.List.{concat}
use Rattle.std.specs.Int.{w64, cast_unsigned}
use Rattle.std.specs.Int.RustNames.{FitsSigned}
use Rattle.hy_page.specs.Bytes.{bytes_of, bytes_at}

-- a number's lowest byte behind a list, and then its other bytes
pub append-lowest_byte : (list : List ℕ) (width more number : ℕ) → more ≡ width + 1 → (list ++ number % 256 ∷ []) ++ bytes_of width (number / 256) ≡ list ++ bytes_of more number
append-lowest_byte list width more number one_more = rw (one_more, add-one, append_assoc) refl

-- a first list with others behind it, one after another
abbrev pub joined : List ℕ → List (List ℕ) → List ℕ
joined first [] = first
joined first (next ∷ others) = joined (first ++ next) others

-- lists put behind a first one, one after another
pub append-concat : (front : List ℕ) (lists : List (List ℕ)) → front ++ concat lists ≡ joined front lists
append-concat front [] = append-nil front
append-concat front (list ∷ lists) =
    sym (append_assoc front list (concat lists)) ∙ append-concat (front ++ list) lists

-- a list behind another, which itself was put together
pub append-pushed : {before items more : List ℕ} (column : List ℕ) → items ≡ before → more ≡ items ++ column → more ≡ before ++ column
append-pushed column first second = second ∙ ap (λ list. list ++ column) first

-- a number behind another list, which was given as another one
pub append-number : {before items more : List ℕ} {given : ℕ} (width number : ℕ) → items ≡ before → given ≡ number → more ≡ items ++ bytes_of width given → more ≡ before ++ bytes_of width number
append-number width number first same second = rw (sym first, sym same) second

-- what stands behind a list doesn't change a part within it
pub bytes_at-append : (first next : List ℕ) (offset count : ℕ) → offset + count ≤ length first → bytes_at (first ++ next) offset count ≡ bytes_at first offset count
bytes_at-append first next offset count within =
    ap (take count) (drop-append-le offset first next (omega arith))
    ∙ take-append-le count (drop offset first) next (omega (arith, length-drop offset first))

-- nor do several lists behind it
pub bytes_at-joined : (first : List ℕ) (others : List (List ℕ)) (offset count : ℕ) → offset + count ≤ length first → bytes_at (joined first others) offset count ≡ bytes_at first offset count
bytes_at-joined first [] offset count within = refl
bytes_at-joined first (next ∷ others) offset count within =
    bytes_at-joined (first ++ next) others offset count (omega (arith, length-append first next))
    ∙ bytes_at-append first next offset count within

-- a column stands where the ones in front of it end
pub bytes_at-column : (front column : List ℕ) (others : List (List ℕ)) (offset width : ℕ) → length front ≡ offset → length column ≡ width → bytes_at (joined (front ++ column) others) offset width ≡ column
bytes_at-column front column others offset width before size =
    bytes_at-joined (front ++ column) others offset width (omega (arith, length-append front column))
    ∙ ap (take width) (drop_at front column offset before)
    ∙ take_all width column (omega arith)

-- a signed number fits eight bytes
pub cast_unsigned-below : (number : ℤ) → FitsSigned w64 number → cast_unsigned w64 number < 256 ^ 8
cast_unsigned-below number fits = omega (arith, ints)
