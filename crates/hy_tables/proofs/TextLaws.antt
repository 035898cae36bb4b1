-- Laws of the texts in generated rows: each fits its field, and none of its bytes is zero.
use Rattle.std.proofs.Common.{◌≡◌, ℕ, ◌+◌, ◌/◌, ◌%◌, ◌<◌, ◌≤◌, ◌^◌, Bool, true, false, ◌&&◌, nat_lt, nat_le, List, [], ◌∷◌, ◌++◌, length, codes, arith, refl, ltb-true, leb-true}
use Rattle.std.specs.List.{All, list_all}
use Rattle.std.specs.Fmt.{decimal}
use Rattle.std.proofs.lemmas.Fmt.{decimal_by_steps, length-decimal-le}
use Rattle.std.proofs.lemmas.List.{length-append}
use Rattle.std.proofs.lemmas.List.Elements.{All-nil, All-cons, All-append}
use Rattle.std.proofs.lemmas.List.Sums.{AllPass-from_list_all}
use Rattle.hy_rows.specs.Texts.{IsText}
use Rattle.hy_tables.specs.Generated.{last_name, payment_information, syllable, syllables}

-- no byte is zero
abbrev Nonzero : ℕ → Type 0
Nonzero byte = 0 < byte

-- both halves of a test that passes
both : (a b : Bool) → (a && b) ≡ true → (a ≡ true) × (b ≡ true)
both true true passed = (refl, refl)
both true false passed = cc
both false b passed = cc

-- whether a text fits, with no zero byte
abbrev pub is_text : ℕ → List ℕ → Bool
is_text width text = nat_le (length text) width && list_all (nat_lt 0) text

-- the test shows it
pub tested_text : (width : ℕ) (text : List ℕ) → is_text width text ≡ true → IsText width text
tested_text width text passed =
    let parts = both (nat_le (length text) width) (list_all (nat_lt 0) text) passed in
    let nonzero = AllPass-from_list_all (nat_lt 0) text parts.1 in
    record {
      fits = leb-true _ _ parts.0;
      nonzero = λ k d within. ltb-true 0 _ (nonzero k d within);
    }

-- one text behind another
pub joined_text : (first second total : ℕ) (xs ys : List ℕ) → IsText first xs → IsText second ys → first + second ≤ total → IsText total (xs ++ ys)
joined_text first second total xs ys a b fits = record {
  fits =
      let sum = length-append xs ys in
      let left = a.fits in
      let right = b.fits in
      omega arith;
  nonzero = All-append Nonzero xs ys a.nonzero b.nonzero;
}

-- a number in decimal digits
decimal-nonzero : (number : ℕ) → number < 2 ^ 64 → All Nonzero (decimal number)
decimal-nonzero number fits = decimal_by_steps (λ n digits. All Nonzero digits)
    (λ n small. All-cons Nonzero (48 + n) [] (omega arith) (All-nil Nonzero))
    (λ n digits large so_far. All-append Nonzero digits ((48 + n % 10) ∷ []) so_far
    (All-cons Nonzero (48 + n % 10) [] (omega arith) (All-nil Nonzero)))
    number fits

pub decimal_text : (number : ℕ) → number < 1_000_000 → IsText 6 (decimal number)
decimal_text number small = record {
  fits = length-decimal-le 6 number (omega arith) (omega arith) (omega arith);
  nonzero = decimal-nonzero number (omega arith);
}

-- a text that fits a narrow field fits a wider one
pub wider_text : (narrow wide : ℕ) (text : List ℕ) → IsText narrow text → narrow ≤ wide → IsText wide text
wider_text narrow wide text fits within = record {
  fits = omega (arith, fits.fits, within);
  nonzero = fits.nonzero;
}

-- letters and a number
pub name_text : (width : ℕ) (letters : List ℕ) (number : ℕ) → IsText 4 letters → number < 1_000_000 → 10 ≤ width
    → IsText width (letters ++ decimal number)
name_text width letters number short small within =
    joined_text 4 6 width letters (decimal number) short (decimal_text number small) (omega (arith, within))

-- the names of a warehouse and of a district, with four spaces between
pub information_text : (warehouse district : ℕ) → warehouse < 256 → district < 256
    → IsText 24 (payment_information warehouse district)
information_text warehouse district small_warehouse small_district =
    let front : IsText 7 (codes "W" ++ decimal warehouse) =
    joined_text 1 6 7 (codes "W") (decimal warehouse) (tested_text 1 (codes "W") refl)
    (decimal_text warehouse (omega (arith, small_warehouse))) (omega arith) in
    let middle : IsText 12 (codes "W" ++ decimal warehouse ++ codes "    D") =
    joined_text 7 5 12 (codes "W" ++ decimal warehouse) (codes "    D") front (tested_text 5 (codes "    D") refl)
    (omega arith) in
    joined_text 12 6 24 (codes "W" ++ decimal warehouse ++ codes "    D") (decimal district) middle
    (decimal_text district (omega (arith, small_district))) (omega arith)

-- each syllable has at most five letters
pub syllable_text : (number : ℕ) → IsText 5 (syllable number)
syllable_text number =
    tested_text 5 (syllable number) (AllPass-from_list_all (is_text 5) syllables refl (number % 10) [] (omega arith))

pub last_name_text : (number : ℕ) → IsText 16 (last_name number)
last_name_text number =
    let front = joined_text 5 5 10 (syllable (number / 100)) (syllable (number / 10)) (syllable_text (number / 100)) (syllable_text (number / 10)) (omega arith) in
    joined_text 10 5 16 (syllable (number / 100) ++ syllable (number / 10)) (syllable number) front (syllable_text number) (omega arith)
