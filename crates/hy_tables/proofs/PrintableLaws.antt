-- The texts in generated rows are printable and fit their fields.
use Rattle.std.proofs.Common.{◌≡◌, ℕ, ◌+◌, ◌/◌, ◌%◌, ◌<◌, ◌≤◌, ◌^◌, ◌==◌, true, false, cond, IsTrue, List, [], ◌∷◌, ◌++◌, length, codes, arith, refl, length-append, lit<}
use Rattle.std.specs.List.{list_any}
use Rattle.std.specs.Prelude.{bytes_eq}
use Rattle.std.specs.Fmt.{decimal}
use Rattle.std.proofs.lemmas.Fmt.{decimal_by_steps}
use Rattle.std.proofs.lemmas.List.Elements.{All-nil, All-cons, All-append, All-from_recursion}
use Rattle.std.proofs.lemmas.List.Sums.{AllPass-from_list_all}
use Rattle.hy_rows.specs.Columns.{is_printable}
use Rattle.hy_rows.specs.Ranges.{IsLoadedText}
use Rattle.hy_rows.specs.Texts.{IsPrintable}
use Rattle.hy_rows.proofs.PrintableLaws.{printable}
use Rattle.hy_tables.specs.Generated.{credit, digit, last_name, payment_information, syllable, syllables, with_four_digits}
use Rattle.hy_tables.proofs.TextLaws.{decimal_text, information_text, last_name_text}

abbrev IsPrintableByte : ℕ → Type 0
IsPrintableByte byte = (32 ≤ byte) × (byte ≤ 126)

-- a number in decimal digits
decimal-printable : (number : ℕ) → number < 2 ^ 64 → IsPrintable (decimal number)
decimal-printable number fits = decimal_by_steps (λ n digits. IsPrintable digits)
    (λ n small. All-cons IsPrintableByte (48 + n) [] (omega arith) (All-nil IsPrintableByte))
    (λ n digits large so_far. All-append IsPrintableByte digits ((48 + n % 10) ∷ []) so_far
    (All-cons IsPrintableByte (48 + n % 10) [] (omega arith) (All-nil IsPrintableByte)))
    number fits

-- letters and a number
pub name_loaded : (width : ℕ) (letters : List ℕ) (number : ℕ) → length letters ≤ 4 → is_printable letters ≡ true
    → number < 1_000_000 → 10 ≤ width → IsLoadedText width (letters ++ decimal number)
name_loaded width letters number short letters_printable small within = (
  omega (arith, short, within, length-append letters (decimal number), (decimal_text number small).fits),
  All-append IsPrintableByte letters (decimal number) (printable letters letters_printable)
      (decimal-printable number (omega (arith, small))),
)

-- the names of a warehouse and of a district, with four spaces between
pub information_loaded : (warehouse district : ℕ) → warehouse < 256 → district < 256
    → IsLoadedText 24 (payment_information warehouse district)
information_loaded warehouse district small_warehouse small_district = (
  (information_text warehouse district small_warehouse small_district).fits,
  All-append IsPrintableByte (codes "W" ++ decimal warehouse ++ codes "    D") (decimal district)
      (All-append IsPrintableByte (codes "W" ++ decimal warehouse) (codes "    D")
      (All-append IsPrintableByte (codes "W") (decimal warehouse) (printable (codes "W") refl)
      (decimal-printable warehouse (omega (arith, small_warehouse))))
      (printable (codes "    D") refl))
      (decimal-printable district (omega (arith, small_district))),
)

-- each syllable, and a last name
syllable-printable : (number : ℕ) → IsPrintable (syllable number)
syllable-printable number =
    printable (syllable number) (AllPass-from_list_all is_printable syllables refl (number % 10) [] (omega arith))

pub last_name_loaded : (number : ℕ) → IsLoadedText 16 (last_name number)
last_name_loaded number = (
  (last_name_text number).fits,
  All-append IsPrintableByte (syllable (number / 100) ++ syllable (number / 10)) (syllable number)
      (All-append IsPrintableByte (syllable (number / 100)) (syllable (number / 10)) (syllable-printable (number / 100))
      (syllable-printable (number / 10)))
      (syllable-printable number),
)

-- a letter and four digits
digit-printable : (number : ℕ) → IsPrintableByte (digit number)
digit-printable number = omega arith

pub four_digits_loaded : (letter number : ℕ) → 32 ≤ letter → letter ≤ 126
    → IsLoadedText 16 (with_four_digits letter number)
four_digits_loaded letter number above below = (
  lit< tt,
  All-from_recursion IsPrintableByte (with_four_digits letter number) (
    (above, below),
    (
      digit-printable (number / 1000),
      (
        digit-printable (number / 100),
        (
          digit-printable (number / 10),
          (digit-printable number, tt),
        ),
      ),
    ),
  ),
)

-- good or bad credit
pub credit_allowed : (number : ℕ)
    → IsTrue (list_any (λ word. bytes_eq word (credit number)) (codes "GC" ∷ codes "BC" ∷ []))
credit_allowed number =
    elim (number % 10 == 0) as (λ bad. IsTrue (list_any (λ word. bytes_eq word (cond bad (codes "BC") (codes "GC")))
    (codes "GC" ∷ codes "BC" ∷ []))) [ true ↦ refl | false ↦ refl ]
