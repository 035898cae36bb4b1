-- A number is read from what it is written as, and from nothing else.
use Rattle.std.specs.Prelude.{◌≡◌, ℕ, zero, suc, ◌+◌, ◌-◌, ◌*◌, ◌^◌, ◌<◌, ◌≤◌, true, ◌&&◌, nat_lt, if◌then◌else◌, List, [], ◌∷◌, length, get_or, drop, unwrap_or, Option, Some, None, option_and_then, bytes_eq, decimal, refl}
use Rattle.std.specs.Str.Parse.{AllDigits, digits_value, digits_value_after}
use Rattle.std.specs.Char.{digit_value}
use Rattle.std.specs.Int.{IsInRange}
use Rattle.std.proofs.Common.{arith, ap, sym, subst, ◌∙◌, inl, inr}
use Rattle.std.proofs.lemmas.Bool.{and_parts, cases_Bool, lt-ltb, ltb-true}
use Rattle.std.proofs.lemmas.Fmt.{decimal_is_IsNumeral, decimal-digits_value, first_decimal}
use Rattle.std.proofs.lemmas.List.{drop_all, drop_more}
use Rattle.std.proofs.lemmas.Str.{digit_value_digit}
use Rattle.std.proofs.lemmas.Slice.Eq.{bytes_eq-Decides}
use Rattle.std.proofs.lemmas.Str.Parse.{numerals_by_value, tells_digits}
use Rattle.hy_decimal.specs.Numbers.{number_of}

-- the same bytes
pub same_bytes : (bytes : List ℕ) → bytes_eq bytes bytes ≡ true
same_bytes bytes = (bytes_eq-Decides bytes bytes).1 refl

-- an option that can't be some is none
pub never_some : {Value : Type 0} (option : Option Value) → ((value : Value) → option ≡ Some value → ⊥) → None ≡ option
never_some None never = refl
never_some (Some value) never = absurd (never value refl)

-- a number is read from its own text
pub number-reads : (bits number : ℕ) → number < 2 ^ bits → number < 2 ^ 64
    → number_of bits (decimal number) ≡ Some number
unfolding number_of
number-reads bits number fits wide =
    let value = (decimal_is_IsNumeral number wide).1 in
    rw (value, same_bytes (decimal number), lt-ltb number (2 ^ bits) fits) refl

-- what is read was written so
pub number-written : (bits : ℕ) (text : List ℕ) (number : ℕ) → number_of bits text ≡ Some number
    → (text ≡ decimal number) × (number < 2 ^ bits)
unfolding number_of
number-written bits text number is =
    elim (cases_Bool (nat_lt (digits_value 10 text) (2 ^ bits) && bytes_eq text (decimal (digits_value 10 text)))) [
      | inl passes ↦
          let parts = and_parts _ _ passes in
          let found : Some (digits_value 10 text) ≡ Some number = rw passes at is in
          let same : digits_value 10 text ≡ number = ap (λ option. unwrap_or option number) found in (
            subst (λ value. text ≡ decimal value) same ((bytes_eq-Decides _ _).0 parts.1),
            subst (λ value. value < 2 ^ bits) same (ltb-true _ _ parts.0),
          )
      | inr fails ↦ absurd (cc (rw fails at is))
    ]

-- a number of more bits, where it has so few
abbrev pub narrowed : ℕ → Option ℕ → Option ℕ
narrowed bits wide = option_and_then (λ number. if nat_lt number (2 ^ bits) then Some number else None) wide

pub number-narrowed : (bits : ℕ) (text : List ℕ) → 2 ^ bits ≤ 2 ^ 64
    → number_of bits text ≡ narrowed bits (number_of 64 text)
unfolding number_of
number-narrowed bits text few = elim (cases_Bool (bytes_eq text (decimal (digits_value 10 text)))) [
  | inl same ↦ elim (cases_Bool (nat_lt (digits_value 10 text) (2 ^ bits))) [
    | inl small ↦
        let wide = lt-ltb (digits_value 10 text) (2 ^ 64) (omega (arith, ltb-true _ _ small, few)) in
        rw (same, small, wide, small) refl
    | inr large ↦ elim (cases_Bool (nat_lt (digits_value 10 text) (2 ^ 64))) [
      | inl wide ↦ rw (same, large, wide, large) refl
      | inr long ↦ rw (same, large, long) refl
    ]
  ]
  | inr other ↦ elim (cases_Bool (nat_lt (digits_value 10 text) (2 ^ bits))) [
    | inl small ↦ elim (cases_Bool (nat_lt (digits_value 10 text) (2 ^ 64))) [
      | inl wide ↦ rw (other, small, wide) refl
      | inr long ↦ rw (other, small, long) refl
    ]
    | inr large ↦ elim (cases_Bool (nat_lt (digits_value 10 text) (2 ^ 64))) [
      | inl wide ↦ rw (other, large, wide) refl
      | inr long ↦ rw (other, large, long) refl
    ]
  ]
]

-- the form of a number of 64 bits
pub record IsWritten (text : List ℕ) : Type 0 where
  pub some : 0 < length text
  pub digits : AllDigits 10 text
  pub no_zero : get_or text 0 0 ≡ 48 → length text ≡ 1
  pub fits : digits_value 10 text < 2 ^ 64

one_zero : (number : ℕ) → number < 2 ^ 64 → get_or (decimal number) 0 0 ≡ 48 → length (decimal number) ≡ 1
unfolding Rattle.std.specs.Fmt.digits
one_zero zero wide first = refl
one_zero (suc number) wide first = absurd (omega (arith, first, first_decimal (suc number) (omega arith) wide))

pub decimal_is_written : (number : ℕ) → number < 2 ^ 64 → IsWritten (decimal number)
decimal_is_written number wide =
    let numeral = decimal_is_IsNumeral number wide in
    record {
      some = numeral.0.0;
      digits = numeral.0.1;
      no_zero = one_zero number wide;
      fits = omega (arith, numeral.1, wide);
    }

-- it is read as its value
pub written-reads : (text : List ℕ) → IsWritten text → number_of 64 text ≡ Some (digits_value 10 text)
unfolding number_of
written-reads text written =
    let same = decimal-digits_value (numerals_by_value _ tells_digits) text written.digits written.some written.no_zero
    written.fits in
    rw (same, same_bytes text, lt-ltb _ _ written.fits) refl

-- and nothing else is
pub not_written : (text : List ℕ) → (IsWritten text → ⊥) → None ≡ number_of 64 text
not_written text refuted = never_some (number_of 64 text) (λ number is.
    let written = number-written 64 text number is in
    refuted (subst IsWritten (sym written.0) (decimal_is_written number written.1)))

-- what digits say is no less than what the first of them do
value_after-ge : (number : ℕ) (digits : List ℕ) → number ≤ digits_value_after 10 number digits
value_after-ge number [] = omega arith
value_after-ge number (digit ∷ digits) = omega (arith, value_after-ge (number * 10 + digit_value digit) digits)

pub first_digits : (text : List ℕ) (place number : ℕ) → place < length text → IsInRange 48 57 (get_or text place 0)
    → digits_value_after 10 number (drop place text) ≡ digits_value 10 text
    → number * 10 + (get_or text place 0 - 48) ≤ digits_value 10 text
first_digits text place number within digit same =
    let value = digit_value_digit (get_or text place 0) digit in
    let rest = drop_more text place 0 within in
    let more = value_after-ge (number * 10 + digit_value (get_or text place 0)) (drop (place + 1) text) in
    omega (arith, more, value, rw rest at same)

-- at the end of the digits their number is that of the text
pub all_digits : (text : List ℕ) (place number : ℕ) → length text ≤ place → 0 < length text
    → (get_or text 0 0 ≡ 48 → length text ≡ 1)
    → digits_value_after 10 number (drop place text) ≡ digits_value 10 text
    → (AllDigits 10 (drop place text) → AllDigits 10 text) → number < 2 ^ 64
    → Some number ≡ number_of 64 text
all_digits text place number past some no_zero same digits fits =
    let over = drop_all place text past in
    let value : number ≡ digits_value 10 text = rw over at same in
    let written : IsWritten text = record {
      some = some;
      digits = digits (rw over tt);
      no_zero = no_zero;
      fits = omega (arith, value, fits);
    } in
    ap (λ found. Some found) value ∙ sym (written-reads text written)
