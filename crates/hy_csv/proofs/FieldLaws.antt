-- A value is read from the field that it is written as, and from no other.
use Rattle.std.specs.Prelude.{◌≡◌, ◌≢◌, ℕ, zero, suc, ℤ, pos, negsuc, ◌^◌, ◌<◌, ◌≤◌, true, false, ◌&&◌, nat_lt, nat_le, if◌then◌else◌, List, [], ◌∷◌, length, get_or, take, drop, All, Result, Ok, Err, OkIff, unwrap_or, Option, Some, None, option_and_then, bytes_eq, decimal, FitsSigned, refl}
use Rattle.std.specs.Fmt.{signed_decimal}
use Rattle.std.specs.Int.{w64}
use Rattle.std.specs.Int.Signed.{mag}
use Rattle.std.specs.Str.Parse.{signed_digits_value}
use Rattle.std.proofs.Common.{arith, ap, sym, subst, ◌∙◌, inl, inr}
use Rattle.std.proofs.lemmas.Bool.{and_right, leb-true, eqb-true, false≢true, and_parts, cases_Bool, cases_lt, le-leb, lt-leb, lt-ltb, ltb-true, le-ltb, ne_eqb}
use Rattle.std.proofs.lemmas.Fmt.{decimal_injective, decimal_is_IsNumeral}
use Rattle.std.proofs.lemmas.Slice.Eq.{bytes_eq-Decides}
use Rattle.std.proofs.lemmas.Str.Parse.{digit_at}
use Rattle.std.specs.Result.{result_ok}
use Rattle.std.proofs.lemmas.List.Sums.{AllPass-from_list_all}
use Rattle.hy_rows.specs.Ranges.{IsLoadedText, is_between}
use Rattle.hy_rows.specs.Texts.{IsText}
use Rattle.hy_rows.specs.Columns.{is_printable}
use Rattle.hy_rows.proofs.RangeLaws.{loaded-text}
use Rattle.hy_csv.specs.Fields.{is_signed, signed_of, text_of}
use Rattle.hy_csv.specs.inside.Signs.{below_zero}
use Rattle.hy_decimal.specs.Numbers.{number_of}
use Rattle.hy_decimal.proofs.NumberLaws.{narrowed, never_some, number-reads, number-written, same_bytes}

-- no digit is a sign
first_digit : (number sign : ℕ) → number < 2 ^ 64 → sign < 48 → get_or (decimal number) 0 0 ≢ sign
first_digit number sign wide low is =
    let numeral = (decimal_is_IsNumeral number wide).0 in
    let first = digit_at (decimal number) 0 numeral.1 numeral.0 in
    omega (arith, first.0, is, low)

-- a signed number is read from its own field
pub signed-reads : (number : ℤ) → mag number < 2 ^ 63 → signed_of (signed_decimal number) ≡ Some number
unfolding signed_of
signed-reads (pos number) fits =
    let wide : number < 2 ^ 64 = omega (arith, fits) in
    let no_minus = ne_eqb (get_or (decimal number) 0 0) 45 (first_digit number 45 wide (omega arith)) in
    let no_plus = ne_eqb (get_or (decimal number) 0 0) 43 (first_digit number 43 wide (omega arith)) in
    let value = (decimal_is_IsNumeral number wide).1 in
    rw (no_minus, no_plus, value, same_bytes (decimal number), lt-ltb number (2 ^ 63) fits) refl
signed-reads (negsuc number) fits =
    let value = (decimal_is_IsNumeral (suc number) (omega (arith, fits))).1 in
    rw (value, same_bytes (decimal (suc number)), lt-ltb number (2 ^ 63) fits) refl

is_signed-mag : (number : ℤ) → is_signed number ≡ true → mag number < 2 ^ 63
is_signed-mag (pos number) is = ltb-true _ _ is
is_signed-mag (negsuc number) is = ltb-true _ _ is

-- what is read was written so
pub signed-written : (field : List ℕ) (number : ℤ) → signed_of field ≡ Some number
    → (field ≡ signed_decimal number) × (mag number < 2 ^ 63)
unfolding signed_of
signed-written field number is =
    elim (cases_Bool (is_signed (signed_digits_value 10 field)
    && bytes_eq field (signed_decimal (signed_digits_value 10 field)))) [
      | inl passes ↦
          let parts = and_parts _ _ passes in
          let found : Some (signed_digits_value 10 field) ≡ Some number = rw passes at is in
          let same : signed_digits_value 10 field ≡ number = ap (λ option. unwrap_or option number) found in (
            subst (λ value. field ≡ signed_decimal value) same ((bytes_eq-Decides _ _).0 parts.1),
            subst (λ value. mag value < 2 ^ 63) same (is_signed-mag (signed_digits_value 10 field) parts.0),
          )
      | inr fails ↦ absurd (cc (rw fails at is))
    ]

-- the number that a magnitude alone says
abbrev pub above_zero : ℕ → Option ℤ
above_zero magnitude = if nat_lt magnitude (2 ^ 63) then Some (pos magnitude) else None

-- what stands behind a minus is written as a number is
after_minus : (digits : List ℕ) (number : ℤ) → 45 ∷ digits ≡ signed_decimal number → mag number < 2 ^ 63
    → (number ≡ negsuc (mag number)) × (digits ≡ decimal (suc (mag number)))
after_minus digits (pos number) same fits =
    absurd (first_digit number 45 (omega (arith, fits)) (omega arith) (sym (ap (λ bytes. get_or bytes 0 0) same)))
after_minus digits (negsuc number) same fits = (refl, ap (λ bytes. drop 1 bytes) same)

with_minus : (digits : List ℕ) (read : Option ℕ) → read ≡ number_of 64 digits
    → signed_of (45 ∷ digits) ≡ option_and_then below_zero read
with_minus digits None is = sym (never_some _ (λ number found.
    let written = signed-written (45 ∷ digits) number found in
    let behind = after_minus digits number written.0 written.1 in
    let reads = number-reads 64 (suc (mag number)) (omega (arith, written.1)) (omega (arith, written.1)) in
    cc (is, behind.1, reads)))
with_minus digits (Some zero) is = sym (never_some _ (λ number found.
    let written = signed-written (45 ∷ digits) number found in
    let behind = after_minus digits number written.0 written.1 in
    let digits_are = number-written 64 digits 0 (sym is) in
    let same = decimal_injective (suc (mag number)) 0 (omega (arith, written.1)) (omega arith)
    (sym behind.1 ∙ digits_are.0) in
    omega (arith, same)))
with_minus digits (Some (suc less)) is =
    let digits_are = number-written 64 digits (suc less) (sym is) in
    let some = ne_eqb (suc less) 0 (λ same. omega (arith, same)) in
    elim (cases_lt less (2 ^ 63)) [
      | inl small ↦
          rw (some, le-leb (suc less) (2 ^ 63) (omega (arith, small)), digits_are.0) (signed-reads (negsuc less) small)
      | inr large ↦
          rw (some, lt-leb (suc less) (2 ^ 63) (omega (arith, large))) (sym (never_some _ (λ number found.
          let written = signed-written (45 ∷ digits) number found in
          let behind = after_minus digits number written.0 written.1 in
          let same = decimal_injective (suc (mag number)) (suc less) (omega (arith, written.1)) digits_are.1
          (sym behind.1 ∙ digits_are.0) in
          omega (arith, same, large, written.1))))
    ]

pub signed-minus : (digits : List ℕ) → signed_of (45 ∷ digits) ≡ option_and_then below_zero (number_of 64 digits)
signed-minus digits = with_minus digits (number_of 64 digits) refl

-- what does not begin with a minus is written as a number is
no_minus : (field : List ℕ) (number : ℤ) → get_or field 0 0 ≢ 45 → field ≡ signed_decimal number
    → (number ≡ pos (mag number)) × (field ≡ decimal (mag number))
no_minus field (pos number) plain same = (refl, same)
no_minus field (negsuc number) plain same = absurd (plain (ap (λ bytes. get_or bytes 0 0) same))

without_minus : (field : List ℕ) (read : Option ℕ) → get_or field 0 0 ≢ 45 → read ≡ number_of 64 field
    → signed_of field ≡ option_and_then above_zero read
without_minus field None plain is = sym (never_some _ (λ number found.
    let written = signed-written field number found in
    let digits = no_minus field number plain written.0 in
    let reads = number-reads 64 (mag number) (omega (arith, written.1)) (omega (arith, written.1)) in
    cc (is, digits.1, reads)))
without_minus field (Some value) plain is =
    let digits_are = number-written 64 field value (sym is) in
    elim (cases_lt value (2 ^ 63)) [
      | inl small ↦ rw (lt-ltb value (2 ^ 63) small, digits_are.0) (signed-reads (pos value) small)
      | inr large ↦
          rw (le-ltb value (2 ^ 63) large) (sym (never_some _ (λ number found.
          let written = signed-written field number found in
          let digits = no_minus field number plain written.0 in
          let same = decimal_injective (mag number) value (omega (arith, written.1)) digits_are.1
          (sym digits.1 ∙ digits_are.0) in
          omega (arith, same, large, written.1))))
    ]

pub signed-plain : (field : List ℕ) → get_or field 0 0 ≢ 45
    → signed_of field ≡ option_and_then above_zero (number_of 64 field)
signed-plain field plain = without_minus field (number_of 64 field) plain refl

-- a field whose first byte was tested for a minus
pub signed-cut : (field digits : List ℕ) → bytes_eq (take 1 field) (45 ∷ []) ≡ true → digits ≡ drop 1 field
    → signed_of field ≡ option_and_then below_zero (number_of 64 digits)
signed-cut [] digits minus rest = absurd (false≢true minus)
signed-cut (byte ∷ field) digits minus rest =
    let first = eqb-true byte 45 (and_parts _ _ minus).0 in
    rw (first, rest) (signed-minus field)

pub signed-uncut : (field : List ℕ) → bytes_eq (take 1 field) (45 ∷ []) ≡ false
    → signed_of field ≡ option_and_then above_zero (number_of 64 field)
signed-uncut [] plain = signed-plain [] (λ same. omega (arith, same))
signed-uncut (byte ∷ field) plain =
    signed-plain (byte ∷ field)
    (λ same. false≢true (sym plain ∙ (bytes_eq-Decides _ _).1 (ap (λ first. first ∷ []) same)))

-- a conversion to fewer bits
pub ok-narrowed : {Error : Type 0} (bits number : ℕ) (result : Result ℕ Error) → OkIff result (number < 2 ^ bits) number
    → result_ok result ≡ narrowed bits (Some number)
ok-narrowed bits number (Ok small) gives = rw (lt-ltb number (2 ^ bits) gives.0) (ap (λ value. Some value) gives.1)
ok-narrowed bits number (Err error) gives =
    rw (le-ltb number (2 ^ bits) (omega (arith, gives))) refl

-- the same to a signed number
pub ok-above_zero : {Error : Type 0} (number : ℕ) (result : Result ℤ Error)
    → OkIff result (FitsSigned w64 (pos number)) (pos number) → result_ok result ≡ above_zero number
ok-above_zero number (Ok small) gives = rw (lt-ltb number (2 ^ 63) gives.0.sfits) (ap (λ value. Some value) gives.1)
ok-above_zero number (Err error) gives =
    elim (cases_lt number (2 ^ 63)) [
      | inl small ↦ absurd (gives (record { sfits = small }))
      | inr large ↦ rw (le-ltb number (2 ^ 63) large) refl
    ]

-- a printable text within its width is read as it stands
pub text-reads : (width : ℕ) (text : List ℕ) → IsLoadedText width text → text_of width text ≡ Some text
unfolding text_of
text-reads width text loaded = rw (loaded-text width text loaded) refl

-- no printable byte is zero
nonzero : (text : List ℕ) → is_printable text ≡ true → All (λ byte. 0 < byte) text
nonzero text printable = λ place other within.
    let byte = AllPass-from_list_all (is_between 32 126) text printable place other within in
    omega (arith, leb-true 32 (get_or text place other) (and_parts _ _ byte).0)

-- such a text fits its field
pub text-fits : (width : ℕ) (text : List ℕ) → length text ≤ width → is_printable text ≡ true → IsText width text
text-fits width text fits printable = record { fits = fits; nonzero = nonzero text printable }

-- a field is a text where it is within the width and printable, and else isn't
pub text-taken : (width : ℕ) (field : List ℕ) → length field ≤ width → is_printable field ≡ true
    → Some field ≡ text_of width field
unfolding text_of
text-taken width field fits printable = rw (le-leb (length field) width fits, printable) refl

pub text-long : (width : ℕ) (field : List ℕ) → width < length field → None ≡ text_of width field
unfolding text_of
text-long width field long = rw (lt-leb (length field) width long) refl

pub text-refused : (width : ℕ) (field : List ℕ) → is_printable field ≡ false → None ≡ text_of width field
unfolding text_of
text-refused width field other = rw (and_right (nat_le (length field) width) (is_printable field) other) refl
