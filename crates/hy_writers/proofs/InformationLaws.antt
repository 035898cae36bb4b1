-- C_DATA by itself: a row in whose place it was written has it, and what is noted is a text.
use Rattle.std.proofs.Common.{◌≡◌, ℕ, zero, suc, ◌+◌, ◌-◌, ◌^◌, ◌≤◌, ◌<◌, min, Bool, true, false, cond, nat_lt, List, [], ◌∷◌, ◌++◌, length, drop, take, decimal, All, refl, sym, ap, ap₂, subst, ◌∙◌, arith, lit≤, append_assoc, length-append}
use Rattle.std.specs.Str.Parse.{AllDigits}
use Rattle.std.proofs.lemmas.Bool.Decides.{nat_tests}
use Rattle.std.proofs.lemmas.Fmt.{decimal_is_IsNumeral}
use Rattle.std.proofs.lemmas.List.{append-nil, length-take, take_min, take-append-drop, take-take}
use Rattle.std.proofs.lemmas.List.Elements.{All-append, All-cons, All-head, All-nil, All-push, All-tail, All-take}
use Rattle.std.proofs.lemmas.Str.Parse.{digit_from_value}
use Rattle.hy_page.specs.Bytes.{bytes_at, overwritten}
use Rattle.hy_page.proofs.ByteLaws.{bytes_at-overwritten_same, length-bytes_at}
use Rattle.hy_rows.specs.Catalogue.{columns_of}
use Rattle.hy_rows.specs.Columns.{Column}
use Rattle.hy_rows.specs.Rows.{customer_of, customer_with}
use Rattle.hy_rows.specs.Texts.{IsText, text_of}
use Rattle.hy_rows.specs.declared.catalogue.Table.TheVariants as tables
use Rattle.hy_rows.specs.declared.value.Value.{Value}
use Rattle.hy_rows.specs.declared.value.Value.TheVariants as values
use Rattle.hy_rows.proofs.PartLaws.{values_from-append, values_from-before}
use Rattle.hy_rows.proofs.TextLaws.{text_of-before_zeros, text_of-cons}
use Rattle.hy_undo.proofs.PutBackLaws.{length-overwritten}
use Rattle.hy_commands.specs.Payments.{noted}
use Rattle.hy_writers.specs.declared.information.CustomerInformation.{CustomerInformation}
use Rattle.hy_writers.specs.Information.{ended, information_bytes, information_columns, with_information}

-- ---- a field in whose place a text was written

-- a text with a zero behind it reads as the text, whatever comes then
text_of-ended : (text rest : List ℕ) → All (λ byte. 0 < byte) text → text_of (text ++ 0 ∷ rest) ≡ text
text_of-ended [] rest nonzero = refl
text_of-ended (byte ∷ bytes) rest nonzero =
    text_of-cons byte (bytes ++ 0 ∷ rest) (All-head (λ b. 0 < b) byte bytes nonzero)
    ∙ ap (λ others. byte ∷ others) (text_of-ended bytes rest (All-tail (λ b. 0 < b) byte bytes nonzero))

-- a field holds the text whose bytes and end it begins with
text_of-begun : (width : ℕ) (text rest : List ℕ) (more : Bool) → nat_lt (length text) width ≡ more → length text ≤ width
    → All (λ byte. 0 < byte) text → length ((text ++ cond more (0 ∷ []) []) ++ rest) ≡ width
    → text_of ((text ++ cond more (0 ∷ []) []) ++ rest) ≡ text
text_of-begun width text rest true is fits nonzero size =
    ap text_of (append_assoc text (0 ∷ []) rest) ∙ text_of-ended text rest nonzero
text_of-begun width text [] false is fits nonzero size =
    ap text_of (append-nil (text ++ [])) ∙ text_of-before_zeros text 0 nonzero
text_of-begun width text (byte ∷ rest) false is fits nonzero size =
    absurd (grind (arith, nat_tests, is, fits, size, length-append (text ++ []) (byte ∷ rest), length-append text []))

-- a text and its end are no longer than the field
pub length-ended : (width : ℕ) (text : List ℕ) → length text ≤ width → length (ended width text) ≤ width
length-ended width text fits = by (nat_lt (length text) width) refl
  where
    by : (more : Bool) → nat_lt (length text) width ≡ more → length (text ++ cond more (0 ∷ []) []) ≤ width
    by true is = grind (arith, nat_tests, is, length-append text (0 ∷ []))
    by false is = omega (arith, fits, length-append text [])

-- where a text and its end were written, the field holds the text
pub text_of-written : (width : ℕ) (text bytes : List ℕ) (start : ℕ) → IsText width text → start + width ≤ length bytes
    → text_of (bytes_at (overwritten bytes start (ended width text)) start width) ≡ text
text_of-written width text bytes start is_text within =
    let part : List ℕ = ended width text in
    let now : List ℕ = overwritten bytes start part in
    let field : List ℕ = bytes_at now start width in
    let short : length part ≤ width = length-ended width text is_text.fits in
    let front : take (length part) field ≡ part =
    take-take (length part) width (drop start now) short
    ∙ bytes_at-overwritten_same bytes start part (omega (arith, short, within)) in
    let split : part ++ drop (length part) field ≡ field =
    ap (λ some. some ++ drop (length part) field) (sym front) ∙ take-append-drop (length part) field in
    let size : length field ≡ width =
    length-bytes_at now start width (omega (arith, within, short, length-overwritten bytes start part (omega (arith, short, within)))) in
    ap text_of (sym split)
    ∙ text_of-begun width text (drop (length part) field) (nat_lt (length text) width) refl is_text.fits is_text.nonzero
    (ap length split ∙ size)

-- ---- the column

pub information_written : (part : CustomerInformation) (row : List ℕ) → IsText 500 part.text → length row ≡ 574
    → customer_of (overwritten row 74 (information_bytes part)) ≡ with_information (customer_of row) part
information_written part row is_text size =
    let front : List Column = take 12 (columns_of tables.Customer) in
    let now : List ℕ = overwritten row 74 (information_bytes part) in
    let fits : 74 + length (information_bytes part) ≤ length row = omega (arith, size, length-ended 500 part.text is_text.fits) in
    ap customer_with (values_from-append front information_columns 0 now
    ∙ ap₂ (λ (one other : List Value). one ++ other) (values_from-before row (information_bytes part) 74 fits front 0 (lit≤ tt))
    (ap (λ text. values.Text text ∷ []) (text_of-written 500 part.text row 74 is_text (omega (arith, size)))))

-- ---- what is noted

-- no digit of a number is zero
nonzero-digits : (digits : List ℕ) → AllDigits 10 digits → All (λ byte. 0 < byte) digits
nonzero-digits [] are = All-nil (λ byte. 0 < byte)
nonzero-digits (digit ∷ digits) are =
    All-cons (λ byte. 0 < byte) digit digits (omega (arith, digit_from_value digit are.0)) (nonzero-digits digits are.1)

-- and so a number behind a text, and a byte behind it, make a text again
pub number-text : (text now : List ℕ) (number end : ℕ) → number < 2 ^ 64 → 0 < end
    → now ≡ text ++ decimal number ++ end ∷ [] → length now ≤ 500 → IsText 500 text → IsText 500 now
number-text text now number end wide some is fits is_text = record {
  fits = fits;
  nonzero =
      subst (All (λ byte. 0 < byte)) (sym is)
      (All-push (λ byte. 0 < byte) (text ++ decimal number) end
      (All-append (λ byte. 0 < byte) text (decimal number) is_text.nonzero
      (nonzero-digits (decimal number) (decimal_is_IsNumeral number wide).0.1)) some);
}

take-behind : (note old : List ℕ) (count : ℕ) → length note ≤ count
    → take count (note ++ old) ≡ note ++ take (count - length note) old
take-behind [] old count fits = ap (λ n. take n old) (let same : count ≡ count - 0 = omega arith in same)
take-behind (byte ∷ note) old zero fits = absurd (omega (arith, fits))
take-behind (byte ∷ note) old (suc count) fits =
    let less : count - length note ≡ suc count - length (byte ∷ note) = omega arith in
    ap (λ rest. byte ∷ rest)
    (take-behind note old count (omega (arith, fits)) ∙ ap (λ n. note ++ take n old) less)

-- a note, and behind it so much of the old text as has room
pub noted-is : (note old : List ℕ) (kept : ℕ) → length note ≤ 500 → kept ≡ min (500 - length note) (length old)
    → note ++ take kept old ≡ noted note old
noted-is note old kept fits is =
    ap (λ n. note ++ take n old) is ∙ ap (λ some. note ++ some) (take_min (500 - length note) old)
    ∙ sym (take-behind note old 500 fits)

pub noted-text : (note old : List ℕ) → IsText 500 note → IsText 500 old → IsText 500 (noted note old)
noted-text note old is_note is_text = record {
  fits = omega (arith, length-take 500 (note ++ old));
  nonzero = All-take (λ byte. 0 < byte) 500 (note ++ old)
      (All-append (λ byte. 0 < byte) note old is_note.nonzero is_text.nonzero);
}
