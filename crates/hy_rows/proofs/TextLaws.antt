-- The laws of texts and of the fields that hold them.
use Rattle.std.proofs.Common.{◌≡◌, ℕ, zero, suc, ◌+◌, ◌-◌, ◌<◌, ◌≤◌, Bool, true, false, ◌&&◌, not, cond, ◌==◌, eqb, ltb, List, [], ◌∷◌, ◌++◌, length, take, drop, replicate, All, Some, None, unwrap_or, refl, sym, ap, ◌∙◌, arith, length-append}
use Rattle.std.specs.List.{position, position_or_len, list_all}
use Rattle.std.proofs.Math.Numerals.{one-add}
use Rattle.std.proofs.lemmas.List.{length-replicate, take-append-drop, take_rest}
use Rattle.std.proofs.lemmas.Bool.{false≢true}
use Rattle.std.proofs.lemmas.List.Elements.{All-nil, All-cons, All-head, All-tail}
use Rattle.std.proofs.lemmas.List.Sums.{prefix_len-le-length}
use Rattle.std.proofs.lemmas.Bool.Decides.{nat_tests}
use Rattle.hy_rows.specs.Texts.{text_of, padded, IsText}

-- zeros hold no text
pub text_of-zeros : (count : ℕ) → text_of (replicate count 0) ≡ []
text_of-zeros zero = refl
text_of-zeros (suc count) = refl

-- a byte that isn't zero belongs to the text
pub text_of-cons : (byte : ℕ) (bytes : List ℕ) → 0 < byte → text_of (byte ∷ bytes) ≡ byte ∷ text_of bytes
text_of-cons byte bytes some = grind (arith, nat_tests)

-- a text with zeros behind it reads as the text
pub text_of-before_zeros : (text : List ℕ) (count : ℕ) → All (λ byte. 0 < byte) text → text_of (text ++ replicate count 0) ≡ text
text_of-before_zeros [] count nonzero = text_of-zeros count
text_of-before_zeros (byte ∷ bytes) count nonzero =
    text_of-cons byte (bytes ++ replicate count 0) (All-head (λ b. 0 < b) byte bytes nonzero)
    ∙ ap (λ rest. byte ∷ rest) (text_of-before_zeros bytes count (All-tail (λ b. 0 < b) byte bytes nonzero))

-- a padded text reads as the text
pub text_of-padded : (width : ℕ) (text : List ℕ) → IsText width text → text_of (padded width text) ≡ text
text_of-padded width text is_text = text_of-before_zeros text (width - length text) is_text.nonzero

-- a padded text is what a field of that text holds
pub padded-text_of : (width : ℕ) (text field : List ℕ) → IsText width text → field ≡ padded width text → padded width (text_of field) ≡ field
padded-text_of width text field is_text holds =
    ap (λ bytes. padded width (text_of bytes)) holds ∙ ap (padded width) (text_of-padded width text is_text) ∙ sym holds

-- a padded text has its width
pub length-padded : (width : ℕ) (text : List ℕ) → length text ≤ width → length (padded width text) ≡ width
length-padded width text fits = simp (length-append, length-replicate) (omega arith)

-- the text of a field is no longer than the field
pub length-text_of : (field : List ℕ) → length (text_of field) ≤ length field
length-text_of [] = omega arith
length-text_of (zero ∷ bytes) = omega arith
length-text_of (suc byte ∷ bytes) =
    rw (text_of-cons (suc byte) bytes (omega arith)) (omega (arith, length-text_of bytes))

-- no byte of a text is zero
pub nonzero-text_of : (field : List ℕ) → All (λ byte. 0 < byte) (text_of field)
nonzero-text_of [] = All-nil (λ byte. 0 < byte)
nonzero-text_of (zero ∷ bytes) = All-nil (λ byte. 0 < byte)
nonzero-text_of (suc byte ∷ bytes) =
    rw (text_of-cons (suc byte) bytes (omega arith)) (All-cons (λ b. 0 < b) (suc byte) (text_of bytes) (omega arith) (nonzero-text_of bytes))

-- a field of a width holds a text that fits it
pub IsText-text_of : (width : ℕ) (field : List ℕ) → length field ≡ width → IsText width (text_of field)
IsText-text_of width field size = record { fits = omega (arith, length-text_of field); nonzero = nonzero-text_of field }

-- what stands before the first zero byte is the text
pub take-text : (field : List ℕ) → take (position_or_len (λ byte. byte == 0) field) field ≡ text_of field
take-text [] = refl
take-text (zero ∷ bytes) = refl
take-text (suc byte ∷ bytes) =
    let some : eqb (suc byte) 0 ≡ false = grind (arith, nat_tests) in
    rw (some, one-add) (ap (λ rest. suc byte ∷ rest) (take-text bytes))

-- the place of the first item that passes a test, or the length where none does
pub unwrap_or-position : {X : Type 0} (test : X → Bool) (xs : List X) → unwrap_or (position test xs) (length xs) ≡ position_or_len test xs
unwrap_or-position test xs = unwrap_or-cond (position_or_len test xs) (length xs) (prefix_len-le-length (λ x. not (test x)) xs)
  where
    unwrap_or-cond : (place size : ℕ) → place ≤ size → unwrap_or (cond (ltb place size) (Some place) None) size ≡ place
    unwrap_or-cond place size within = grind (arith, nat_tests)

-- bytes that are all zero
pub only_zeros : (bytes : List ℕ) → list_all (λ byte. byte == 0) bytes ≡ true → bytes ≡ replicate (length bytes) 0
only_zeros [] all = refl
only_zeros (zero ∷ bytes) all = ap (λ rest. zero ∷ rest) (only_zeros bytes all)
only_zeros (suc byte ∷ bytes) all =
    let some : eqb (suc byte) 0 ≡ false = grind (arith, nat_tests) in
    absurd (false≢true (sym (ap (λ is_zero. is_zero && list_all (λ b. b == 0) bytes) some) ∙ all))

-- a field with only zeros behind its text is the padded text
pub padded-whole : (width : ℕ) (field : List ℕ) (len : ℕ) → length field ≡ width → take len field ≡ text_of field → list_all (λ byte. byte == 0) (take (length field - len) (drop len field)) ≡ true → padded width (text_of field) ≡ field
padded-whole width field len size text tail =
    let zeros : list_all (λ byte. byte == 0) (drop len field) ≡ true = sym (ap (list_all (λ byte. byte == 0)) (take_rest field len)) ∙ tail in
    let rest = drop len field in
    let joined : take len field ++ rest ≡ field = take-append-drop len field in
    let sum : length (take len field) + length rest ≡ width = sym (length-append (take len field) rest) ∙ ap length joined ∙ size in
    let count : width - length (take len field) ≡ length rest = omega (arith, sum) in
    rw (sym text, count, sym (only_zeros rest zeros)) joined
