-- What single tokens say.
use Rattle.std.specs.Prelude.{◌≡◌, ◌≢◌, ℕ, ◌+◌, ◌^◌, ◌==◌, ◌&&◌, Bool, true, false, not, if◌then◌else◌, nat_lt, pos, List, [], ◌∷◌, ◌++◌, length, map, Option, None, Some, option_map, position, bytes_eq, refl}
use Rattle.std.specs.Bool.{then_some}
use Rattle.std.specs.Char.{to_ascii_lowercase}
use Rattle.std.specs.List.{position_or_len, list_all, list_any, zip}
use Rattle.std.proofs.Common.{arith, ap, inl, inr, ap₂, sym, subst, ◌∙◌}
use Rattle.std.proofs.Math.Dec.{eqb-suc-suc, eqb-suc-zero, eqb-zero-suc}
use Rattle.std.proofs.lemmas.List.{length-map}
use Rattle.std.proofs.lemmas.Bool.{and_right, cases_Bool, eq-eqb, ne_eqb, not_from_true}
use Rattle.hy_decimal.specs.Numbers.{number_of}
use Rattle.hy_decimal.proofs.NumberLaws.{narrowed, number-narrowed}
use Rattle.hy_rows.specs.Columns.{defined}
use Rattle.hy_rows.specs.declared.column.ColumnDefinition.{ColumnDefinition as WrittenColumn}
use Rattle.hy_query.specs.Columns.{lowered, place_named}
use Rattle.hy_query.specs.Language.{quoted, whole_of}

-- ---- names

-- the first two of three tests exchanged
swapped : (one other last : Bool) → (one && (other && last)) ≡ (other && (one && last))
swapped true other last = refl
swapped false true last = refl
swapped false false last = refl

-- a word is a name in small letters where it has as many letters, and each is the name's
pub lowered-letters : (word name : List ℕ)
    → ((length word == length name) && list_all (λ (pair : ℕ × ℕ). pair.0 == to_ascii_lowercase pair.1) (zip word name))
    ≡ bytes_eq word (lowered name)
lowered-letters [] [] = refl
lowered-letters [] (byte ∷ name) = rw (eqb-zero-suc (length name)) refl
lowered-letters (letter ∷ word) [] = rw (eqb-suc-zero (length word)) refl
lowered-letters (letter ∷ word) (byte ∷ name) =
    let same : Bool = letter == to_ascii_lowercase byte in
    rw (eqb-suc-suc (length word) (length name)) (
    swapped (length word == length name) same
    (list_all (λ (pair : ℕ × ℕ). pair.0 == to_ascii_lowercase pair.1) (zip word name))
    ∙ ap (λ later. same && later) (lowered-letters word name))

-- the first of some columns that has a name
first_of-written : (word : List ℕ) (columns : List WrittenColumn)
    → position_or_len (λ (column : WrittenColumn). bytes_eq word (lowered column.name.now)) columns
    ≡ position_or_len (λ column. bytes_eq word (lowered column.name)) (map defined columns)
first_of-written word [] = refl
first_of-written word (column ∷ columns) =
    ap (λ first. if not (bytes_eq word (lowered column.name.now)) then 1 + first else 0) (first_of-written word columns)

pub place_named-written : (word : List ℕ) (columns : List WrittenColumn)
    → position (λ (column : WrittenColumn). bytes_eq word (lowered column.name.now)) columns
    ≡ place_named word (map defined columns)
place_named-written word columns =
    let count = sym (length-map columns defined) in
    let place = first_of-written word columns in
    let found : ℕ → ℕ → Option ℕ = λ place count. if nat_lt place count then Some place else None in
    ap₂ found place count

-- ---- numbers

-- a number without a minus has 63 bits
plain : (word digits : List ℕ) (first : ℕ) → word ≡ first ∷ digits → first ≢ 45
    → whole_of word ≡ option_map pos (narrowed 63 (number_of 64 word))
plain word digits first is other =
    let no_minus = ne_eqb first 45 other in
    subst (λ word. whole_of word ≡ option_map pos (narrowed 63 (number_of 64 word))) (sym is)
    (rw no_minus (ap (λ number. option_map pos number) (number-narrowed 63 (first ∷ digits) (omega arith))))

-- the same where no number is there, and where one is
pub whole_of-none : (word digits : List ℕ) (first : ℕ) → word ≡ first ∷ digits → first ≢ 45
    → None ≡ number_of 64 word → None ≡ whole_of word
whole_of-none word digits first is other none =
    sym (plain word digits first is other ∙ ap (λ number. option_map pos (narrowed 63 number)) (sym none))

pub whole_of-some : (word digits : List ℕ) (first number : ℕ) → word ≡ first ∷ digits → first ≢ 45
    → Some number ≡ number_of 64 word → then_some (nat_lt number (2 ^ 63)) (pos number) ≡ whole_of word
whole_of-some word digits first number is other some =
    by_size (nat_lt number (2 ^ 63)) number
    ∙ sym (plain word digits first is other ∙ ap (λ number. option_map pos (narrowed 63 number)) (sym some))
  where
    by_size : (few : Bool) (number : ℕ)
        → then_some few (pos number) ≡ option_map pos (if few then Some number else None)
    by_size true number = refl
    by_size false number = refl

-- ---- texts

-- what becomes of a value, where there is one
option_map-if : {A B : Type 0} (condition : Bool) (change : A → B) (value : A)
    → option_map change (if condition then Some value else None) ≡ (if condition then Some (change value) else None)
option_map-if true change value = refl
option_map-if false change value = refl

-- a text ends where the last byte, and no other, is a quote
pub quoted-letters : (letters : List ℕ) (last : ℕ) → quoted (letters ++ last ∷ [])
    ≡ (if (last == 39) && not (list_any (λ byte. byte == 39) letters) then Some letters else None)
quoted-letters [] last = elim (cases_Bool (last == 39)) [
  | inl quote ↦ rw quote refl
  | inr other ↦ rw other refl
]
quoted-letters (byte ∷ []) last = elim (cases_Bool (byte == 39)) [
  | inl early ↦ elim (cases_Bool (last == 39)) [
    | inl quote ↦ rw (early, quote) refl
    | inr other ↦ rw (early, other) refl
  ]
  | inr letter ↦ elim (cases_Bool (last == 39)) [
    | inl quote ↦ rw (letter, quote) refl
    | inr other ↦ rw (letter, other) refl
  ]
]
quoted-letters (byte ∷ next ∷ later) last = elim (cases_Bool (byte == 39)) [
  | inl early ↦ elim (cases_Bool (last == 39)) [
    | inl quote ↦ rw (early, quote) refl
    | inr other ↦ rw (early, other) refl
  ]
  | inr letter ↦
      let known = quoted-letters (next ∷ later) last in
      rw (letter, known) (option_map-if ((last == 39) && not (list_any (λ byte. byte == 39) (next ∷ later)))
      (λ text. byte ∷ text) (next ∷ later))
]

-- the same in its three cases
pub quoted-closed : (text letters : List ℕ) (last : ℕ) → text ≡ letters ++ last ∷ [] → last ≡ 39
    → list_any (λ byte. byte == 39) letters ≡ false → Some letters ≡ quoted text
quoted-closed text letters last is closes none =
    let quote = eq-eqb last 39 closes in
    let known : quoted (letters ++ last ∷ []) ≡ Some letters = quoted-letters letters last ∙ rw (quote, none) refl in
    sym known ∙ ap quoted (sym is)

pub quoted-open : (text letters : List ℕ) (last : ℕ) → text ≡ letters ++ last ∷ [] → last ≢ 39 → None ≡ quoted text
quoted-open text letters last is other =
    let letter = ne_eqb last 39 other in
    let known : quoted (letters ++ last ∷ []) ≡ None = quoted-letters letters last ∙ rw letter refl in
    sym known ∙ ap quoted (sym is)

pub quoted-early : (text letters : List ℕ) (last : ℕ) → text ≡ letters ++ last ∷ []
    → list_any (λ byte. byte == 39) letters ≡ true → None ≡ quoted text
quoted-early text letters last is some =
    let never = and_right (last == 39) _ (not_from_true _ some) in
    let known : quoted (letters ++ last ∷ []) ≡ None = quoted-letters letters last ∙ rw never refl in
    sym known ∙ ap quoted (sym is)
