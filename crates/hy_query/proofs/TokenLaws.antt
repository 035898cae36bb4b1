-- Where tokens begin and end.
use Rattle.std.specs.Prelude.{◌≡◌, ℕ, zero, suc, ◌+◌, ◌==◌, ◌<◌, ◌≤◌, ◌||◌, Bool, true, false, not, if◌then◌else◌, List, [], ◌∷◌, length, take, drop, Option, None, Some, position, refl}
use Rattle.std.specs.List.{position_or_len}
use Rattle.std.proofs.Common.{arith, ap, inl, inr, sym, subst, ◌∙◌, length-drop, length-take}
use Rattle.std.proofs.lemmas.Bool.{cases_Bool, cases_lt, cond-true, cond_both, lt-ltb, ltb-true}
use Rattle.std.proofs.lemmas.Option.{cond_some, none-some}
use Rattle.hy_query.specs.Tokens.{ends_word, text_length, token_length, tokens_from, word_length, sign_length, is_sign}
use Rattle.hy_query.specs.inside.Spaces.{space_count}

-- ---- lengths

-- no length is above that of the text
pub word_length-le : (text : List ℕ) → word_length text ≤ length text
word_length-le [] = omega arith
word_length-le (byte ∷ later) = elim (cases_Bool (ends_word byte)) [
  | inl ends ↦ rw ends (omega arith)
  | inr goes_on ↦ rw goes_on (omega (arith, word_length-le later))
]

pub text_length-le : (text : List ℕ) → text_length text ≤ length text
text_length-le [] = omega arith
text_length-le (byte ∷ later) = elim (cases_Bool (byte == 39)) [
  | inl closes ↦ rw closes (omega (arith, word_length-le later))
  | inr goes_on ↦ rw goes_on (omega (arith, text_length-le later))
]

pub space_count-le : (text : List ℕ) → space_count text ≤ length text
space_count-le [] = omega arith
space_count-le (byte ∷ later) = elim (cases_Bool (byte == 32)) [
  | inl space ↦ rw space (omega (arith, space_count-le later))
  | inr begins ↦ rw begins (omega arith)
]

-- a sign has one byte or two, and no more than there are
abbrev IsWithin : List ℕ → ℕ → Type 0
IsWithin later count = (1 ≤ count) × (count ≤ length later + 1)

one_or_two : (next : ℕ) (later : List ℕ) (test : Bool) → IsWithin (next ∷ later) (if test then 2 else 1)
one_or_two next later true = (omega arith, omega arith)
one_or_two next later false = (omega arith, omega arith)

sign_length-within : (first : ℕ) (later : List ℕ) → IsWithin later (sign_length first later)
sign_length-within first [] = (omega arith, omega arith)
sign_length-within first (next ∷ later) =
    cond_both (first == 60) _ _ (IsWithin (next ∷ later)) (λ is. one_or_two next later ((next == 61) || (next == 62)))
    (λ is. cond_both (first == 62) _ 1 (IsWithin (next ∷ later)) (λ is. one_or_two next later (next == 61))
    (λ is. one_or_two next later false))

-- a token has a byte, and no more than there are
token_length-within : (first : ℕ) (later : List ℕ) → IsWithin later (token_length first later)
token_length-within first later = elim (cases_Bool (first == 44)) [
  | inl comma ↦ rw comma (omega arith, omega arith)
  | inr other ↦ elim (cases_Bool (is_sign first)) [
    | inl sign ↦ rw (other, sign) (sign_length-within first later)
    | inr letter ↦ elim (cases_Bool (first == 39)) [
      | inl quote ↦ rw (other, letter, quote) (omega arith, omega (arith, text_length-le later))
      | inr word ↦ rw (other, letter, word) (omega arith, omega (arith, word_length-le later))
    ]
  ]
]

-- ---- as places of first bytes

-- a word ends before the first byte that ends words
pub word_length-place : (text : List ℕ) → position_or_len ends_word text ≡ word_length text
word_length-place [] = refl
word_length-place (byte ∷ later) = elim (cases_Bool (ends_word byte)) [
  | inl ends ↦ rw ends refl
  | inr goes_on ↦ rw goes_on (omega (arith, word_length-place later))
]

-- spaces end before the first byte that is none
pub space_count-place : (text : List ℕ) → position_or_len (λ byte. not (byte == 32)) text ≡ space_count text
space_count-place [] = refl
space_count-place (byte ∷ later) = elim (cases_Bool (byte == 32)) [
  | inl space ↦ rw space (omega (arith, space_count-place later))
  | inr begins ↦ rw begins refl
]

-- a text ends behind its first quote
first_quote : (text : List ℕ) → position_or_len (λ byte. byte == 39) text < length text
    → text_length text ≡ position_or_len (λ byte. byte == 39) text + 1
    + word_length (drop (position_or_len (λ byte. byte == 39) text + 1) text)
first_quote [] within = absurd (omega (arith, within))
first_quote (byte ∷ later) within = elim (cases_Bool (byte == 39)) [
  | inl closes ↦ rw closes (omega arith)
  | inr goes_on ↦
      let shorter : position_or_len (λ byte. byte == 39) later < length later = omega (arith, rw goes_on at within) in
      let next = first_quote later shorter in
      let place = position_or_len (λ byte. byte == 39) later in
      let behind : 1 + place + 1 ≡ suc (place + 1) = omega arith in
      rw (goes_on, behind) (omega (arith, next))
]

-- and with the whole text, where none stands
no_quote : (text : List ℕ) → length text ≤ position_or_len (λ byte. byte == 39) text → text_length text ≡ length text
no_quote [] past = refl
no_quote (byte ∷ later) past = elim (cases_Bool (byte == 39)) [
  | inl closes ↦ absurd (omega (arith, rw closes at past))
  | inr goes_on ↦
      let further : length later ≤ position_or_len (λ byte. byte == 39) later = omega (arith, rw goes_on at past) in
      rw goes_on (omega (arith, no_quote later further))
]

-- the same by the place that was found
pub text_length-closed : (text : List ℕ) (found : Option ℕ) (place : ℕ) → found ≡ position (λ byte. byte == 39) text
    → found ≡ Some place → text_length text ≡ place + 1 + word_length (drop (place + 1) text)
text_length-closed text found place is closed =
    let at = cond_some _ _ _ (sym is ∙ closed) in
    subst (λ place. text_length text ≡ place + 1 + word_length (drop (place + 1) text)) at.1
    (first_quote text (ltb-true _ _ at.0))

pub text_length-open : (text : List ℕ) (found : Option ℕ) → found ≡ position (λ byte. byte == 39) text
    → found ≡ None → text_length text ≡ length text
text_length-open text found is none =
    elim (cases_lt (position_or_len (λ byte. byte == 39) text) (length text)) [
      | inl within ↦ absurd (none-some _ (sym none ∙ is ∙ cond-true _ _ _ (lt-ltb _ _ within)))
      | inr past ↦ no_quote text past
    ]

-- ---- tokens one behind another

-- a limit that the text doesn't reach changes nothing
tokens_from-most : (most more place : ℕ) (text : List ℕ) → length text ≤ most → length text ≤ more
    → tokens_from most place text ≡ tokens_from more place text
tokens_from-most most more place [] within among = refl
tokens_from-most zero more place (byte ∷ later) within among = absurd (omega (arith, within))
tokens_from-most (suc most) zero place (byte ∷ later) within among = absurd (omega (arith, among))
tokens_from-most (suc most) (suc more) place (byte ∷ later) within among = elim (cases_Bool (byte == 32)) [
  | inl space ↦ rw space (tokens_from-most most more (place + 1) later (omega (arith, within)) (omega (arith, among)))
  | inr begins ↦
      let count = token_length byte later in
      let some = (token_length-within byte later).0 in
      rw begins (ap (λ tokens. record { place = place; word = take count (byte ∷ later) } ∷ tokens)
      (tokens_from-most most more (place + count) (drop count (byte ∷ later))
      (omega (arith, length-drop count (byte ∷ later), some, within))
      (omega (arith, length-drop count (byte ∷ later), some, among))))
]

-- spaces are passed over
spaces_over : (place : ℕ) (text : List ℕ) (count : ℕ) → count ≡ space_count text → tokens_from (length text) place text
    ≡ tokens_from (length (drop count text)) (place + count) (drop count text)
spaces_over place [] count is = rw is refl
spaces_over place (byte ∷ later) count is = elim (cases_Bool (byte == 32)) [
  | inl space ↦
      let further : place + 1 + space_count later ≡ place + suc (space_count later) = omega arith in
      let counted : count ≡ suc (space_count later) = rw space at is in
      rw (counted, space) (spaces_over (place + 1) later (space_count later) refl
      ∙ ap (λ at. tokens_from (length (drop (space_count later) later)) at (drop (space_count later) later)) further)
  | inr begins ↦
      let none : count ≡ 0 = rw begins at is in
      let here : place ≡ place + 0 = omega arith in
      subst (λ count. tokens_from (length (byte ∷ later)) place (byte ∷ later)
      ≡ tokens_from (length (drop count (byte ∷ later))) (place + count) (drop count (byte ∷ later))) (sym none)
      (ap (λ at. tokens_from (length (byte ∷ later)) at (byte ∷ later)) here)
]

-- behind the spaces stands none
no_space : (text : List ℕ) (first : ℕ) (later : List ℕ) → drop (space_count text) text ≡ first ∷ later
    → (first == 32) ≡ false
no_space [] first later is = absurd (cc is)
no_space (byte ∷ bytes) first later is = elim (cases_Bool (byte == 32)) [
  | inl space ↦ no_space bytes first later (rw space at is)
  | inr begins ↦
      let same : byte ∷ bytes ≡ first ∷ later = rw begins at is in
      let head : byte ≡ first = cc same in
      subst (λ byte. (byte == 32) ≡ false) head begins
]

-- no token is left behind nothing but spaces
pub tokens-end : (place : ℕ) (text begun : List ℕ) (spaces : ℕ) → spaces ≡ space_count text → begun ≡ drop spaces text
    → length begun ≡ 0 → tokens_from (length text) place text ≡ []
tokens-end place text [] spaces counted is ended =
    spaces_over place text spaces counted ∙ ap (λ text. tokens_from (length text) (place + spaces) text) (sym is)
tokens-end place text (byte ∷ later) spaces counted is ended = absurd (omega (arith, ended))

-- the first token stands behind the spaces
pub tokens-next : (place : ℕ) (text begun word left later : List ℕ) (first spaces count : ℕ)
    → spaces ≡ space_count text → begun ≡ drop spaces text → begun ≡ first ∷ later → count ≡ token_length first later
    → word ≡ take count begun → left ≡ drop count begun
    → tokens_from (length text) place text
    ≡ record { place = place + spaces; word = word } ∷ tokens_from (length left) (place + spaces + length word) left
tokens-next place text begun word left later first spaces count counted is begins measured taken left_is =
    let behind : drop spaces text ≡ first ∷ later = sym is ∙ begins in
    let no_space = no_space text first later (ap (λ spaces. drop spaces text) (sym counted) ∙ behind) in
    let within = token_length-within first later in
    let word_is : word ≡ take count (first ∷ later) = taken ∙ ap (λ text. take count text) begins in
    let rest_is : left ≡ drop count (first ∷ later) = left_is ∙ ap (λ text. drop count text) begins in
    let cut = length-take count (first ∷ later) in
    let long : length word ≡ count = omega (arith, ap length word_is, cut, measured, within.0, within.1) in
    let start = spaces_over place text spaces counted
    ∙ ap (λ text. tokens_from (length text) (place + spaces) text) behind in
    start ∙ first_token (place + spaces) first later count word left no_space measured word_is rest_is long
  where
    first_token : (place first : ℕ) (later : List ℕ) (count : ℕ) (word left : List ℕ) → (first == 32) ≡ false
        → count ≡ token_length first later → word ≡ take count (first ∷ later) → left ≡ drop count (first ∷ later)
        → length word ≡ count → tokens_from (length (first ∷ later)) place (first ∷ later)
        ≡ record { place = place; word = word } ∷ tokens_from (length left) (place + length word) left
    first_token place first later count word left no_space measured word_is rest_is long =
        let within = token_length-within first later in
        let size = token_length first later in
        let cut = drop size (first ∷ later) in
        let word_same : take size (first ∷ later) ≡ word = cc in
        let left_same : cut ≡ left = cc in
        let further : place + size ≡ place + length word = cc in
        let few : length cut ≤ length later = omega (arith, length-drop size (first ∷ later), within.0) in
        let enough = tokens_from-most (length later) (length cut) (place + size) cut few (omega arith) in
        rw no_space
        (ap (λ word. record { place = place; word = word } ∷ tokens_from (length later) (place + size) cut) word_same
        ∙ ap (λ tokens. record { place = place; word = word } ∷ tokens) (enough
        ∙ ap (λ left. tokens_from (length left) (place + size) left) left_same
        ∙ ap (λ at. tokens_from (length left) at left) further))
