-- The first part of a line, and those behind it.
use Rattle.std.specs.Prelude.{◌≡◌, ℕ, ◌+◌, ◌-◌, ◌<◌, ◌≤◌, ◌==◌, Bool, true, List, [], ◌∷◌, length, take, drop, Option, None, Some, is_some, option_map, refl}
use denote.Ref.{Bor}
use Rattle.std.specs.List.{onto_first, position_or_len, slice_split}
use Rattle.std.proofs.Common.{arith, inl, inr, subst, sym}
use Rattle.std.proofs.lemmas.Bool.{cases_Bool}
use Rattle.std.proofs.lemmas.List.{take_all}
use Rattle.std.proofs.Common.{length-drop}
use Rattle.std.proofs.lemmas.List.Splits.{length-slice_split, slice_split_first}
use Rattle.std.proofs.lemmas.List.Sums.{count_by-le-length}
use Rattle.hy_events.specs.Words.{first_word, parts}
use Rattle.hy_events.specs.inside.Parts.{parts_left}

-- the first part ends at the first separator
pub parts-first : (separator : ℕ) (line : List ℕ) (end : ℕ) → end ≡ position_or_len (λ byte. byte == separator) line
    → end < length line → parts separator line ≡ take end line ∷ parts separator (drop (end + 1) line)
parts-first separator line end is within =
    let before : position_or_len (λ byte. byte == separator) line < length line = omega (arith, is) in
    subst (λ place. parts separator line ≡ take place line ∷ parts separator (drop (place + 1) line)) (sym is)
    (slice_split_first (λ byte. byte == separator) line 0 before)

-- where there is none, the line is the one part
one_part : (test : ℕ → Bool) (line : List ℕ) → length line ≤ position_or_len test line
    → slice_split test line ≡ line ∷ []
one_part test [] past = refl
one_part test (byte ∷ later) past = elim (cases_Bool (test byte)) [
  | inl passes ↦ absurd (omega (arith, rw passes at past))
  | inr fails ↦
      let shorter : length later ≤ position_or_len test later = omega (arith, rw fails at past) in
      rw (fails, one_part test later shorter) refl
]

pub parts-last : (separator : ℕ) (line : List ℕ) (end : ℕ) → end ≡ position_or_len (λ byte. byte == separator) line
    → length line ≤ end → parts separator line ≡ line ∷ []
parts-last separator line end is past = one_part (λ byte. byte == separator) line (omega (arith, is))

-- a line has a part
put_onto : (byte : ℕ) (found : List (List ℕ)) → is_some (first_word (onto_first byte found)) ≡ true
put_onto byte [] = refl
put_onto byte (part ∷ later) = refl

has_part : (test : ℕ → Bool) (line : List ℕ) → is_some (first_word (slice_split test line)) ≡ true
has_part test [] = refl
has_part test (byte ∷ later) = elim (cases_Bool (test byte)) [
  | inl passes ↦ rw passes refl
  | inr fails ↦ rw fails (put_onto byte (slice_split test later))
]

pub left-some : (separator : ℕ) (left : Option (Bor (List ℕ)))
    → is_some left ≡ is_some (first_word (parts_left separator (option_map (λ line. line.now) left)))
left-some separator None = refl
left-some separator (Some line) = sym (has_part (λ byte. byte == separator) line.now)

-- parts are no more than the bytes and one
pub few_parts : (separator : ℕ) (line : List ℕ) → length (parts separator line) ≤ length line + 1
few_parts separator line =
    omega (arith, length-slice_split (λ byte. byte == separator) line, count_by-le-length (λ byte. byte == separator) line)

-- what is behind a place, up to the end
pub behind : (line : List ℕ) (place : ℕ) → take (length line - place) (drop place line) ≡ drop place line
behind line place = take_all (length line - place) (drop place line) (omega (arith, length-drop place line))
