-- The next line of a file, and those behind it.
use Rattle.std.specs.Prelude.{◌≡◌, ℕ, suc, ◌<◌, ◌==◌, true, List, [], ◌∷◌, length, Some, is_some, refl}
use Rattle.std.proofs.Common.{arith, ap, ◌∙◌, inl, inr}
use Rattle.std.proofs.lemmas.Bool.{cases_Bool, eqb-true, false≢true}
use Rattle.hy_events.specs.Lines.{numbered, without_end}
use Rattle.hy_events.specs.Words.{first_word, later_words}

pub length-numbered : (first : ℕ) (lines : List (List ℕ)) → length (numbered first lines) ≡ length lines
length-numbered first [] = refl
length-numbered first (line ∷ later) = omega (arith, length-numbered (suc first) later)

-- a part that isn't what is left behind the last line feed is a line
pub line-more : (line : List ℕ) (parts : List (List ℕ)) → Some line ≡ first_word parts
    → (length line ≡ 0 → is_some (first_word (later_words parts)) ≡ true)
    → without_end parts ≡ line ∷ without_end (later_words parts)
line-more line [] is more = absurd (cc)
line-more line (only ∷ []) is more = elim (cases_Bool (length only == 0)) [
  | inl empty ↦
      let same : line ≡ only = cc in
      absurd (false≢true (more (ap length same ∙ eqb-true _ _ empty)))
  | inr some ↦ let same : only ≡ line = cc in rw some (ap (λ first. first ∷ []) same)
]
line-more line (first ∷ next ∷ later) is more =
    let same : first ≡ line = cc in ap (λ part. part ∷ without_end (next ∷ later)) same

pub fewer : (number next : ℕ) (line : List ℕ) (parts : List (List ℕ)) → Some line ≡ first_word parts
    → (length line ≡ 0 → is_some (first_word (later_words parts)) ≡ true)
    → length (numbered next (without_end (later_words parts))) < length (numbered number (without_end parts))
fewer number next line parts is more =
    omega (
      arith,
      length-numbered next (without_end (later_words parts)),
      length-numbered number (without_end parts),
      ap length (line-more line parts is more),
    )
