-- What is read of a text that spells a number, and of a flag.
use Rattle.std.proofs.Common.{◌≡◌, ◌∙◌, ℕ, Bool, true, false, Option, Some, None, Result, unwrap_or, IfSome, ap, arith, codes, inl, inr, refl, subst, sym}
use Rattle.std.specs.Prelude.{IsSomeAnd, MatchOption}
use Rattle.std.specs.Str.Parse.{ParsesUnsigned, ExplainsUnsignedError, HasUnsignedDigitsIfOk}
use Rattle.std.specs.declared.num.ParseIntError.{ParseIntError}
use Rattle.clap.specs.Words.{IsUnsignedIn, Text, one_of, one_text, rows_of}
use Rattle.clap.specs.Matches.{ReadsOne}
use Rattle.clap.specs.Values.{bool_text}
use Rattle.clap.specs.declared.parser.matches.Found.{Found}
use Rattle.clap.proofs.WalkLemmas.{one_text-rows}
use Rattle.hy_cli.specs.CommandLine.{IsIn, IsNumber, SaysFlag, SaysNumber, SaysNumberOr, Spells}
use Rattle.hy_cli.specs.inside.Given.{IsTruth}

-- what reading a text as a number of 64 bits gives
abbrev pub Reads : Text → Result ℕ ParseIntError → Type 0
Reads text r = ParsesUnsigned 64 10 text r × ExplainsUnsignedError 10 text r × HasUnsignedDigitsIfOk text r

-- of a text that is there, the number that it spells
abbrev IsReadOf : Option Text → Option ℕ → Type 0
IsReadOf None number = number ≡ None
IsReadOf (Some text) number = IsSomeAnd number (λ n. Spells n text)

read : (text : Option Text) (number : Option ℕ) → IfSome text IsNumber → (text ≡ None → number ≡ None)
    → ((t : Text) → text ≡ Some t → ReadsOne Reads t number) → IsReadOf text number
read None number spells none some = none refl
read (Some t) (Some v) spells none some = (some t refl).0
read (Some t) None spells none some = absurd ((some t refl).1.0 (spells.0, spells.1))

module _ (found : Found) (name : Text) (number : Option ℕ) (none : one_text found name ≡ None → number ≡ None)
    (some : (t : Text) → one_text found name ≡ Some t → ReadsOne Reads t number) where
  reads : IfSome (one_of name (rows_of found)) IsNumber → IsReadOf (one_of name (rows_of found)) number
  reads spells =
      let same = one_text-rows found name in
      read (one_of name (rows_of found)) number spells (λ e. none (same ∙ e)) (λ t e. some t (same ∙ e))

  -- what is read for a number that may be left out
  pub number_or_read : (default : ℕ) → IfSome (one_of name (rows_of found)) IsNumber → SaysNumberOr default name (rows_of found) (unwrap_or number default)
  number_or_read default spells = at (one_of name (rows_of found)) number (reads spells)
    where
      at : (text : Option Text) (number : Option ℕ) → IsReadOf text number → MatchOption text (unwrap_or number default ≡ default) (Spells (unwrap_or number default))
      at None number is = ap (λ o. unwrap_or o default) is
      at (Some t) None is = absurd is
      at (Some t) (Some v) is = is

  -- it is within bounds where what is given and the default are
  pub number_or_within : (default : ℕ) → IfSome (one_of name (rows_of found)) IsNumber → (low high : ℕ) → IsIn low high default
      → IfSome (one_of name (rows_of found)) (IsUnsignedIn low high) → IsIn low high (unwrap_or number default)
  number_or_within default spells low high within bounds =
      at (one_of name (rows_of found)) (unwrap_or number default) (number_or_read default spells) bounds
    where
      at : (text : Option Text) (n : ℕ) → MatchOption text (n ≡ default) (Spells n) → IfSome text (IsUnsignedIn low high) → IsIn low high n
      at None n is bounds = subst (IsIn low high) (sym is) within
      at (Some t) n is bounds = (omega (arith, is.1, bounds.2), omega (arith, is.1, bounds.3))

  -- and for one that is there
  pub number_read : IsSomeAnd (one_of name (rows_of found)) IsNumber → IsSomeAnd number (SaysNumber name (rows_of found))
  number_read spells = at (one_of name (rows_of found)) number spells (reads (if-some (one_of name (rows_of found)) spells))
    where
      if-some : (o : Option Text) → IsSomeAnd o IsNumber → IfSome o IsNumber
      if-some None bad = absurd bad
      if-some (Some t) fits = fits

      at : (text : Option Text) (number : Option ℕ) → IsSomeAnd text IsNumber → IsReadOf text number → IsSomeAnd number (λ n. IsSomeAnd text (Spells n))
      at None number spells is = absurd spells
      at (Some t) None spells is = absurd is
      at (Some t) (Some v) spells is = is

-- a number within bounds is one of 64 bits
pub is_number : (low high : ℕ) (o : Option Text) → IfSome o (IsUnsignedIn low high) → IfSome o IsNumber
is_number low high None within = tt
is_number low high (Some text) within = (within.0, within.1, omega arith, omega (arith, within.1))

-- the same for one that is there
pub is_number_there : (low high : ℕ) (o : Option Text) → IsSomeAnd o (IsUnsignedIn low high) → IsSomeAnd o IsNumber
is_number_there low high None within = absurd within
is_number_there low high (Some text) within = (within.0, within.1, omega arith, omega (arith, within.1))

-- what a text within bounds spells is within them
pub number_within : (o : Option Text) (number low high : ℕ) → IsSomeAnd o (Spells number) → IsSomeAnd o (IsUnsignedIn low high) → IsIn low high number
number_within None number low high is within = absurd is
number_within (Some text) number low high is within = (omega (arith, is.1, within.2), omega (arith, is.1, within.3))

-- what is read of a flag
pub flag_read : (found : Found) (name : Text) (is_given : Bool) → (one_text found name ≡ None → is_given ≡ false)
    → (one_text found name ≡ Some (codes "true") → is_given ≡ true) → (one_text found name ≡ Some (codes "false") → is_given ≡ false)
    → IfSome (one_of name (rows_of found)) IsTruth → SaysFlag name (rows_of found) is_given
flag_read found name is_given none is-true is-false is =
    let same = one_text-rows found name in
    at (one_of name (rows_of found)) (λ e. none (same ∙ e)) (λ e. is-true (same ∙ e)) (λ e. is-false (same ∙ e)) is
  where
    at : (o : Option Text) → (o ≡ None → is_given ≡ false) → (o ≡ Some (codes "true") → is_given ≡ true) → (o ≡ Some (codes "false") → is_given ≡ false)
        → IfSome o IsTruth → MatchOption o (is_given ≡ false) (λ text. text ≡ bool_text is_given)
    at None none is-true is-false is = none refl
    at (Some text) none is-true is-false (inl e) = rw (is-true (ap (λ (t : Text). Some t) e)) e
    at (Some text) none is-true is-false (inr e) = rw (is-false (ap (λ (t : Text). Some t) e)) e
