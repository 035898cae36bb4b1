-- The laws of a list that is tested row by row: its first rows are right, or it has a first fault.
use Rattle.std.proofs.Common.{◌≡◌, ◌⊎◌, ℕ, ◌+◌, ◌-◌, ◌<◌, ◌≤◌, slice_get, None, Some, IfSome, inl, inr, below_more, List, length, get_or, refl, arith}
use Rattle.std.specs.Prelude.{⊤, MatchOption}
use Rattle.std.proofs.lemmas.Bool.{cases_lt}
use Rattle.std.proofs.lemmas.Option.{slice_get_past, slice_get_read}
use Rattle.hy_schema.specs.declared.files.FileEnd.{FileEnd}
use Rattle.hy_schema.specs.declared.files.FileEnd.TheVariants as end
use Rattle.hy_schema.specs.Loads.{IsFaultOf, IsFirstFault, IsRight, max_rows}

-- the first rows of a list are right
abbrev pub AreRightBelow : {Row : Type 0} → (ℕ → Row → Type 0) → List Row → ℕ → Type 0
AreRightBelow right rows count = (place : ℕ) → place < count → IfSome (slice_get rows place) (right place)

module _ {Row : Type 0} (right : ℕ → Row → Type 0) (rows : List Row) where
  -- one more right row
  pub right-one_more : (place : ℕ) (row : Row) → place < length rows → row ≡ get_or rows place row
      → AreRightBelow right rows place → right place row → AreRightBelow right rows (place + 1)
  right-one_more place row within read below here =
      let found : slice_get rows place ≡ Some row = slice_get_read rows (length rows) place row refl within read in
      below_more _ place below (rw found here)

  -- the first rows are right, and the next one is wrong, or one too many
  pub IsFirstFault-wrong : (Whole : Type 0) (place : ℕ) (row : Row) → place < length rows → row ≡ get_or rows place row
      → place ≤ max_rows → AreRightBelow right rows place → ¬ (right place row)
      → IsFirstFault right Whole rows (place + 1)
  IsFirstFault-wrong Whole place row within read few below wrong =
      let found : slice_get rows place ≡ Some row = slice_get_read rows (length rows) place row refl within read in
      let same : place + 1 - 1 ≡ place = omega arith in
      record {
        before = λ k less. below k (omega arith);
        counted = (omega arith, omega arith);
        fault = rw (same, found) (inr wrong);
      }

  pub IsFirstFault-too_many : (Whole : Type 0) (place : ℕ) (row : Row) → place < length rows
      → row ≡ get_or rows place row → place ≡ max_rows → AreRightBelow right rows place
      → IsFirstFault right Whole rows (place + 1)
  IsFirstFault-too_many Whole place row within read full below =
      let found : slice_get rows place ≡ Some row = slice_get_read rows (length rows) place row refl within read in
      let same : place + 1 - 1 ≡ place = omega arith in
      let number : place + 1 ≡ max_rows + 1 = omega arith in
      record {
        before = λ k less. below k (omega arith);
        counted = (omega arith, omega arith);
        fault = rw (same, found) (inl number);
      }

  -- all rows are right, and none is missing
  pub IsRight-all : (Whole : Type 0) → length rows ≤ max_rows → AreRightBelow right rows (length rows) → Whole
      → IsRight right Whole rows
  IsRight-all Whole few below whole = record { each = each; few = few; whole = whole }
    where
      each : (place : ℕ) → IfSome (slice_get rows place) (right place)
      each place = elim (cases_lt place (length rows)) [
        | inl within ↦ below place within
        | inr past ↦ rw (slice_get_past rows place past) tt
      ]

  -- all rows are right, and one is missing behind them
  pub IsFirstFault-missing : (Whole : Type 0) → length rows ≤ max_rows → AreRightBelow right rows (length rows)
      → ¬ Whole → IsFirstFault right Whole rows (length rows + 1)
  IsFirstFault-missing Whole few below missing =
      let same : length rows + 1 - 1 ≡ length rows = omega arith in
      record {
        before = λ k less. below k (omega arith);
        counted = (omega arith, omega arith);
        fault = rw (same, slice_get_past rows (length rows) (omega arith)) (refl, missing);
      }

-- the first fault of a list whose file has a header
pub IsFaultOf-headed : {Row : Type 0} (reached : FileEnd) (right : ℕ → Row → Type 0) (Whole : Type 0) (rows : List Row)
    (number : ℕ) → (reached ≡ end.BadHeader → ⊥)
    → ((Missing : Type 0) → IsFirstFault right Missing rows number)
    → IsFaultOf reached right Whole rows number
IsFaultOf-headed end.Whole right Whole rows number headed fault = fault Whole
IsFaultOf-headed end.BadRecord right Whole rows number headed fault = fault ⊥
IsFaultOf-headed end.BadHeader right Whole rows number headed fault = absurd (headed refl)

-- a row that is wrong or one too many is the first fault wherever the list may end
pub IsFirstFault-wherever : {Row : Type 0} (right : ℕ → Row → Type 0) (rows : List Row) (number : ℕ) (Whole : Type 0)
    → IsFirstFault right ⊤ rows number → IsFirstFault right Whole rows number
IsFirstFault-wherever right rows number Whole first = record {
  before = first.before;
  counted = first.counted;
  fault = elim (slice_get rows (number - 1)) as (λ found.
      MatchOption found ((number ≡ length rows + 1) × ¬ ⊤) (λ row. (number ≡ max_rows + 1) ⊎ ¬ (right (number - 1) row))
      → MatchOption found ((number ≡ length rows + 1) × ¬ Whole) (λ row. (number ≡ max_rows + 1) ⊎ ¬ (right (number - 1) row))) [
        | None ↦ λ missing. absurd (missing.1 tt)
        | Some row ↦ λ wrong. wrong
      ] first.fault;
}
