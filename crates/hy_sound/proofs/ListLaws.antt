-- Laws of lists, of which the rows before a place were looked at or passed.
use Rattle.std.proofs.Common.{◌≡◌, ◌≢◌, false, ℕ, zero, suc, ◌+◌, ◌<◌, ◌≤◌, List, [], ◌∷◌, ◌++◌, length, take, drop, slice_get, length-append, Option, Some, None, refl, sym, ap, ◌∙◌, arith}
use Rattle.std.specs.Prelude.{IfSome, nat_lt, replicate, slice_index, slice_set, slice_index_or}
use Rattle.std.specs.Option.{is_some, option_map}
use Rattle.std.proofs.lemmas.Bool.{ltb-false, ltb-true}
use Rattle.hy_commands.proofs.LineLaws.{take-next}

pub split-at : {Row : Type 0} (rows : List Row) (place : ℕ) (row : Row) → slice_get rows place ≡ Some row
    → rows ≡ take place rows ++ row ∷ drop (suc place) rows
split-at [] place row at = absurd (cc)
split-at (first ∷ rows) zero row at = let same : first ≡ row = cc in ap (λ first. first ∷ rows) same
split-at (first ∷ rows) (suc place) row at = ap (λ rows. first ∷ rows) (split-at rows place row at)

pub take-all : {Row : Type 0} (count : ℕ) (rows : List Row) → length rows ≤ count → take count rows ≡ rows
take-all zero [] within = refl
take-all (suc count) [] within = refl
take-all zero (row ∷ rows) within = absurd (omega arith)
take-all (suc count) (row ∷ rows) within = ap (λ rows. row ∷ rows) (take-all count rows (omega arith))

pub get-there : {Row : Type 0} (rows : List Row) (place : ℕ) (row : Row) → place < length rows
    → row ≡ slice_index_or rows place row → slice_get rows place ≡ Some row
get-there [] place row within here = absurd (omega (arith, within))
get-there (first ∷ rows) zero row within here = ap Some (sym here)
get-there (first ∷ rows) (suc place) row within here = get-there rows place row (omega (arith, within)) here

-- ---- two lists

module _ {Row : Type 0} (rows others : List Row) (place : ℕ) (row other : Row)
    (at : slice_get rows place ≡ Some row) (there : slice_get others place ≡ Some other) where
  pub still-same : take place rows ≡ take place others → row ≡ other
      → take (place + 1) rows ≡ take (place + 1) others
  still-same same is = take-next rows place row at ∙ cc (same, is) ∙ sym (take-next others place other there)

  pub not-same : row ≢ other → rows ≢ others
  not-same differ same = differ (some-is row other (sym at ∙ ap (λ rows. slice_get rows place) same ∙ there))
    where
      some-is : (one two : Row) → Some one ≡ Some two → one ≡ two
      some-is one two same = cc

pub same-all : {Row : Type 0} (count : ℕ) (rows others : List Row) → length rows ≡ count → length others ≡ count
    → take count rows ≡ take count others → rows ≡ others
same-all count rows others one other same =
    sym (take-all count rows (omega (arith, one))) ∙ same ∙ take-all count others (omega (arith, other))

-- ---- what is left behind a place

pub drop-next : {Row : Type 0} (place : ℕ) (rows : List Row) → drop (place + 1) rows ≡ drop 1 (drop place rows)
drop-next {Row = Row} place rows = let after : place + 1 ≡ suc place = omega arith in ap (λ n. drop n rows) after ∙ from place rows
  where
    from : (place : ℕ) (rows : List Row) → drop (suc place) rows ≡ drop 1 (drop place rows)
    from zero rows = refl
    from (suc place) [] = refl
    from (suc place) (row ∷ rows) = from place rows

pub get-left : {Row : Type 0} (place : ℕ) (rows : List Row) → slice_get (drop place rows) 0 ≡ slice_get rows place
get-left zero [] = refl
get-left zero (row ∷ rows) = refl
get-left (suc place) [] = refl
get-left (suc place) (row ∷ rows) = get-left place rows

pub none-left : {Row : Type 0} (place : ℕ) (rows : List Row) → length rows ≤ place → drop place rows ≡ []
none-left zero [] within = refl
none-left zero (row ∷ rows) within = absurd (omega (arith, within))
none-left (suc place) [] within = refl
none-left (suc place) (row ∷ rows) within = none-left place rows (omega (arith, within))

-- a list that is at its end, and one that isn't
pub no-next : {Row : Type 0} (rows : List Row) → slice_get rows 0 ≡ None → rows ≡ []
no-next [] none = refl
no-next (row ∷ rows) none = absurd (cc)

pub next-first : {Row : Type 0} (rows : List Row) (row : Row) → slice_get rows 0 ≡ Some row → rows ≡ row ∷ drop 1 rows
next-first [] row at = absurd (cc)
next-first (first ∷ rows) row at = let same : first ≡ row = cc in ap (λ first. first ∷ rows) same

-- ---- numbers

pub index-set_here : (numbers : List ℕ) (place number : ℕ) → place < length numbers
    → slice_index (slice_set numbers place number) place ≡ number
index-set_here [] place number within = absurd (omega (arith, within))
index-set_here (first ∷ numbers) zero number within = refl
index-set_here (first ∷ numbers) (suc place) number within = index-set_here numbers place number (omega (arith, within))

pub index-set_other : (numbers : List ℕ) (place other number : ℕ) → other ≢ place
    → slice_index (slice_set numbers place number) other ≡ slice_index numbers other
index-set_other [] place other number apart = refl
index-set_other (first ∷ numbers) zero zero number apart = absurd (apart refl)
index-set_other (first ∷ numbers) zero (suc other) number apart = refl
index-set_other (first ∷ numbers) (suc place) zero number apart = refl
index-set_other (first ∷ numbers) (suc place) (suc other) number apart =
    index-set_other numbers place other number (λ same. apart (ap suc same))

pub index-replicate : (count place : ℕ) → slice_index (replicate count 0) place ≡ 0
index-replicate zero place = refl
index-replicate (suc count) zero = refl
index-replicate (suc count) (suc place) = index-replicate count place

-- ---- a row more, and what is read at a place

pub each-next : {Row : Type 0} (Holds : ℕ → Row → Type 0) (rows : List Row) (row : Row)
    → ((place : ℕ) → IfSome (slice_get rows place) (Holds place)) → Holds (length rows) row
    → (place : ℕ) → IfSome (slice_get (rows ++ row ∷ []) place) (Holds place)
each-next Holds [] row each here zero = here
each-next Holds [] row each here (suc place) = tt
each-next Holds (first ∷ rows) row each here zero = each zero
each-next Holds (first ∷ rows) row each here (suc place) =
    each-next (λ n. Holds (suc n)) rows row (λ n. each (suc n)) here place

pub copied-is : {Found Row : Type 0} (now : Found → Row) (found : Option Found) (rows : List Row) (place : ℕ)
    → is_some found ≡ nat_lt place (length rows)
    → IfSome found (λ item. now item ≡ slice_index_or rows place (now item))
    → option_map now found ≡ slice_get rows place
copied-is now None rows place is here =
    sym (get-past rows place (ltb-false place (length rows) (sym is)))
  where
    get-past : {Row : Type 0} (rows : List Row) (place : ℕ) → length rows ≤ place → slice_get rows place ≡ None
    get-past [] place past = refl
    get-past (first ∷ rows) zero past = absurd (omega (arith, past))
    get-past (first ∷ rows) (suc place) past = get-past rows place (omega (arith, past))
copied-is now (Some item) rows place is here =
    sym (get-there rows place (now item) (ltb-true place (length rows) (sym is)) here)

pub length-next : {Row : Type 0} (rows : List Row) (row : Row) → length (rows ++ row ∷ []) ≡ length rows + 1
length-next rows row = length-append rows (row ∷ [])

-- nothing was found
pub no-item : {Found Row : Type 0} (now : Found → Row) (found : Option Found) (row : Option Row) → is_some found ≡ false
    → option_map now found ≡ row → row ≡ None
no-item now None row none is = sym is
no-item now (Some item) row none is = absurd (cc)

-- an item that is told by its place, whatever is told where there is none
pub item-there : {Row : Type 0} (rows : List Row) (place : ℕ) (row none : Row) → place < length rows
    → row ≡ slice_index_or rows place none → slice_get rows place ≡ Some row
item-there [] place row none within here = absurd (omega (arith, within))
item-there (first ∷ rows) zero row none within here = ap Some (sym here)
item-there (first ∷ rows) (suc place) row none within here =
    item-there rows place row none (omega (arith, within)) here
