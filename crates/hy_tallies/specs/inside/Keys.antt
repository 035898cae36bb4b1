-- The keys of groups, and how they are found.
use Rattle.std.specs.Prelude.{◌≡◌, ℕ, zero, suc, unsigned_abs, ◌+◌, ◌*◌, ◌-◌, ◌<◌, ◌%◌, ◌^◌, ◌⊎◌, false, if◌then◌else◌, List, [], ◌∷◌, ◌++◌, fold, map}
use Rattle.std.specs.List.{AllByRecursion}
use Rattle.hy_buckets.specs.Buckets.{bucket_of}
use Rattle.hy_query.specs.Meaning.{are_equal}
use Rattle.hy_query.specs.Rows.{Row}
use Rattle.hy_rows.specs.declared.value.Value.{Value}
use Rattle.hy_rows.specs.declared.value.Value.TheVariants.{Text, Whole}
use Rattle.hy_tallies.specs.Lines.{row_at}
use Rattle.hy_tallies.specs.Numbers.{upto}

-- ---- codes: equal values have the same

-- a code with a number more
abbrev pub step : ℕ → ℕ → ℕ
step code number = (code + number) % 2 ^ 64 * 11_400_714_819_323_198_485 % 2 ^ 64

-- the number that a value counts for
abbrev pub weight : Value → ℕ
weight (Whole number) = unsigned_abs number % 2 ^ 64
weight (Text bytes) = fold step 0 bytes

-- the code of some values, from one on
abbrev pub code_from : ℕ → Row → ℕ
code_from code values = fold (λ code value. step code (weight value)) code values

-- ---- keys that were seen

-- the place of the key that equals one, behind all where none does
abbrev pub place_of_key : Row → List Row → ℕ
place_of_key key [] = 0
place_of_key key (first ∷ later) = if are_equal first key then 0 else suc (place_of_key key later)

-- keys with one more, unless one equals it
abbrev pub with_key : List Row → Row → List Row
with_key [] key = key ∷ []
with_key (first ∷ later) key = first ∷ (if are_equal first key then later else with_key later key)

-- no two of them are equal
abbrev pub Apart : List Row → Type 0
Apart [] = Unit {0}
Apart (row ∷ later) = AllByRecursion (λ other. are_equal row other ≡ false) later × Apart later

-- with those of the first lines, by the columns of their keys
abbrev pub seen : List Row → List Row → ℕ → List Row
seen rows keys zero = rows
seen rows keys (suc line) = with_key (seen rows keys line) (row_at keys line)

-- and the places of these
abbrev pub numbered : List Row → List Row → ℕ → List ℕ
numbered rows keys zero = []
numbered rows keys (suc line) = numbered rows keys line ++ place_of_key (row_at keys line) (seen rows keys line) ∷ []

-- numbers that rise from one on
abbrev pub rising : ℕ → ℕ → List ℕ
rising start zero = []
rising start (suc count) = rising start count ++ (start + count) ∷ []

-- ---- columns of keys

-- the keys of so many groups
abbrev pub rows_in : List Row → ℕ → List Row
rows_in keys count = map (row_at keys) (upto count)

-- each column with a value more
abbrev pub with_row : List Row → Row → List Row
with_row [] row = []
with_row (values ∷ later) [] = values ∷ later
with_row (values ∷ later) (value ∷ row) = (values ++ value ∷ []) ∷ with_row later row

-- ---- buckets

abbrev pub IsIn : ℕ → List ℕ → Type 0
IsIn number [] = ⊥
IsIn number (first ∷ later) = (number ≡ first) ⊎ IsIn number later

-- each of so many groups lies in the bucket of its code, the first one as the last of so many rows
abbrev pub AreFound : List (List ℕ) → ℕ → List Row → ℕ → Type 0
AreFound buckets room keys count =
    (group : ℕ) → group < count → IsIn (room - 1 - group) (bucket_of buckets (code_from 0 (row_at keys group)))
