-- Filters that pass the rows between two places, and parts of lists.
use Rattle.std.proofs.Common.{◌≡◌, ℕ, zero, suc, ◌+◌, ◌-◌, ◌<◌, ◌≤◌, Bool, true, false, cond, not, ◌&&◌, List, [], ◌∷◌, length, filter, take, drop, get_or, Option, Some, None, refl, sym, ap, subst, ◌∙◌, arith, Bor}
use Rattle.std.specs.Prelude.{MatchOption, slice_get}
use Rattle.std.specs.Slice.{IsItemAt}
use Rattle.std.specs.List.Sorted.{IsPartitionPoint}
use Rattle.std.proofs.lemmas.Option.{slice_get_within, get_or_from_slice_get, slice_get-get_or, slice_get_past}

-- a row at a place of a part stands as far behind the part's first place
get-take : {Row : Type 0} (rows : List Row) (count place : ℕ) → place < count
    → slice_get (take count rows) place ≡ slice_get rows place
get-take rows zero place below = absurd (omega arith)
get-take [] (suc count) place below = refl
get-take (row ∷ rows) (suc count) zero below = refl
get-take (row ∷ rows) (suc count) (suc place) below = get-take rows count place (omega arith)

get-drop : {Row : Type 0} (rows : List Row) (low place : ℕ)
    → slice_get (drop low rows) place ≡ slice_get rows (low + place)
get-drop rows zero place = ap (slice_get rows) (omega arith)
get-drop [] (suc low) place = refl
get-drop (row ∷ rows) (suc low) place =
    let same : suc low + place ≡ suc (low + place) = omega arith in
    get-drop rows low place ∙ ap (slice_get (row ∷ rows)) (sym same)

pub get-part : {Row : Type 0} (rows : List Row) (low count place : ℕ) → place < count
    → slice_get (take count (drop low rows)) place ≡ slice_get rows (low + place)
get-part rows low count place below = get-take (drop low rows) count place below ∙ get-drop rows low place

-- a filter that passes the rows between two places is that part of the list
module _ {Row : Type 0} (keep : Row → Bool) where
  pub filter-part : (rows : List Row) (low count : ℕ)
      → ((place : ℕ) (row : Row) → slice_get rows place ≡ Some row → place < low → keep row ≡ false)
      → ((place : ℕ) (row : Row) → slice_get rows place ≡ Some row → low ≤ place → place < low + count → keep row ≡ true)
      → ((place : ℕ) (row : Row) → slice_get rows place ≡ Some row → low + count ≤ place → keep row ≡ false)
      → filter keep rows ≡ take count (drop low rows)
  filter-part [] zero zero before among behind = refl
  filter-part [] zero (suc count) before among behind = refl
  filter-part [] (suc low) zero before among behind = refl
  filter-part [] (suc low) (suc count) before among behind = refl
  filter-part (row ∷ rows) zero zero before among behind =
      ap (λ b. cond b (row ∷ filter keep rows) (filter keep rows)) (behind 0 row refl (omega arith))
      ∙ filter-part rows zero zero
      (λ place other there below. absurd (omega arith))
      (λ place other there from below. absurd (omega arith))
      (λ place other there from. behind (suc place) other there (omega arith))
  filter-part (row ∷ rows) zero (suc count) before among behind =
      ap (λ b. cond b (row ∷ filter keep rows) (filter keep rows)) (among 0 row refl (omega arith) (omega arith))
      ∙ ap (λ rest. row ∷ rest) (filter-part rows zero count
      (λ place other there below. absurd (omega arith))
      (λ place other there from below. among (suc place) other there (omega arith) (omega arith))
      (λ place other there from. behind (suc place) other there (omega arith)))
  filter-part (row ∷ rows) (suc low) count before among behind =
      ap (λ b. cond b (row ∷ filter keep rows) (filter keep rows)) (before 0 row refl (omega arith))
      ∙ filter-part rows low count
      (λ place other there below. before (suc place) other there (omega arith))
      (λ place other there from below. among (suc place) other there (omega arith) (omega arith))
      (λ place other there from. behind (suc place) other there (omega arith))

-- what a partition point says of a row at a place
pub point-before : {Row : Type 0} (P Q : Row → Type 0) (rows : List Row) (point : ℕ) → IsPartitionPoint P Q rows point
    → (place : ℕ) (row : Row) → slice_get rows place ≡ Some row → place < point → P row
point-before P Q rows point is place row there below =
    subst P (get_or_from_slice_get rows place row row there) (is.0 place row (omega arith) below)

pub point-behind : {Row : Type 0} (P Q : Row → Type 0) (rows : List Row) (point : ℕ) → IsPartitionPoint P Q rows point
    → (place : ℕ) (row : Row) → slice_get rows place ≡ Some row → point ≤ place → Q row
point-behind P Q rows point is place row there from =
    subst Q (get_or_from_slice_get rows place row row there)
    (is.1 place row from (slice_get_within rows place row there))

-- what isn't below is at least as great
pub not-below : (a b : ℕ) → (a < b → ⊥) → b ≤ a
not-below a b past = grind (arith, past)

-- a row stands at each place within a list
pub row-at : {Row : Type 0} (rows : List Row) (place : ℕ) → place < length rows
    → (row : Row) × (slice_get rows place ≡ Some row)
row-at [] place within = absurd (omega arith)
row-at (row ∷ rows) zero within = (row, refl)
row-at (row ∷ rows) (suc place) within = row-at rows place (omega arith)

-- between the partition points of two tests stand the rows that pass the second and not the first
module _ {Row : Type 0} (first_test last_test keep : Row → Bool) (rows : List Row) (first behind : ℕ)
    (between : (row : Row) → keep row ≡ not (first_test row) && last_test row)
    (low : IsPartitionPoint (λ row. first_test row ≡ true) (λ row. first_test row ≡ false) rows first)
    (high : IsPartitionPoint (λ row. last_test row ≡ true) (λ row. last_test row ≡ false) rows behind) where
  pub points-part : first ≤ behind → filter keep rows ≡ take (behind - first) (drop first rows)
  points-part in_order =
      filter-part keep rows first (behind - first)
      (λ place row there below. between row
      ∙ ap (λ b. not b && last_test row) (point-before (λ row. first_test row ≡ true) (λ row. first_test row ≡ false) rows first low place row there below))
      (λ place row there from below. between row
      ∙ ap (λ b. not b && last_test row) (point-behind (λ row. first_test row ≡ true) (λ row. first_test row ≡ false) rows first low place row there from)
      ∙ point-before (λ row. last_test row ≡ true) (λ row. last_test row ≡ false) rows behind high place row there (omega arith))
      (λ place row there from.
      let fails = point-behind (λ row. last_test row ≡ true) (λ row. last_test row ≡ false) rows behind high place row there (omega arith) in
      between row ∙ ap (λ b. not (first_test row) && b) fails ∙ (elim (first_test row) as (λ b. not b && false ≡ false) [ true ↦ refl | false ↦ refl ]))

-- the first of two such points isn't behind the second
pub points-in_order : {Row : Type 0} (first_test last_test : Row → Bool) (rows : List Row) (first behind : ℕ)
    → ((row : Row) → first_test row ≡ true → last_test row ≡ true)
    → IsPartitionPoint (λ row. first_test row ≡ true) (λ row. first_test row ≡ false) rows first
    → IsPartitionPoint (λ row. last_test row ≡ true) (λ row. last_test row ≡ false) rows behind
    → first ≤ length rows → first ≤ behind
points-in_order first_test last_test [] first behind wider low high within = omega arith
points-in_order first_test last_test (row ∷ rows) first behind wider low high within =
    not-below behind first (λ less.
    let passes = wider (get_or (row ∷ rows) behind row) (low.0 behind row (omega arith) less) in
    let fails = high.1 behind row (omega arith) (omega (arith, less, within)) in
    cc)

-- what a slice's `get` gives
pub get-gives : {Row : Type 0} (rows : List Row) (place : ℕ) (result : Option (Bor Row)) → IsItemAt rows place result
    → MatchOption result (slice_get rows place ≡ None) (λ row. slice_get rows place ≡ Some row.now)
get-gives rows place None is = slice_get_past rows place is.3
get-gives rows place (Some row) is =
    slice_get-get_or rows place row.now is.3.0 ∙ ap Some (sym (is.3.1 row.now))
