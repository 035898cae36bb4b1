-- Rows at places: the only one that passes a test, and what a change of it and a row put behind leave.
use Rattle.std.proofs.Common.{◌≡◌, ◌≢◌, ℕ, zero, suc, Bool, true, false, cond, ◌||◌, List, [], ◌∷◌, ◌++◌, length, map, filter, Some, None, refl, sym, ap, ap₂, subst, ◌∙◌, arith}
use Rattle.std.specs.Prelude.{slice_get, slice_set, All}
use Rattle.std.specs.Option.{option_map}
use Rattle.std.specs.List.{find, list_any}
use Rattle.std.proofs.lemmas.Option.{slice_get-map, slice_get_within, get_or_from_slice_get}
use Rattle.hy_rows.specs.Finding.{with_changed}
use Rattle.hy_schema.specs.Keys.{AreUnique}
use Rattle.hy_commands.specs.Sorting.{with_all_changed}
use Rattle.hy_commands.proofs.ListLaws.{unique-head, unique-tail}
use Rattle.hy_layout.specs.Finds.{IsOnly, NonePasses}

module _ {Row : Type 0} (test : Row → Bool) where
  -- ---- the only row behind the first one

  only-behind : (first : Row) (rows : List Row) (place : ℕ) (row : Row) → IsOnly test (first ∷ rows) (suc place) row
      → IsOnly test rows place row
  only-behind first rows place row o = record {
    here = o.here;
    passes = o.passes;
    only = λ other another there passes.
        let same : suc other ≡ suc place = o.only (suc other) another there passes in omega (arith, same);
  }

  only-first : (first : Row) (rows : List Row) (place : ℕ) (row : Row) → IsOnly test (first ∷ rows) (suc place) row
      → test first ≡ false
  only-first first rows place row o = elim (test first) as (λ b. test first ≡ b → b ≡ false) [
    | true ↦ λ passes. let same : zero ≡ suc place = o.only 0 first refl passes in absurd (omega (arith, same))
    | false ↦ λ fails. refl
  ] refl

  some-is : (first row : Row) → Some first ≡ Some row → first ≡ row
  some-is first row same = cc

  none-behind : (first : Row) (rows : List Row) → NonePasses test (first ∷ rows) → NonePasses test rows
  none-behind first rows none = λ place row there. none (suc place) row there

  -- ---- what is found

  pub find-only : (rows : List Row) (place : ℕ) (row : Row) → IsOnly test rows place row → find test rows ≡ Some row
  find-only [] place row o = absurd (let h = o.here in cc)
  find-only (first ∷ rows) zero row o =
      ap (λ b. cond b (Some first) (find test rows)) (subst (λ x. test x ≡ true) (sym (some-is first row o.here)) o.passes)
      ∙ o.here
  find-only (first ∷ rows) (suc place) row o =
      ap (λ b. cond b (Some first) (find test rows)) (only-first first rows place row o)
      ∙ find-only rows place row (only-behind first rows place row o)

  pub find-none : (rows : List Row) → NonePasses test rows → find test rows ≡ None
  find-none [] none = refl
  find-none (first ∷ rows) none =
      ap (λ b. cond b (Some first) (find test rows)) (none 0 first refl) ∙ find-none rows (none-behind first rows none)

  pub any-only : (rows : List Row) (place : ℕ) (row : Row) → IsOnly test rows place row → list_any test rows ≡ true
  any-only [] place row o = absurd (let h = o.here in cc)
  any-only (first ∷ rows) zero row o =
      ap (λ b. b || list_any test rows)
      (subst (λ x. test x ≡ true) (sym (some-is first row o.here)) o.passes)
  any-only (first ∷ rows) (suc place) row o =
      ap (λ b. b || list_any test rows) (only-first first rows place row o)
      ∙ any-only rows place row (only-behind first rows place row o)

  pub filter-none : (rows : List Row) → NonePasses test rows → filter test rows ≡ []
  filter-none [] none = refl
  filter-none (first ∷ rows) none =
      ap (λ b. cond b (first ∷ filter test rows) (filter test rows)) (none 0 first refl)
      ∙ filter-none rows (none-behind first rows none)

  -- ---- what is changed

  module _ (change : Row → Row) where
    pub changed-only : (rows : List Row) (place : ℕ) (row : Row) → IsOnly test rows place row
        → with_changed test change rows ≡ slice_set rows place (change row)
    changed-only [] place row o = absurd (let h = o.here in cc)
    changed-only (first ∷ rows) zero row o =
        let same : first ≡ row = some-is first row o.here in
        ap (λ b. cond b (change first ∷ rows) (first ∷ with_changed test change rows))
        (subst (λ x. test x ≡ true) (sym same) o.passes)
        ∙ ap (λ x. change x ∷ rows) same
    changed-only (first ∷ rows) (suc place) row o =
        ap (λ b. cond b (change first ∷ rows) (first ∷ with_changed test change rows)) (only-first first rows place row o)
        ∙ ap (λ rest. first ∷ rest) (changed-only rows place row (only-behind first rows place row o))

    pub all_changed-none : (rows : List Row) → NonePasses test rows → with_all_changed test change rows ≡ rows
    all_changed-none [] none = refl
    all_changed-none (first ∷ rows) none =
        ap₂ (λ (row : Row) (rest : List Row). row ∷ rest)
        (ap (λ b. cond b (change first) first) (none 0 first refl))
        (all_changed-none rows (none-behind first rows none))

-- ---- keys that differ

pub get-map : {Row Key : Type 0} (key : Row → Key) (rows : List Row) (place : ℕ) (row : Row)
    → slice_get rows place ≡ Some row → slice_get (map key rows) place ≡ Some (key row)
get-map key rows place row here = slice_get-map key rows place ∙ ap (option_map key) here

pub map-get : {Row Key : Type 0} (key : Row → Key) (rows : List Row) (place : ℕ) (found : Key)
    → slice_get (map key rows) place ≡ Some found → (row : Row) × (slice_get rows place ≡ Some row) × (key row ≡ found)
map-get key [] place found here = absurd (cc)
map-get key (row ∷ rows) zero found here = (row, refl, cc)
map-get key (row ∷ rows) (suc place) found here = map-get key rows place found here

all-at : {Item : Type 0} (P : Item → Type 0) (items : List Item) (place : ℕ) (item : Item) → All P items
    → slice_get items place ≡ Some item → P item
all-at P items place item all here =
    subst P (get_or_from_slice_get items place item item here) (all place item (slice_get_within items place item here))

-- where keys differ, a row with a key is the only one
pub unique-places : {Row Key : Type 0} (key : Row → Key) (rows : List Row) → AreUnique (map key rows)
    → (one other : ℕ) (row another : Row) → slice_get rows one ≡ Some row → slice_get rows other ≡ Some another
    → key row ≡ key another → other ≡ one
unique-places key [] unique one other row another here there same = absurd (cc)
unique-places key (first ∷ rows) unique zero zero row another here there same = refl
unique-places key (first ∷ rows) unique zero (suc other) row another here there same =
    let first_is : first ≡ row = cc in
    let keys = all-at (λ k. key first ≢ k) (map key rows) other (key another)
    (unique-head (key first) (map key rows) unique) (get-map key rows other another there) in
    absurd (keys (ap key first_is ∙ same))
unique-places key (first ∷ rows) unique (suc one) zero row another here there same =
    let first_is : first ≡ another = cc in
    let keys = all-at (λ k. key first ≢ k) (map key rows) one (key row)
    (unique-head (key first) (map key rows) unique) (get-map key rows one row here) in
    absurd (keys (ap key first_is ∙ sym same))
unique-places key (first ∷ rows) unique (suc one) (suc other) row another here there same =
    ap suc (unique-places key rows (unique-tail (key first) (map key rows) unique) one other row another here there same)

pub only-unique : {Row Key : Type 0} (key : Row → Key) (test : Row → Bool) (rows : List Row) → AreUnique (map key rows)
    → (place : ℕ) (row : Row) → slice_get rows place ≡ Some row → test row ≡ true
    → ((another : Row) → test another ≡ true → key row ≡ key another) → IsOnly test rows place row
only-unique key test rows unique place row here passes tells = record {
  here = here;
  passes = passes;
  only = λ other another there also.
      unique-places key rows unique place other row another here there (tells another also);
}

-- ---- a row put in the place of another, and one put behind

pub get-set_same : {Row : Type 0} (rows : List Row) (place : ℕ) (before row : Row) → slice_get rows place ≡ Some before
    → slice_get (slice_set rows place row) place ≡ Some row
get-set_same [] place before row here = absurd (cc)
get-set_same (first ∷ rows) zero before row here = refl
get-set_same (first ∷ rows) (suc place) before row here = get-set_same rows place before row here

pub get-set_other : {Row : Type 0} (rows : List Row) (place other : ℕ) (row : Row) → other ≢ place
    → slice_get (slice_set rows place row) other ≡ slice_get rows other
get-set_other [] place other row differs = refl
get-set_other (first ∷ rows) zero zero row differs = absurd (differs refl)
get-set_other (first ∷ rows) zero (suc other) row differs = refl
get-set_other (first ∷ rows) (suc place) zero row differs = refl
get-set_other (first ∷ rows) (suc place) (suc other) row differs =
    get-set_other rows place other row (λ same. differs (ap suc same))

pub get-push_last : {Row : Type 0} (rows : List Row) (row : Row) → slice_get (rows ++ row ∷ []) (length rows) ≡ Some row
get-push_last [] row = refl
get-push_last (first ∷ rows) row = get-push_last rows row

pub get-push_other : {Row : Type 0} (rows : List Row) (row : Row) (other : ℕ) → other ≢ length rows
    → slice_get (rows ++ row ∷ []) other ≡ slice_get rows other
get-push_other [] row zero differs = absurd (differs refl)
get-push_other [] row (suc other) differs = refl
get-push_other (first ∷ rows) row zero differs = refl
get-push_other (first ∷ rows) row (suc other) differs =
    get-push_other rows row other (λ same. differs (ap suc same))

pub get-past : {Row : Type 0} (rows : List Row) → slice_get rows (length rows) ≡ None
get-past [] = refl
get-past (first ∷ rows) = get-past rows

-- lists with the same rows at all places are the same
pub same-places : {Row : Type 0} (rows others : List Row) → ((place : ℕ) → slice_get rows place ≡ slice_get others place)
    → rows ≡ others
same-places [] [] same = refl
same-places [] (first ∷ others) same = absurd (let h = same 0 in cc)
same-places (first ∷ rows) [] same = absurd (let h = same 0 in cc)
same-places {Row = Row} (first ∷ rows) (another ∷ others) same =
    let head : first ≡ another = (let h : Some first ≡ Some another = same 0 in cc) in
    ap₂ (λ (row : Row) (rest : List Row). row ∷ rest) head (same-places rows others (λ place. same (suc place)))
