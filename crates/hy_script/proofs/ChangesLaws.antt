-- The element at a place was replaced, by one that it has a relation to.
use Rattle.std.proofs.Common.{◌≡◌, ◌∙◌, ◌<◌, ℕ, zero, suc, List, [], ◌∷◌, IfSome, length, slice_get, slice_index_or, slice_set, ap, arith, refl, subst, sym}
use Rattle.std.proofs.lemmas.List.{get_or-set_same, set-get_or, set-set}
use Rattle.hy_session.specs.of_crossing.Lists.{ChangesAt}
use Rattle.hy_session.proofs.of_crossing.PlaceLaws.{holds-at}

-- what a relation implies
pub changes-map : {Row : Type 0} (first second : Row → Row → Type 0) (place : ℕ) (olds news : List Row)
    → ((old new : Row) → first old new → second old new) → ChangesAt first place olds news
    → ChangesAt second place olds news
changes-map first second place olds news leads changes =
    (changes.0, changes.1, changes.2, changes.3, leads changes.0 changes.1 changes.4)

-- and what it implies of an element of which something holds
pub changes-known : {Row : Type 0} (Holds : Row → Type 0) (first second : Row → Row → Type 0) (place : ℕ)
    (olds news : List Row) → place < length olds → IfSome (slice_get olds place) Holds
    → ((old new : Row) → Holds old → first old new → second old new) → ChangesAt first place olds news
    → ChangesAt second place olds news
changes-known Holds first second place olds news within holds leads changes = (
  changes.0,
  changes.1,
  changes.2,
  changes.3,
  leads changes.0 changes.1 (holds-at Holds olds place changes.0 within changes.2 holds) changes.4,
)

-- one change behind another
pub changes-then : {Row : Type 0} (first next both : Row → Row → Type 0) (place : ℕ) (olds middles news : List Row)
    → place < length olds → ((old middle new : Row) → first old middle → next middle new → both old new)
    → ChangesAt first place olds middles → ChangesAt next place middles news → ChangesAt both place olds news
changes-then {Row = Row} first next both place olds middles news within joins one other =
    let here : other.0 ≡ one.1 = other.2 ∙ ap (λ (rows : List Row). slice_index_or rows place other.0) one.3
    ∙ get_or-set_same olds place one.1 other.0 within in (
      one.0,
      other.1,
      one.2,
      other.3 ∙ ap (λ (rows : List Row). slice_set rows place other.1) one.3 ∙ set-set olds place one.1 other.1,
      joins one.0 one.1 other.1 one.4 (subst (λ (row : Row). next row other.1) here other.4),
    )

-- nothing changed
pub changes-none : {Row : Type 0} (relation : Row → Row → Type 0) (place : ℕ) (rows : List Row) (row : Row)
    → row ≡ slice_index_or rows place row → relation row row → ChangesAt relation place rows rows
changes-none relation place rows row is holds =
    (row, row, is, sym (ap (slice_set rows place) is ∙ set-get_or rows place row), holds)

pub changes-still : {Row : Type 0} (Holds : Row → Type 0) (relation : Row → Row → Type 0) (place : ℕ) (rows : List Row)
    → place < length rows → IfSome (slice_get rows place) Holds → ((row : Row) → Holds row → relation row row)
    → ChangesAt relation place rows rows
changes-still Holds relation place [] within holds still = absurd (omega (arith, within))
changes-still Holds relation zero (row ∷ rows) within holds still = (row, row, refl, refl, still row holds)
changes-still Holds relation (suc place) (row ∷ rows) within holds still =
    let later = changes-still Holds relation place rows (omega (arith, within)) holds still in
    (later.0, later.1, later.2, ap (λ rest. row ∷ rest) later.3, later.4)
