-- What stands at the place of a warehouse, once one was replaced or each was changed.
use Rattle.std.proofs.Common.{◌≡◌, ◌≢◌, ℕ, zero, suc, ◌+◌, ◌==◌, true, false, List, [], ◌∷◌, length, slice_set, Option, None, Some, refl, sym, ap, ◌∙◌, subst, arith}
use Rattle.std.specs.Prelude.{IfSome, slice_get}
use Rattle.std.specs.Option.{option_map}
use Rattle.std.proofs.lemmas.Bool.{eqb-false, eqb-true}
use Rattle.std.proofs.lemmas.List.{length-set}
use Rattle.std.proofs.lemmas.Option.{IfSome_then}
use Rattle.hy_schedules.specs.Schedules.{Place, each_changed, place_at, with_place}

-- ---- lists

get-set_same : {Row : Type 0} (rows : List Row) (place : ℕ) (old new : Row) → slice_get rows place ≡ Some old
    → slice_get (slice_set rows place new) place ≡ Some new
get-set_same [] place old new there = absurd (cc)
get-set_same (row ∷ rows) zero old new there = refl
get-set_same (row ∷ rows) (suc place) old new there = get-set_same rows place old new there

get-set_other : {Row : Type 0} (rows : List Row) (place other : ℕ) (new : Row) → other ≢ place
    → slice_get (slice_set rows place new) other ≡ slice_get rows other
get-set_other [] place other new apart = refl
get-set_other (row ∷ rows) zero zero new apart = absurd (apart refl)
get-set_other (row ∷ rows) zero (suc other) new apart = refl
get-set_other (row ∷ rows) (suc place) zero new apart = refl
get-set_other (row ∷ rows) (suc place) (suc other) new apart =
    get-set_other rows place other new (λ same. apart (ap suc same))

-- ---- one place

pub length-with_place : (places : List Place) (number : ℕ) (after : Place)
    → length (with_place places number after) ≡ length places
length-with_place places zero after = refl
length-with_place places (suc place) after = length-set places place after

place-same : (places : List Place) (number : ℕ) (before after : Place) → place_at places number ≡ Some before
    → place_at (with_place places number after) number ≡ Some after
place-same places zero before after there = absurd (cc)
place-same places (suc place) before after there = get-set_same places place before after there

place-other : (places : List Place) (number other : ℕ) (after : Place) → other ≢ number
    → place_at (with_place places number after) other ≡ place_at places other
place-other places zero other after apart = refl
place-other places (suc place) zero after apart = refl
place-other places (suc place) (suc other) after apart =
    get-set_other places place other after (λ same. apart (ap suc same))

-- what holds of each place, once one was replaced
pub each-replaced : (F G : ℕ → Place → Type 0) (places : List Place) (number : ℕ) (before after : Place)
    → place_at places number ≡ Some before → G number after
    → ((other : ℕ) (place : Place) → other ≢ number → F other place → G other place)
    → ((other : ℕ) → IfSome (place_at places other) (F other))
    → (other : ℕ) → IfSome (place_at (with_place places number after) other) (G other)
each-replaced F G places number before after there here elsewhere each other =
    elim (other == number) as (λ b. (other == number) ≡ b
    → IfSome (place_at (with_place places number after) other) (G other)) [
      | true ↦ λ is.
          let same : number ≡ other = sym (eqb-true other number is) in
          subst (λ n. IfSome (place_at (with_place places number after) n) (G n)) same
          (subst (λ (found : Option Place). IfSome found (G number))
          (sym (place-same places number before after there)) here)
      | false ↦ λ is.
          let apart : other ≢ number = eqb-false other number is in
          subst (λ (found : Option Place). IfSome found (G other)) (sym (place-other places number other after apart))
          (IfSome_then (place_at places other) (each other) (λ place holds. elsewhere other place apart holds))
    ] refl

pub holds-place : (F : ℕ → Place → Type 0) (places : List Place) (number : ℕ) (place : Place)
    → place_at places number ≡ Some place → ((other : ℕ) → IfSome (place_at places other) (F other)) → F number place
holds-place F places number place there each =
    subst (λ (found : Option Place). IfSome found (F number)) there (each number)

-- ---- each place

module _ (change : ℕ → Place → Place) where
  pub length-each : (first : ℕ) (places : List Place) → length (each_changed change first places) ≡ length places
  length-each first [] = refl
  length-each first (place ∷ places) = ap suc (length-each (suc first) places)

  get-each : (first place : ℕ) (places : List Place)
      → slice_get (each_changed change first places) place
      ≡ option_map (change (first + place)) (slice_get places place)
  get-each first place [] = refl
  get-each first zero (row ∷ places) =
      let same : first ≡ first + 0 = omega arith in
      ap (λ n. Some (change n row)) same
  get-each first (suc place) (row ∷ places) =
      let next : suc first + place ≡ first + suc place = omega arith in
      get-each (suc first) place places ∙ ap (λ n. option_map (change n) (slice_get places place)) next

  place-each : (places : List Place) (number : ℕ)
      → place_at (each_changed change 1 places) number ≡ option_map (change number) (place_at places number)
  place-each places zero = refl
  place-each places (suc place) =
      let next : 1 + place ≡ suc place = omega arith in
      get-each 1 place places ∙ ap (λ n. option_map (change n) (slice_get places place)) next

  -- what holds of each place, once each was changed
  pub each-changed : (F G : ℕ → Place → Type 0) (places : List Place)
      → ((number : ℕ) (place : Place) → F number place → G number (change number place))
      → ((number : ℕ) → IfSome (place_at places number) (F number))
      → (number : ℕ) → IfSome (place_at (each_changed change 1 places) number) (G number)
  each-changed F G places leads each number =
      subst (λ (found : Option Place). IfSome found (G number)) (sym (place-each places number))
      (mapped (place_at places number) (each number))
    where
      mapped : (found : Option Place) → IfSome found (F number) → IfSome (option_map (change number) found) (G number)
      mapped None holds = tt
      mapped (Some place) holds = leads number place holds
