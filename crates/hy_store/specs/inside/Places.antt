-- A store's bytes are known by their segments, one by one.
use Rattle.std.specs.Prelude.{◌≡◌, ◌≢◌, ℕ, zero, suc, ◌<◌, ◌≤◌, List, [], ◌∷◌, ◌++◌, length, drop, slice_set, refl}
use Rattle.std.proofs.Common.{ap, ap₂, sym, subst, arith}
use Rattle.hy_rows.specs.Spelling.{list_at}
use Rattle.hy_rows.specs.inside.Places.{items}
use Rattle.hy_store.specs.Stored.{all_segments}

-- a list of lists has those at its places, and what follows them
same_places : (count : ℕ) (bytes : List (List (List ℕ))) → count ≤ length bytes
    → bytes ≡ items (list_at bytes) count ++ drop count bytes
same_places zero bytes within = refl
same_places (suc count) [] within = absurd (omega arith)
same_places (suc count) (segment ∷ bytes) within =
    ap (λ others. segment ∷ others) (same_places count bytes (omega (arith, within)))

-- what holds of a store's segments at their places, and of any behind them, holds of the bytes
pub by_all_places : (P : List (List (List ℕ)) → Type 0) (bytes : List (List (List ℕ))) → all_segments ≤ length bytes
    → P (items (list_at bytes) all_segments ++ drop all_segments bytes) → P bytes
by_all_places P bytes whole holds = subst P (sym (same_places all_segments bytes whole)) holds

-- the same lists at all places
same_lists : (old new : List (List (List ℕ))) → length new ≡ length old
    → ((place : ℕ) → list_at new place ≡ list_at old place) → new ≡ old
same_lists [] [] lengths each = refl
same_lists [] (segment ∷ new) lengths each = absurd (omega (arith, lengths))
same_lists (segment ∷ old) [] lengths each = absurd (omega (arith, lengths))
same_lists (segment ∷ old) (other ∷ new) lengths each =
    ap₂ (λ first rest. first ∷ rest) (each 0)
    (same_lists old new (omega (arith, lengths)) (λ place. each (suc place)))

-- lists that agree at all places but one
pub only_place : (old new : List (List (List ℕ))) (place : ℕ) → place < length old → length new ≡ length old
    → ((other : ℕ) → other ≢ place → list_at new other ≡ list_at old other)
    → new ≡ slice_set old place (list_at new place)
only_place [] new place within lengths others = absurd (omega (arith, within))
only_place (segment ∷ old) [] place within lengths others = absurd (omega (arith, lengths))
only_place (segment ∷ old) (other ∷ new) zero within lengths others =
    ap (λ rest. other ∷ rest)
    (same_lists old new (omega (arith, lengths)) (λ place. others (suc place) (omega arith)))
only_place (segment ∷ old) (other ∷ new) (suc place) within lengths others =
    ap₂ (λ first rest. first ∷ rest) (others 0 (omega arith))
    (only_place old new place (omega (arith, within)) (omega (arith, lengths))
    (λ k differs. others (suc k) (omega arith)))
