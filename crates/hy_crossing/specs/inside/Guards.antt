-- Held locks: the values that they guard, and another value behind one of them.
use Rattle.std.proofs.Common.{◌≡◌, ℕ, zero, suc, ◌<◌, List, [], ◌∷◌, length, map, Option, None, Some, refl, ap, arith}
use Rattle.std.specs.Prelude.{slice_get, slice_set}
use Rattle.std.specs.Sync.Mutex.{mutex_guard_value, mutex_guard_with_value}
use Rattle.std.specs.declared.sync.MutexGuard.{MutexGuard}

-- the values that locks guard
abbrev pub values_of : {X : Type 0} → List (MutexGuard X) → List X
values_of guards = map mutex_guard_value guards

-- another value behind the lock at a place
abbrev pub with_guarded : {X : Type 0} → List (MutexGuard X) → ℕ → X → Option (MutexGuard X) → List (MutexGuard X)
with_guarded guards place value None = guards
with_guarded guards place value (Some guard) = slice_set guards place (mutex_guard_with_value guard value)

abbrev pub with_value_at : {X : Type 0} → List (MutexGuard X) → ℕ → X → List (MutexGuard X)
with_value_at guards place value = with_guarded guards place value (slice_get guards place)

set-value : {X : Type 0} (guards : List (MutexGuard X)) (place : ℕ) (guard : MutexGuard X) (value : X)
    → values_of (slice_set guards place (mutex_guard_with_value guard value)) ≡ slice_set (values_of guards) place value
set-value [] place guard value = refl
set-value (first ∷ guards) zero guard value = refl
set-value (first ∷ guards) (suc place) guard value = ap (λ rows. mutex_guard_value first ∷ rows) (set-value guards place guard value)

not-there : {X : Type 0} (guards : List (MutexGuard X)) (place : ℕ) → place < length (values_of guards)
    → slice_get guards place ≡ None → ⊥
not-there [] place within none = omega (arith, within)
not-there (first ∷ guards) zero within none = cc
not-there (first ∷ guards) (suc place) within none = not-there guards place (omega (arith, within)) none

pub values-put : {X : Type 0} (guards : List (MutexGuard X)) (place : ℕ) (value : X)
    → place < length (values_of guards)
    → values_of (with_value_at guards place value) ≡ slice_set (values_of guards) place value
values-put {X = X} guards place value within = by (slice_get guards place) refl
  where
    by : (found : Option (MutexGuard X)) → slice_get guards place ≡ found
        → values_of (with_guarded guards place value found) ≡ slice_set (values_of guards) place value
    by None is = absurd (not-there guards place within is)
    by (Some guard) is = set-value guards place guard value
