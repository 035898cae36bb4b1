-- Relations between lists at some of their places.
use Rattle.std.specs.Prelude.{◌≡◌, ◌≢◌, ◌⊎◌, ◌<◌, ◌≤◌, ℕ}

-- one relation before a number, and the same elements from it on
abbrev pub Before : {Row : Type 0} → ℕ → (ℕ → Row → Row → Type 0) → ℕ → Row → Row → Type 0
Before last relation number old new = ((number < last) × relation number old new) ⊎ ((last ≤ number) × (new ≡ old))

-- one relation at a number, and the same elements elsewhere
abbrev pub At : {Row : Type 0} → ℕ → (ℕ → Row → Row → Type 0) → ℕ → Row → Row → Type 0
At only relation number old new = ((number ≡ only) × relation number old new) ⊎ ((number ≢ only) × (new ≡ old))
