-- The places of children.
use Rattle.std.specs.Prelude.{◌≡◌, ℕ, ◌<◌, ◌≤◌, ◌⊎◌, List, [], ◌∷◌, ◌++◌, length, slice_index_or, Option, None, IsSome}

-- each place before has an open child, and this one has none or is behind them all
pub record IsFirstClosed (children : List (Option (List (List ℕ)))) (place : ℕ) : Type 0 where
  pub within : place ≤ length children
  pub closed : slice_index_or children place None ≡ None
  pub least : (lower : ℕ) → lower < place → IsSome (slice_index_or children lower None)

-- nothing changed, or one more place without a child is behind all places
abbrev pub IsPadded : List (Option (List (List ℕ))) → List (Option (List (List ℕ))) → Type 0
IsPadded old new = (new ≡ old) ⊎ (new ≡ old ++ None ∷ [])
