-- The two bounds of a number that is between others.
use Rattle.std.proofs.Common.{ℕ, ◌≤◌}
use Rattle.std.proofs.lemmas.Bool.{and_from, and_parts, le-leb, leb-true}
use Rattle.hy_rows.specs.Ranges.{IsBetween}

pub bounds : (low high number : ℕ) → IsBetween low high number → (low ≤ number) × (number ≤ high)
bounds low high number between =
    let parts = and_parts _ _ between in
    (leb-true low number parts.0, leb-true number high parts.1)

pub IsBetween-bounds : (low high number : ℕ) → low ≤ number → number ≤ high → IsBetween low high number
IsBetween-bounds low high number above below = and_from _ _ (le-leb low number above) (le-leb number high below)
