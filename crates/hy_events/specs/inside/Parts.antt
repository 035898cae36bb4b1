-- The parts that are left.
use Rattle.std.specs.Prelude.{ℕ, List, [], Option, None, Some}
use Rattle.hy_events.specs.Words.{parts}

abbrev pub parts_left : ℕ → Option (List ℕ) → List (List ℕ)
parts_left separator None = []
parts_left separator (Some bytes) = parts separator bytes
