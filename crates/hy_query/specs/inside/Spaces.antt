-- Spaces in front of a token.
use Rattle.std.specs.Prelude.{ℕ, suc, ◌==◌, if◌then◌else◌, List, [], ◌∷◌}

-- how many spaces a text begins with
abbrev pub space_count : List ℕ → ℕ
space_count [] = 0
space_count (byte ∷ later) = if byte == 32 then suc (space_count later) else 0
