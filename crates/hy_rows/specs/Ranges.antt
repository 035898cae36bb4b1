-- Numbers between two others, and texts that a loaded row may have.
use Rattle.std.specs.Prelude.{ℕ, ◌≤◌, Bool, IsTrue, ◌&&◌, nat_le, List, length}
use Rattle.hy_rows.specs.Texts.{IsPrintable}

-- whether a number is at least the first and at most the second
abbrev pub is_between : ℕ → ℕ → ℕ → Bool
is_between low high number = nat_le low number && nat_le number high

abbrev pub IsBetween : ℕ → ℕ → ℕ → Type 0
IsBetween low high number = IsTrue (is_between low high number)

-- printable, and within its width
abbrev pub IsLoadedText : ℕ → List ℕ → Type 0
IsLoadedText width text = (length text ≤ width) × IsPrintable text
