-- The lines of a file, with their numbers.
use Rattle.std.specs.Prelude.{ℕ, suc, ◌==◌, if◌then◌else◌, List, [], ◌∷◌, length}
use Rattle.hy_events.specs.Words.{parts}

-- each line ends at a line feed, which the last may lack: an empty rest behind the last line feed is no line
abbrev pub without_end : List (List ℕ) → List (List ℕ)
without_end [] = []
without_end (line ∷ []) = if length line == 0 then [] else line ∷ []
without_end (line ∷ next ∷ later) = line ∷ without_end (next ∷ later)

abbrev pub lines : List ℕ → List (List ℕ)
lines bytes = without_end (parts 10 bytes)

-- lines with numbers that begin at this one
abbrev pub numbered : ℕ → List (List ℕ) → List (ℕ × List ℕ)
numbered first [] = []
numbered first (line ∷ later) = (first, line) ∷ numbered (suc first) later
