-- Columns of keys as bytes whose order is that of the columns.
use Rattle.std.specs.Prelude.{ℕ, ◌+◌, ◌*◌, ◌/◌, ◌%◌, List, [], ◌∷◌, ◌++◌, zero, suc}

-- a number in so many bytes, the highest first
abbrev pub high_bytes_of : ℕ → ℕ → List ℕ
high_bytes_of zero number = []
high_bytes_of (suc width) number = high_bytes_of width (number / 256) ++ number % 256 ∷ []

-- the number that bytes spell behind those of another one
abbrev pub high_number_from : ℕ → List ℕ → ℕ
high_number_from front [] = front
high_number_from front (byte ∷ bytes) = high_number_from (front * 256 + byte) bytes

-- the number that bytes spell, the highest first
abbrev pub high_number_of : List ℕ → ℕ
high_number_of bytes = high_number_from 0 bytes
