-- Numbers as bytes, and a change of some bytes of a list.
use Rattle.std.specs.Prelude.{ℕ, ◌+◌, ◌*◌, ◌/◌, ◌%◌, ◌<◌, List, [], ◌∷◌, ◌++◌, length, take, drop, slice_index, zero, suc}

-- the number that these bytes spell, the lowest byte first
abbrev pub number_of : List ℕ → ℕ
number_of [] = 0
number_of (byte ∷ bytes) = byte + 256 * number_of bytes

-- the first `width` bytes of a number, the lowest byte first
abbrev pub bytes_of : ℕ → ℕ → List ℕ
bytes_of zero number = []
bytes_of (suc width) number = number % 256 ∷ bytes_of width (number / 256)

-- `count` bytes from an offset on
abbrev pub bytes_at : List ℕ → ℕ → ℕ → List ℕ
bytes_at bytes offset count = take count (drop offset bytes)

-- a list in which other bytes stand from an offset on; all bytes before and behind them stay
abbrev pub overwritten : List ℕ → ℕ → List ℕ → List ℕ
overwritten bytes offset others = take offset bytes ++ others ++ drop (offset + length others) bytes

-- each element is a byte
abbrev pub AreBytes : List ℕ → Type 0
AreBytes bytes = (k : ℕ) → slice_index bytes k < 256
