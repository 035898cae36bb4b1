-- The first bytes of a key as one number, by which keys are compared at once.
use Rattle.std.specs.Prelude.{ℕ, ◌+◌, ◌*◌, List, drop, slice_index, zero, suc}

-- the number that so many first bytes of a list spell behind another number, the highest first; a byte that isn't there is a zero
abbrev pub word_from : ℕ → ℕ → List ℕ → ℕ
word_from zero front bytes = front
word_from (suc more) front bytes = word_from more (front * 256 + slice_index bytes 0) (drop 1 bytes)

-- the number of the first eight
abbrev pub first_word : List ℕ → ℕ
first_word bytes = word_from 8 0 bytes
