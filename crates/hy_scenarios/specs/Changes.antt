-- The files that a scenario makes and changes.
use Rattle.std.specs.Prelude.{ℕ, ◌++◌, List, [], ◌∷◌, Option, None, Some, if◌then◌else◌, drop, length, nat_eq, option_and_then, option_map}
use Rattle.std.specs.List.{starts_with}
use Rattle.std.specs.Result.{result_ok}
use Rattle.hex.specs.Hex.{decode_of}
use Rattle.hy_scenarios.specs.Marks.{behind}

-- the bytes of a step of a new file: a line behind `+`, bytes in hexadecimal behind `%`
abbrev pub or_else : Option (List ℕ) → Option (List ℕ) → Option (List ℕ)
or_else None other = other
or_else (Some bytes) other = Some bytes

abbrev pub bytes_in : List ℕ → Option (List ℕ)
bytes_in step =
    or_else (option_map (λ line. line ++ 10 ∷ []) (behind 43 step))
    (option_and_then (λ digits. result_ok (decode_of digits)) (behind 37 step))

-- the bytes of a new file, if each step says some
abbrev pub bytes_of : List (List ℕ) → Option (List ℕ)
bytes_of [] = Some []
bytes_of (step ∷ later) = option_and_then (λ bytes. option_map (λ rest. bytes ++ rest) (bytes_of later)) (bytes_in step)

-- a text with the first place where `old` stands changed to `new`
abbrev pub replaced : List ℕ → List ℕ → List ℕ → Option (List ℕ)
replaced old new [] = None
replaced old new (byte ∷ rest) =
    if starts_with nat_eq (byte ∷ rest) old then Some (new ++ drop (length old) (byte ∷ rest))
    else option_map (λ text. byte ∷ text) (replaced old new rest)
