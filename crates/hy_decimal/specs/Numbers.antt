-- The number that a text says.
use Rattle.std.specs.Prelude.{ℕ, ◌^◌, ◌&&◌, nat_lt, if◌then◌else◌, List, Option, Some, None, bytes_eq, decimal}
use Rattle.std.specs.Str.Parse.{digits_value}

-- the number of so many bits that is written so, if one is: no plus, and no zero before other digits
unfoldable pub number_of : ℕ → List ℕ → Option ℕ
number_of bits text =
    let number = digits_value 10 text in
    if nat_lt number (2 ^ bits) && bytes_eq text (decimal number) then Some number else None
