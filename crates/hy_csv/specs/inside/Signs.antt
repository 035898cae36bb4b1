-- Numbers behind a minus.
use Rattle.std.specs.Prelude.{ℕ, ℤ, pos, neg_ℤ, ◌==◌, ◌^◌, nat_le, if◌then◌else◌, Option, Some, None}

-- the number that a minus and a magnitude say
abbrev pub below_zero : ℕ → Option ℤ
below_zero magnitude =
    if magnitude == 0 then None else (if nat_le magnitude (2 ^ 63) then Some (neg_ℤ (pos magnitude)) else None)
