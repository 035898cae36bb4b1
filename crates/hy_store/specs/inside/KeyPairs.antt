-- Two numbers as bytes, one behind the other: their order is that of the bytes.
use Rattle.std.specs.Prelude.{◌≡◌, ℕ, ◌<◌, ◌^◌, ◌++◌}
use Rattle.std.proofs.Common.{ap, ◌∙◌}
use Rattle.std.specs.Cmp.Lexicographic.{slice_cmp}
use Rattle.std.specs.Ordering.{nat_cmp, ordering_then}
use Rattle.hy_index.specs.KeyBytes.{high_bytes_of}
use Rattle.hy_index.proofs.KeyLaws.{compared-last, compared-number}

pub compared_pair : (first_width second_width a b c d : ℕ) → (a < 256 ^ first_width) × (b < 256 ^ second_width)
    → (c < 256 ^ first_width) × (d < 256 ^ second_width)
    → slice_cmp nat_cmp (high_bytes_of first_width a ++ high_bytes_of second_width b)
    (high_bytes_of first_width c ++ high_bytes_of second_width d)
    ≡ ordering_then (nat_cmp a c) (nat_cmp b d)
compared_pair first_width second_width a b c d one other =
    compared-number first_width a c (high_bytes_of second_width b) (high_bytes_of second_width d) one.0 other.0
    ∙ ap (ordering_then (nat_cmp a c)) (compared-last second_width b d one.1 other.1)
