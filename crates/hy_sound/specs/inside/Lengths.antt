-- What became of a counter that was handed bytes.
use Rattle.std.specs.Prelude.{◌≡◌, ◌<◌, ℕ, ◌+◌, ◌%◌, ◌^◌, List, [], ◌++◌, length}
use Rattle.std.proofs.Common.{arith, length-append}
use Rattle.hy_sound.specs.declared.lengths.Count.{Count}

-- it counts them, up to the greatest number of 64 bits and then from 0 on
abbrev pub Counts : Count → Count → List ℕ → Type 0
Counts old new text =
    (new.bytes % 2 ^ 64 ≡ (old.bytes + length text) % 2 ^ 64) × (old.bytes < 2 ^ 64 → new.bytes < 2 ^ 64)

pub counts_none : (sink : Count) → Counts sink sink []
counts_none sink = (omega arith, λ small. small)

pub counts_both : (first second third : Count) (front back : List ℕ) → Counts first second front
    → Counts second third back → Counts first third (front ++ back)
counts_both first second third front back one other =
    (omega (arith, length-append front back, one.0, other.0), λ small. other.1 (one.1 small))
