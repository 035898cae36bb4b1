-- What became of a counter that was handed bytes.
use Rattle.std.specs.Prelude.{◌≡◌, ℕ, ◌+◌, ◌%◌, ◌^◌, List, [], ◌++◌, length}
use Rattle.std.proofs.Common.{arith, length-append}
use Rattle.hy_batches.specs.declared.sink.Counter.{Counter}

-- a counter counts them, as far as a number of 64 bits does
abbrev pub Counts : Counter → Counter → List ℕ → Type 0
Counts old new text = new.count % 2 ^ 64 ≡ (old.count + length text) % 2 ^ 64

pub counts_none : (sink : Counter) → Counts sink sink []
counts_none sink = omega arith

pub counts_both : (first second third : Counter) (front back : List ℕ) → Counts first second front
    → Counts second third back → Counts first third (front ++ back)
counts_both first second third front back one other = omega (arith, length-append front back)
