use Rattle.std.proofs.Common.{◌≡◌, ◌+◌, ◌++◌, length}
use Rattle.std.specs.Prelude.{replicate}
use Rattle.hy_rows.proofs.codec.push_zeros.Given as goal

-- so many zeros were appended
abbrev pub invariant-loop : goal.invariant-loop
invariant-loop g l = record {
  bytes : l.out.items ≡ l.fn.out.items ++ replicate l.counter 0;
  len : length l.out.items ≡ length l.fn.out.items + l.counter;
}
