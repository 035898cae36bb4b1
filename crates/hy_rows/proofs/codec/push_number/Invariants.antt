use Rattle.std.proofs.Common.{◌≡◌, ◌+◌, ◌-◌, ◌++◌, length}
use Rattle.hy_page.specs.Bytes.{bytes_of}
use Rattle.hy_rows.proofs.codec.push_number.Given as goal

-- what was pushed, with the bytes that are left of the rest, are the bytes of the number
abbrev pub invariant-loop : goal.invariant-loop
invariant-loop g l = record {
  bytes : l.out.items ++ bytes_of (l.width - l.counter) l.rest ≡ l.fn.out.items ++ bytes_of l.width l.number;
  len : length l.out.items ≡ length l.fn.out.items + l.counter;
}
