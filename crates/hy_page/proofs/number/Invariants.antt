use Rattle.std.proofs.Common.{◌≡◌, ◌≤◌, length, drop}
use Rattle.hy_page.specs.Bytes.{number_of}
use Rattle.hy_page.proofs.number.Given as goal

-- the number so far is what the bytes from `i` on spell
abbrev pub invariant-loop-i : goal.invariant-loop-i
invariant-loop-i l = (l.i ≤ length l.bytes) × (l.number ≡ number_of (drop l.i l.bytes))
