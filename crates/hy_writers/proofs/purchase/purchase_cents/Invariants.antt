-- The cents of the lines so far, and of those that are left.
use Rattle.std.proofs.Common.{◌≡◌, ◌≤◌, ◌+◌, ◌*◌, fold, drop}
use Rattle.hy_rows.specs.Limits.{max_line_cents}
use Rattle.hy_commands.specs.NewOrders.{line_cents, purchase_cents}
use Rattle.hy_writers.proofs.purchase.purchase_cents.Given as goal

abbrev pub invariant-loop-place : goal.invariant-loop-place
invariant-loop-place l = record {
  cents : fold (λ cents line. cents + line_cents l.layout.load.items line) l.cents (drop l.place l.lines)
      ≡ purchase_cents l.layout.load.items l.lines;
  small : l.cents ≤ max_line_cents * l.place;
}
