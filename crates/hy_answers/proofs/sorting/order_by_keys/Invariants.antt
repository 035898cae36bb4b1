use Rattle.std.proofs.Common.{◌≡◌, drop}
use Rattle.hy_tallies.specs.Lines.{row_at}
use Rattle.hy_answers.specs.inside.Orders.{rows_order}
use Rattle.hy_answers.proofs.sorting.order_by_keys.Given as goal

-- the keys from here on decide
abbrev pub invariant-loop-key : goal.invariant-loop-key
invariant-loop-key l =
    rows_order (drop l.key-index l.keys) (row_at l.columns l.one) (row_at l.columns l.other)
    ≡ rows_order l.keys (row_at l.columns l.one) (row_at l.columns l.other)
