use Rattle.std.proofs.Common.{◌≡◌, ◌++◌, Ok, map}
use Rattle.hy_answers.proofs.results.all_ok.Given as goal

-- those so far and those that are left are all
abbrev pub invariant-loop-one : goal.invariant-loop-one
invariant-loop-one g l = map Ok l.made.items ++ l.one-iterator.rest.items ≡ l.fn.results.items
