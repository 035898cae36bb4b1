use Rattle.std.proofs.Common.{◌≡◌, ◌∙◌, ap, arith}
use Rattle.std.proofs.lemmas.Int.{ints}
use Rattle.hy_conditions.specs.Groups.{sum_at}
use Rattle.hy_conditions.specs.Keys.{key_of_order, same_order}
use Rattle.hy_conditions.proofs.customers.high_entry.Goals as goal

-- the sum is the order's
pub high_part-requires : goal.high_part-requires
high_part-requires c =
    let sum : c.sum_at-sum.result ≡ sum_at same_order c.args.delivered.now
    (key_of_order c.args.row.now) = c.sum_at-sum.ensures ∙ ap
    (sum_at same_order c.args.delivered.now) c.key_of.ensures in
    record {
      above = omega (arith, ints, c.requires.above, c.requires.below);
      below = omega (arith, ints, c.requires.above, c.requires.below);
    }
