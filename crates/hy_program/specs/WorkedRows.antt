-- Worked examples, which the checker computes: the payment of `first`, and what `check` and `storm` print.
use Rattle.std.specs.Prelude.{◌≡◌, pos, None, Some, codes, length, refl}
use Rattle.std.specs.Fmt.{digits}
use Rattle.hy_schema.specs.declared.refusal.Refusal.TheVariants as refusals
use Rattle.hy_rows.specs.Tables.{of_warehouse}
use Rattle.hy_program.specs.First.{IsYtdAfter, first_refusal_of}
use Rattle.hy_program.specs.Generated.{generated}
use Rattle.hy_program.specs.Storm.{storm_text}

-- with three customers in each district, each has paid once, and the one item is in stock
pub generated-payments : length (generated 3).history ≡ 30
generated-payments = refl

pub generated-stock : length (generated 3).stock ≡ 1
generated-stock = refl

-- all rows are those of warehouse 1
pub generated-warehouse_1 : of_warehouse 1 (generated 3) ≡ generated 3
generated-warehouse_1 = refl

-- 1.00 more are paid to the warehouse, which had 300.00
pub first-ytd : IsYtdAfter 100 (pos 30_100)
first-ytd = (refl, refl)

-- a cent less than the least payment, and a cent more than the greatest
pub less-refused : first_refusal_of 99 ≡ Some refusals.OutOfRange
less-refused = refl

pub more-refused : first_refusal_of 500_001 ≡ Some refusals.OutOfRange
more-refused = refl

-- the lines of figures that all differ
pub storm-lines : storm_text (record {
  commits = 24;
  cents = 836;
  kept = 25;
  growth = pos 837;
  rounds = 6;
  shared = 1;
  broken = None;
  refusal = None;
}) ≡ codes "commits 24 cents 836\ngrowth 25 837\nsessions 6 hold\nshared 1\nconditions 1 2 3 4 5 6 7 8 9 10 12 hold\n"
unfolding digits
storm-lines = refl
