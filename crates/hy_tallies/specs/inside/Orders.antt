-- The order of values, as `cmp` answers it.
use Rattle.std.specs.Cmp.Lexicographic.{slice_cmp}
use Rattle.std.specs.declared.cmp.Ordering.{Ordering}
use Rattle.std.specs.declared.cmp.Ordering.TheVariants.{Less, Greater}
use Rattle.std.specs.Ordering.{int_cmp, nat_cmp}
use Rattle.hy_rows.specs.declared.value.Value.{Value}
use Rattle.hy_rows.specs.declared.value.Value.TheVariants.{Text, Whole}

-- numbers by their size, texts by their bytes, and numbers before texts
abbrev pub value_order : Value → Value → Ordering
value_order (Whole one) (Whole other) = int_cmp one other
value_order (Whole one) (Text other) = Less
value_order (Text one) (Whole other) = Greater
value_order (Text one) (Text other) = slice_cmp nat_cmp one other
