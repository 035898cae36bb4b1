-- The order of values, and that of rows by keys, as `cmp` answers it.
use Rattle.std.specs.Prelude.{◌-◌, if◌then◌else◌, List, [], ◌∷◌}
use Rattle.std.specs.Cmp.Lexicographic.{slice_cmp}
use Rattle.std.specs.declared.cmp.Ordering.{Ordering}
use Rattle.std.specs.declared.cmp.Ordering.TheVariants.{Less, Equal, Greater}
use Rattle.std.specs.Ordering.{int_cmp, nat_cmp, ordering_then}
use Rattle.hy_query.specs.declared.query.SortKey.{SortKey}
use Rattle.hy_rows.specs.declared.value.Value.{Value}
use Rattle.hy_rows.specs.declared.value.Value.TheVariants.{Text, Whole}
use Rattle.hy_query.specs.Rows.{Row}
use Rattle.hy_rows.specs.Rows.{value_at}

-- numbers by their size, texts by their bytes, and numbers before texts
abbrev pub value_order : Value → Value → Ordering
value_order (Whole one) (Whole other) = int_cmp one other
value_order (Whole one) (Text other) = Less
value_order (Text one) (Whole other) = Greater
value_order (Text one) (Text other) = slice_cmp nat_cmp one other

-- rows by the value at a key's place, or the other way round
abbrev pub key_order : SortKey → Row → Row → Ordering
key_order key one other =
    if key.descending then value_order (value_at other (key.place - 1)) (value_at one (key.place - 1))
    else value_order (value_at one (key.place - 1)) (value_at other (key.place - 1))

-- rows by the first key that tells them apart
abbrev pub rows_order : List SortKey → Row → Row → Ordering
rows_order [] one other = Equal
rows_order (key ∷ later) one other = ordering_then (key_order key one other) (rows_order later one other)
