use Rattle.std.proofs.Common.{◌≡◌, ◌+◌, ◌-◌, ◌≤◌, ◌++◌, length, map, take, vec_capacity, vec_len}
use Rattle.hy_columns.proofs.items.read_items.Given as goal

-- the values of the items so far, and room for the others
abbrev pub invariant-loop-item : goal.invariant-loop-item
invariant-loop-item g l = record {
  values : map g.C.ItemColumn.value_of l.values.items
      ≡ map g.C.ItemColumn.value_of l.fn.values.items ++ map g.C.ItemColumn.value_in (take l.item-index l.items);
  room : vec_len l.values + (length l.items - l.item-index) ≤ vec_capacity l.values;
}
