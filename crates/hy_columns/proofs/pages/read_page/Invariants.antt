use Rattle.std.proofs.Common.{◌≡◌, ◌+◌, ◌*◌, ◌≤◌, ◌++◌, map, vec_capacity, vec_len}
use Rattle.hy_rows.specs.Spelling.{slot_width}
use Rattle.hy_columns.specs.inside.Pages.{rows_on}
use Rattle.hy_columns.proofs.pages.read_page.Given as goal

-- the values of the slots so far, for which there was room
abbrev pub invariant-loop : goal.invariant-loop
invariant-loop g l = record {
  at : l.at ≡ l.counter * slot_width l.row_bytes;
  values : map g.D.Decode.value_of l.values.items
      ≡ map g.D.Decode.value_of l.initial.values.items ++ rows_on l.row_bytes (g.D.Decode.value_in l.column) l.page l.counter;
  len : vec_len l.values ≤ vec_len l.initial.values + l.counter;
  capacity : vec_capacity l.values ≡ vec_capacity l.initial.values;
}
