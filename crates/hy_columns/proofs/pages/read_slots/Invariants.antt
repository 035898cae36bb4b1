use Rattle.std.proofs.Common.{◌≡◌, ◌+◌, ◌-◌, ◌≤◌, ◌++◌, map, vec_capacity, vec_len}
use Rattle.hy_columns.specs.inside.Pages.{rows_from}
use Rattle.hy_columns.proofs.pages.read_slots.Given as goal

-- the slots that are left
abbrev pub decreases-loop-done : goal.decreases-loop-done
decreases-loop-done g l = l.count - l.done

-- the values of the slots so far, and room for those that are left
abbrev pub invariant-loop-done : goal.invariant-loop-done
invariant-loop-done g l = record {
  within : l.done ≤ l.count;
  values : map g.D.Decode.value_of l.values.items
      ≡ map g.D.Decode.value_of l.fn.values.items
      ++ rows_from g.row.N l.row_bytes (g.D.Decode.value_in l.column) l.pages l.first l.done;
  room : vec_len l.values + (l.count - l.done) ≤ vec_capacity l.values;
}
