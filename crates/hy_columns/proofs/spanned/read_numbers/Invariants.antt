use Rattle.std.proofs.Common.{◌≡◌, ◌+◌, ◌-◌, ◌≤◌, ◌++◌, map, vec_capacity, vec_len}
use Rattle.hy_columns.specs.inside.Pages.{rows_from}
use Rattle.hy_columns.specs.inside.Spanned.{bits_in}
use Rattle.hy_columns.proofs.spanned.read_numbers.Given as goal

-- the numbers of the slots so far, and room for the others
abbrev pub invariant-loop-place : goal.invariant-loop-place
invariant-loop-place g l = record {
  numbers : map g.B.FromBits.value_of l.numbers.items
      ≡ map g.B.FromBits.value_of l.fn.numbers.items
      ++ rows_from g.row.N l.column.segment.row_bytes (bits_in g.B.FromBits.value_of_bits l.column) l.pages l.first l.place;
  room : vec_len l.numbers + (l.count - l.place) ≤ vec_capacity l.numbers;
}
