use Rattle.std.proofs.Common.{◌≡◌, take, filter, slice_get, length}
use Rattle.hy_indexes.specs.Finds.{IsIndexOf}
use Rattle.hy_fill.proofs.entries.unsorted_entries.Given as goal

-- the entries are those of the own rows so far, as many as there are of these
abbrev pub invariant-loop-row : goal.invariant-loop-row
invariant-loop-row g l = record {
  index : IsIndexOf g.R.Keyed.key_of (slice_get (filter (g.R.Row.is_of l.warehouse) (take l.row-index l.rows)))
      l.entries.items;
  count : length l.entries.items ≡ length (filter (g.R.Row.is_of l.warehouse) (take l.row-index l.rows));
}
