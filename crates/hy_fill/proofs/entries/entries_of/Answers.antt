use Rattle.std.proofs.Common.{slice_get, filter, subst}
use Rattle.hy_indexes.specs.Finds.{IsIndexOf}
use Rattle.hy_fill.proofs.CountLaws.{own-passed}
use Rattle.hy_fill.proofs.EntryLaws.{index-same, same-permuted}
use Rattle.hy_fill.proofs.entries.entries_of.Goals as goal

pub returns-clause-index : goal.returns-clause-index
returns-clause-index g c =
    let entries = c.sort_unstable_by.new.self.items in
    subst (λ rows. IsIndexOf g.R.Keyed.key_of (slice_get rows) entries)
    (own-passed g.R.Row.rows_in g.R.Row.is_of g.R.Row.own_in c.args.layout.now c.load.result.now c.tables.result.now
    c.warehouse.result c.list-rows.result.now c.load.ensures c.tables.ensures c.warehouse.ensures c.list-rows.ensures)
    (index-same g.R.Keyed.key_of (slice_get (filter (g.R.Row.is_of c.warehouse.result) c.list-rows.result.now))
    c.in_ok-entries.entries.items entries
    (same-permuted c.in_ok-entries.entries.items entries c.sort_unstable_by.ensures.permutation)
    c.in_ok-entries.ensures.index)
