use Rattle.std.proofs.Common.{ℕ, take, filter, length, slice_get, subst, sym, ap, ◌+◌, ◌∙◌}
use Rattle.std.proofs.lemmas.List.{take_all}
use Rattle.hy_indexes.specs.Finds.{IsIndexOf}
use Rattle.hy_fill.specs.inside.Filling.{with_row}
use Rattle.hy_fill.proofs.EntryLaws.{IsPlaced, row-added}
use Rattle.hy_fill.proofs.RowLaws.{passed-more}
use Rattle.hy_fill.proofs.entries.unsorted_entries.Goals as goal
use Rattle.hy_fill.proofs.entries.unsorted_entries.Given as given

after : (g : given.Over) (c : goal.In_ok-add_entry g)
    → IsPlaced g.R.Keyed.key_of (filter (g.R.Row.is_of c.args.warehouse) (take (c.loop-row.row-index + 1) c.args.rows.now))
    c.add_entry.new.entries.items
after g c =
    let key_of = g.R.Keyed.key_of in
    let is_own = g.R.Row.is_of c.args.warehouse in
    let rows = c.args.rows.now in
    let index : ℕ = c.loop-row.row-index in
    let row = c.row-item.result in
    subst (λ entries. IsPlaced key_of (filter is_own (take (index + 1) rows)) entries) (sym c.in_ok-add_entry.ensures)
    (subst (λ own. IsPlaced key_of own (with_row key_of is_own row c.loop-row.entries.items))
    (passed-more is_own rows index row row c.loop-row-test.true c.row-item.is)
    (row-added key_of is_own (filter is_own (take index rows)) row c.loop-row.entries.items
    c.loop-row.invariant.index c.loop-row.invariant.count))

-- one row more
pub loop-row-preserved : goal.loop-row-preserved
loop-row-preserved g c = record { index = (after g c).index; count = (after g c).count }

pub returns-clause-index : goal.returns-clause-index
returns-clause-index g c =
    subst (λ rows. IsIndexOf g.R.Keyed.key_of (slice_get (filter (g.R.Row.is_of c.args.warehouse) rows)) c.loop-row.entries.items)
    (take_all c.loop-row.row-index c.args.rows.now c.loop-row-test.false) c.loop-row.invariant.index

pub returns-clause-count : goal.returns-clause-count
returns-clause-count g c =
    c.loop-row.invariant.count
    ∙ ap (λ rows. length (filter (g.R.Row.is_of c.args.warehouse) rows)) (take_all c.loop-row.row-index c.args.rows.now c.loop-row-test.false)
