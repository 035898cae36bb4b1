use Rattle.std.proofs.Common.{rules, ◌∷◌, [], ℕ, take, filter, ap, ◌∙◌}
use Rattle.std.proofs.lemmas.List.{take_all}
use Rattle.hy_indexes.specs.of_store.Stored.{Stored}
use Rattle.hy_indexes.specs.of_store.Writes.{stored_in}
use Rattle.hy_fill.specs.inside.Filling.{with_more}
use Rattle.hy_fill.proofs.CountLaws.{rows-then}
use Rattle.hy_fill.proofs.RowLaws.{passed-more, pushed-more}
use Rattle.hy_fill.proofs.rows.push_rows.Goals as goal

-- one row more
pub loop-row-preserved : goal.loop-row-preserved
loop-row-preserved g c =
    let n : ℕ = g.row.N in
    let s : Stored = stored_in n c.args.space.now in
    let is_own = g.R.Row.is_of c.args.warehouse in
    let rows = c.args.rows.now in
    let index : ℕ = c.loop-row.row-index in
    let row = c.row-item.result in
    record {
      writable = record { store = c.in_ok-push_own_row.ensures.pushed.store; undo_log = c.in_ok-push_own_row.ensures.undo_log };
      rows = pushed-more g.R.Row.rows_in g.R.Row.with_rows g.R.Row.own_rows g.R.Row.last_rows s
          (stored_in n c.loop-row.space) (stored_in n c.push_own_row.new.space)
          (filter is_own (take index rows)) (filter is_own (row ∷ []))
          c.loop-row.invariant.rows c.in_ok-push_own_row.ensures.pushed.changed
          ∙ ap (λ more. with_more g.R.Row.rows_in g.R.Row.with_rows more s)
          (passed-more is_own rows index row row c.loop-row-test.true c.row-item.is);
      stays = search rules;
      pages = rows-then n g.R.Row.SEGMENT g.R.Row.rows_in g.R.Row.with_rows g.R.Row.own_rows is_own rows index row row c.loop-row-test.true c.row-item.is
          c.args.space.now c.loop-row.space c.push_own_row.new.space c.loop-row.invariant.rows c.loop-row.invariant.pages c.push_own_row.ensures.pages;
    }

pub returns-clause-pushed : goal.returns-clause-pushed
returns-clause-pushed g c =
    let s : Stored = stored_in g.row.N c.args.space.now in
    record {
      store = c.loop-row.invariant.writable.store;
      changed = c.loop-row.invariant.rows
          ∙ ap (λ rows. with_more g.R.Row.rows_in g.R.Row.with_rows (filter (g.R.Row.is_of c.args.warehouse) rows) s)
          (take_all c.loop-row.row-index c.args.rows.now c.loop-row-test.false);
    }

pub returns-in_err-push_own_row-clause-pages : goal.returns-in_err-push_own_row-clause-pages
returns-in_err-push_own_row-clause-pages g c =
    let row = c.row-item.result in
    rows-then g.row.N g.R.Row.SEGMENT g.R.Row.rows_in g.R.Row.with_rows g.R.Row.own_rows (g.R.Row.is_of c.args.warehouse) c.args.rows.now c.loop-row.row-index row row
    c.loop-row-test.true c.row-item.is c.args.space.now c.loop-row.space c.push_own_row.new.space c.loop-row.invariant.rows c.loop-row.invariant.pages c.push_own_row.ensures.pages
