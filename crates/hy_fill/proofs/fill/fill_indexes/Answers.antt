use Rattle.hy_layout.specs.Layout.{own_rows}
use Rattle.hy_indexes.specs.of_store.Writes.{stored_in}
use Rattle.hy_fill.proofs.FilledLaws.{has_indexes}
use Rattle.hy_fill.proofs.fill.fill_indexes.Goals as goal

-- each step gave one index its entries, and left the others
pub returns-clause-indexes : goal.returns-clause-indexes
returns-clause-indexes g c =
    let n = g.row.N in
    has_indexes (own_rows c.args.layout.now) (stored_in n c.args.space.now) (stored_in n c.fill_index.new.space)
    (stored_in n c.fill_last_orders.new.space) (stored_in n c.fill_index-2.new.space)
    (stored_in n c.fill_index-3.new.space)
    (record {
      begin = c.requires.rows;
      only_orders = c.in_ok-fill_index.ensures.only;
      only_last_orders = c.in_ok-fill_last_orders.ensures.only;
      only_waiting = c.in_ok-fill_index-2.ensures.only;
      only_lines = c.in_ok-fill_index-3.ensures.only;
    })
    c.in_ok-fill_index.ensures.index c.in_ok-fill_last_orders.ensures.last_orders c.in_ok-fill_index-2.ensures.index
    c.in_ok-fill_index-3.ensures.index
