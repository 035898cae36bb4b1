use Rattle.std.proofs.Common.{rules, ◌==◌, ◌∷◌, [], ℕ, Bool, List, take, filter, get_or, refl, ap, ◌∙◌}
use Rattle.std.proofs.lemmas.List.{take_all}
use Rattle.hy_rows.specs.declared.new_order.NewOrder.{NewOrder}
use Rattle.hy_indexes.specs.of_store.Stored.{Stored}
use Rattle.hy_indexes.specs.of_store.Writes.{stored_in}
use Rattle.hy_fill.specs.inside.Filling.{with_new_orders}
use Rattle.hy_fill.proofs.CountLaws.{new_orders-then}
use Rattle.hy_fill.proofs.RowLaws.{new_orders-more, passed-more}
use Rattle.hy_fill.proofs.rows.push_new_orders.Goals as goal

-- one row more
pub loop-row-preserved : goal.loop-row-preserved
loop-row-preserved g c =
    let n : ℕ = g.row.N in
    let s : Stored = stored_in n c.args.space.now in
    let is_own : NewOrder → Bool = λ row. row.warehouse == c.args.warehouse in
    let rows : List NewOrder = c.args.rows.now in
    let index : ℕ = c.loop-row.row-index in
    let none : NewOrder = record { order = 0; district = 0; warehouse = 0 } in
    let row : NewOrder = get_or rows index none in
    record {
      writable = record { store = c.in_ok-push_own_new_order.ensures.pushed.store; undo_log = c.in_ok-push_own_new_order.ensures.undo_log };
      rows = new_orders-more s
          (stored_in n c.loop-row.space) (stored_in n c.push_own_new_order.new.space)
          (filter is_own (take index rows)) (filter is_own (row ∷ []))
          c.loop-row.invariant.rows c.in_ok-push_own_new_order.ensures.pushed.changed
          ∙ ap (λ more. with_new_orders more s) (passed-more is_own rows index row none c.loop-row-test.true refl);
      stays = search rules;
      pages = new_orders-then n is_own rows index row none c.loop-row-test.true refl
          c.args.space.now c.loop-row.space c.push_own_new_order.new.space c.loop-row.invariant.rows c.loop-row.invariant.pages c.push_own_new_order.ensures.pages;
    }

pub returns-clause-pushed : goal.returns-clause-pushed
returns-clause-pushed g c =
    let s : Stored = stored_in g.row.N c.args.space.now in
    record {
      store = c.loop-row.invariant.writable.store;
      changed = c.loop-row.invariant.rows
          ∙ ap (λ rows. with_new_orders (filter (λ row. row.warehouse == c.args.warehouse) rows) s)
          (take_all c.loop-row.row-index c.args.rows.now c.loop-row-test.false);
    }

pub returns-in_err-push_own_new_order-clause-pages : goal.returns-in_err-push_own_new_order-clause-pages
returns-in_err-push_own_new_order-clause-pages g c =
    let rows : List NewOrder = c.args.rows.now in
    let index : ℕ = c.loop-row.row-index in
    let none : NewOrder = record { order = 0; district = 0; warehouse = 0 } in
    new_orders-then g.row.N (λ row. row.warehouse == c.args.warehouse) rows index (get_or rows index none) none c.loop-row-test.true refl
    c.args.space.now c.loop-row.space c.push_own_new_order.new.space c.loop-row.invariant.rows c.loop-row.invariant.pages c.push_own_new_order.ensures.pages
