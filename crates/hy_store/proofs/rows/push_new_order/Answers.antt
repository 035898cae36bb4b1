use Rattle.std.proofs.Common.{List, Option, Some, [], ◌∷◌, ◌++◌, ap, length, refl, ◌∙◌}
use Rattle.std.proofs.lemmas.Result.{on_ok_weaker}
use Rattle.hy_rows.specs.declared.new_order.NewOrder.{NewOrder}
use Rattle.hy_rows.specs.Rows.{new_order_of}
use Rattle.hy_store.specs.Stored.{new_order_segment}
use Rattle.hy_space.specs.Space.{owner_bytes}
use Rattle.hy_relation.proofs.ChangedRows.{live_rows-push}
use Rattle.hy_store.specs.Stored.{Stored}
use Rattle.hy_store.specs.Writes.{stored_in}
use Rattle.hy_store.proofs.PageLaws.{keeps-pushed, pushed-count}
use Rattle.hy_store.proofs.StoreLaws.{store-new_orders, stored-new_orders}
use Rattle.hy_store.proofs.rows.push_new_order.Goals as goal

pub returns-clause-pushed : goal.returns-clause-pushed
returns-clause-pushed g c =
    let old : Stored = stored_in g.row.N c.args.space.now in
    let slots : List (Option NewOrder) = old.new_order_slots ++ Some c.args.row.now ∷ [] in
    on_ok_weaker c.push.result (λ pushed. record {
      store = store-new_orders g.row.N (owner_bytes c.args.space.now) (owner_bytes c.push.new.space) c.requires.store c.push.ensures.only c.push.ensures.slots;
      changed = stored-new_orders g.row.N (owner_bytes c.args.space.now) (owner_bytes c.push.new.space) c.requires.store c.push.ensures.only c.push.ensures.slots slots pushed
          ∙ ap (λ (rows : List NewOrder). record old { tables = record old.tables { new_orders = rows }; new_order_slots = slots }) (live_rows-push old.new_order_slots c.args.row.now);
    })
    c.push.ensures.pushed

pub returns-clause-pages : goal.returns-clause-pages
returns-clause-pages g c =
    keeps-pushed g.row.N new_order_segment 6 new_order_of refl c.args.space.now c.push.new.space
    c.push.ensures.only c.push.ensures.few
    (pushed-count c.push.result _ _ (Some c.args.row.now) c.push.ensures.pushed c.push.ensures.kept)
    (length (stored_in g.row.N c.args.space.now).new_order_slots) refl
