use Rattle.std.proofs.Common.{List, Option, None, set}
use Rattle.std.proofs.lemmas.Result.{on_ok_weaker}
use Rattle.hy_rows.specs.declared.new_order.NewOrder.{NewOrder}
use Rattle.hy_space.specs.Space.{owner_bytes}
use Rattle.hy_undo.proofs.WriteLaws.{both_on_ok}
use Rattle.hy_store.specs.Stored.{Stored}
use Rattle.hy_store.specs.Writes.{stored_in}
use Rattle.hy_store.proofs.StoreLaws.{store-new_orders, stored-new_orders}
use Rattle.hy_store.proofs.rows.erase_new_order.Goals as goal

pub returns-clause-erased : goal.returns-clause-erased
returns-clause-erased g c =
    let old : Stored = stored_in g.row.N c.args.space.now in
    let slots : List (Option NewOrder) = set old.new_order_slots c.args.slot None in
    on_ok_weaker c.erase.result (λ done. record {
      store = store-new_orders g.row.N (owner_bytes c.args.space.now) (owner_bytes c.erase.new.space) c.requires.writable.store done.0.0 done.0.1;
      changed = stored-new_orders g.row.N (owner_bytes c.args.space.now) (owner_bytes c.erase.new.space) c.requires.writable.store done.0.0 done.0.1 slots done.1;
    })
    (both_on_ok _ _ c.erase.result (both_on_ok _ _ c.erase.result c.erase.ensures.only c.erase.ensures.slots) c.erase.ensures.erased)
