use Rattle.std.proofs.Common.{None, get_or, sym, ap, subst, arith}
use Rattle.std.specs.Prelude.{IsSome}
use Rattle.std.proofs.lemmas.Result.{on_ok_weaker}
use Rattle.hy_space.specs.Space.{owner_bytes}
use Rattle.hy_undo.proofs.WriteLaws.{both_on_ok}
use Rattle.hy_store.specs.Writes.{stored_in}
use Rattle.hy_store.proofs.SlotLaws.{slots-put, there-all}
use Rattle.hy_store.proofs.StoreLaws.{store-lasting, stored-lasting}
use Rattle.hy_store.proofs.rows.put_row.Goals as goal

pub put-requires : goal.put-requires
put-requires g c =
    let live = subst IsSome (sym (ap (λ slots. get_or slots c.args.place None) c.know_rows.ensures.slots))
    (there-all (g.R.Row.rows_in (stored_in g.row.N c.args.space.now).tables) c.args.place c.requires.there) in
    (omega arith, (omega arith, (c.know_rows.ensures.relation, (live, c.requires.writable.undo_log))))

pub returns-clause-put : goal.returns-clause-put
returns-clause-put g c = on_ok_weaker c.put.result (λ done.
    let slots = slots-put (g.R.Row.rows_in (stored_in g.row.N c.args.space.now).tables) c.args.place c.args.row.now done.1 c.know_rows.ensures.slots in
    record {
      store = store-lasting g.row.N g.R.Row.SEGMENT g.R.Row.BYTES g.R.Row.row_of_bytes g.R.Row.rows_in g.R.Row.with_rows g.met.R.Row.is_table g.met.R.Lasting.lasts g.met.R.Row.spelled g.met.R.Row.respelled
          (owner_bytes c.args.space.now) (owner_bytes c.put.new.space) c.requires.writable.store done.0.0 done.0.1 _ slots;
      changed = stored-lasting g.row.N g.R.Row.SEGMENT g.R.Row.BYTES g.R.Row.row_of_bytes g.R.Row.rows_in g.R.Row.with_rows g.met.R.Row.is_table g.met.R.Lasting.lasts g.met.R.Row.spelled g.met.R.Row.respelled
          (owner_bytes c.args.space.now) (owner_bytes c.put.new.space) c.requires.writable.store done.0.0 done.0.1 _ slots;
    })
    (both_on_ok _ _ c.put.result (both_on_ok _ _ c.put.result c.put.ensures.only c.put.ensures.slots) c.put.ensures.put)
