use Rattle.std.proofs.Common.{◌≡◌, None, Some, get_or, set, sym, ap, ◌∙◌, subst, arith}
use Rattle.std.specs.Prelude.{IsSome}
use Rattle.std.specs.Option.{option_map}
use Rattle.std.proofs.lemmas.Result.{on_ok_weaker}
use Rattle.hy_space.specs.Space.{owner_bytes}
use Rattle.hy_undo.proofs.WriteLaws.{both_on_ok}
use Rattle.hy_relation.specs.Relation.{relation_slots}
use Rattle.hy_store.specs.Writes.{stored_in}
use Rattle.hy_store.proofs.SlotLaws.{row-get, slots-put, there-all}
use Rattle.hy_store.proofs.StoreLaws.{store-lasting, stored-lasting}
use Rattle.hy_store.proofs.rows.put_part.Goals as goal

pub put_part-requires : goal.put_part-requires
put_part-requires g c =
    let live = subst IsSome (sym (ap (λ slots. get_or slots c.args.place None) c.know_rows.ensures.slots))
    (there-all (g.R.Row.rows_in (stored_in g.row.N c.args.space.now).tables) c.args.place c.requires.there) in
    (omega arith, (omega arith, (c.know_rows.ensures.relation, (live, c.requires.writable.undo_log))))

pub returns-clause-put : goal.returns-clause-put
returns-clause-put g c = on_ok_weaker c.put_part.result (λ done row here.
    let rows = g.R.Row.rows_in (stored_in g.row.N c.args.space.now).tables in
    let change : g.row.R.Denot → g.row.R.Denot = λ row. g.P.WrittenPart.with_part row c.args.part.now in
    let had = ap (λ slots. get_or slots c.args.place None) c.know_rows.ensures.slots ∙ row-get rows c.args.place ∙ here in
    let slots = slots-put rows c.args.place (change row)
    (done.1 ∙ ap (λ item. set (relation_slots g.row.N g.R.Row.SEGMENT g.R.Row.BYTES g.R.Row.row_of_bytes c.args.space.now) c.args.place (option_map change item)) had) c.know_rows.ensures.slots in
    record {
      store = store-lasting g.row.N g.R.Row.SEGMENT g.R.Row.BYTES g.R.Row.row_of_bytes g.R.Row.rows_in g.R.Row.with_rows g.met.R.Row.is_table g.met.R.Lasting.lasts g.met.R.Row.spelled g.met.R.Row.respelled
          (owner_bytes c.args.space.now) (owner_bytes c.put_part.new.space) c.requires.writable.store done.0.0 done.0.1 _ slots;
      changed = stored-lasting g.row.N g.R.Row.SEGMENT g.R.Row.BYTES g.R.Row.row_of_bytes g.R.Row.rows_in g.R.Row.with_rows g.met.R.Row.is_table g.met.R.Lasting.lasts g.met.R.Row.spelled g.met.R.Row.respelled
          (owner_bytes c.args.space.now) (owner_bytes c.put_part.new.space) c.requires.writable.store done.0.0 done.0.1 _ slots;
    })
    (both_on_ok _ _ c.put_part.result (both_on_ok _ _ c.put_part.result c.put_part.ensures.only c.put_part.ensures.slots) c.put_part.ensures.put)
