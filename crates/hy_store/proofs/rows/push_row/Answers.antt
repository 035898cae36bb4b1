use Rattle.std.proofs.Common.{ℕ, Some, ap, length, ◌∙◌}
use Rattle.std.proofs.lemmas.List.{length-map}
use Rattle.std.proofs.lemmas.Result.{on_ok_weaker}
use Rattle.hy_space.specs.Space.{owner_bytes}
use Rattle.hy_store.specs.Writes.{stored_in}
use Rattle.hy_store.proofs.PageLaws.{keeps-pushed, pushed-count}
use Rattle.hy_store.proofs.SlotLaws.{slots-pushed}
use Rattle.hy_store.proofs.StoreLaws.{store-lasting, stored-lasting}
use Rattle.hy_store.proofs.rows.push_row.Goals as goal

pub returns-clause-pushed : goal.returns-clause-pushed
returns-clause-pushed g c = on_ok_weaker c.push.result (λ pushed.
    let slots = slots-pushed (g.R.Row.rows_in (stored_in g.row.N c.args.space.now).tables) c.args.row.now pushed c.know_rows.ensures.slots in
    record {
      store = store-lasting g.row.N g.R.Row.SEGMENT g.R.Row.BYTES g.R.Row.row_of_bytes g.R.Row.rows_in g.R.Row.with_rows g.met.R.Row.is_table g.met.R.Lasting.lasts g.met.R.Row.spelled g.met.R.Row.respelled
          (owner_bytes c.args.space.now) (owner_bytes c.push.new.space) c.requires.store c.push.ensures.only c.push.ensures.slots _ slots;
      changed = stored-lasting g.row.N g.R.Row.SEGMENT g.R.Row.BYTES g.R.Row.row_of_bytes g.R.Row.rows_in g.R.Row.with_rows g.met.R.Row.is_table g.met.R.Lasting.lasts g.met.R.Row.spelled g.met.R.Row.respelled
          (owner_bytes c.args.space.now) (owner_bytes c.push.new.space) c.requires.store c.push.ensures.only c.push.ensures.slots _ slots;
    })
    c.push.ensures.pushed

pub returns-clause-pages : goal.returns-clause-pages
returns-clause-pages g c =
    let n : ℕ = g.row.N in
    let rows = g.R.Row.rows_in (stored_in n c.args.space.now).tables in
    keeps-pushed n g.R.Row.SEGMENT g.R.Row.BYTES g.R.Row.row_of_bytes g.met.R.Row.is_table c.args.space.now c.push.new.space
    c.push.ensures.only c.push.ensures.few
    (pushed-count c.push.result _ _ (Some c.args.row.now) c.push.ensures.pushed c.push.ensures.kept)
    (length rows) (ap length c.know_rows.ensures.slots ∙ length-map rows Some)
