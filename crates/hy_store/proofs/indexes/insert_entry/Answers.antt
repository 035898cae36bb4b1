use Rattle.std.proofs.Common.{ap, length, ◌∙◌}
use Rattle.std.proofs.lemmas.Result.{on_ok_weaker}
use Rattle.hy_undo.proofs.WriteLaws.{both_on_ok}
use Rattle.hy_index.specs.Index.{with_entry}
use Rattle.hy_store.specs.Writes.{stored_in}
use Rattle.hy_store.proofs.PageLaws.{keeps-inserted}
use Rattle.hy_store.proofs.StoreLaws.{store-indexed, stored-indexed}
use Rattle.hy_store.proofs.indexes.insert_entry.Goals as goal

pub returns-clause-inserted : goal.returns-clause-inserted
returns-clause-inserted g c = on_ok_weaker c.insert.result (λ done. record {
  store = store-indexed g.row.N g.K.Indexed.SEGMENT g.K.Key.BYTES g.K.Key.bytes_of_key g.K.Key.key_of_bytes g.K.Key.IsKey g.K.Indexed.with_entries g.K.Indexed.behind g.K.Indexed.within
      g.met.K.Indexed.indexed_again g.met.K.Indexed.said_again c.args.space.now c.insert.new.space c.args.undo.now c.insert.new.undo c.index_in.result c.index_in.ensures.segment c.requires.store c.insert.ensures.writes
      done.0;
  changed = stored-indexed g.row.N g.K.Indexed.SEGMENT g.K.Key.BYTES g.K.Key.bytes_of_key g.K.Key.key_of_bytes g.K.Key.IsKey g.K.Indexed.with_entries g.K.Indexed.behind g.K.Indexed.within
      g.met.K.Indexed.indexed_again g.met.K.Indexed.said_again c.args.space.now c.insert.new.space c.args.undo.now c.insert.new.undo c.index_in.result c.index_in.ensures.segment c.requires.store c.insert.ensures.writes
      _ done.1
      ∙ ap (λ entries. g.K.Indexed.with_entries (stored_in g.row.N c.args.space.now) (with_entry g.K.Key.is_less c.args.key.now c.args.slot entries)) c.index_in.ensures.entries;
})
    (both_on_ok _ _ c.insert.result c.insert.ensures.index c.insert.ensures.entries)

pub returns-clause-pages : goal.returns-clause-pages
returns-clause-pages g c =
    keeps-inserted g.row.N g.K.Indexed.SEGMENT g.K.Key.BYTES g.met.K.Indexed.is_index_at c.args.space.now c.insert.new.space
    c.args.undo.now c.insert.new.undo c.index_in.result c.index_in.ensures.segment c.insert.ensures.writes
    (length (g.K.Indexed.entries_in (stored_in g.row.N c.args.space.now))) _ (ap length c.index_in.ensures.entries) c.insert.ensures.pages
