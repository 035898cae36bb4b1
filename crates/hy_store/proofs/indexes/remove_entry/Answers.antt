use Rattle.std.proofs.Common.{ap, ◌∙◌}
use Rattle.std.proofs.lemmas.Result.{on_ok_weaker}
use Rattle.hy_undo.proofs.WriteLaws.{both_on_ok}
use Rattle.hy_index.specs.Index.{without}
use Rattle.hy_store.specs.Writes.{stored_in}
use Rattle.hy_store.proofs.StoreLaws.{store-indexed, stored-indexed}
use Rattle.hy_store.proofs.indexes.remove_entry.Goals as goal

pub returns-clause-removed : goal.returns-clause-removed
returns-clause-removed g c = on_ok_weaker c.remove.result (λ done. record {
  store = store-indexed g.row.N g.K.Indexed.SEGMENT g.K.Key.BYTES g.K.Key.bytes_of_key g.K.Key.key_of_bytes g.K.Key.IsKey g.K.Indexed.with_entries g.K.Indexed.behind g.K.Indexed.within
      g.met.K.Indexed.indexed_again g.met.K.Indexed.said_again c.args.space.now c.remove.new.space c.args.undo.now c.remove.new.undo c.index_in.result c.index_in.ensures.segment c.requires.store c.remove.ensures.writes
      done.0;
  changed = stored-indexed g.row.N g.K.Indexed.SEGMENT g.K.Key.BYTES g.K.Key.bytes_of_key g.K.Key.key_of_bytes g.K.Key.IsKey g.K.Indexed.with_entries g.K.Indexed.behind g.K.Indexed.within
      g.met.K.Indexed.indexed_again g.met.K.Indexed.said_again c.args.space.now c.remove.new.space c.args.undo.now c.remove.new.undo c.index_in.result c.index_in.ensures.segment c.requires.store c.remove.ensures.writes
      _ done.1
      ∙ ap (λ entries. g.K.Indexed.with_entries (stored_in g.row.N c.args.space.now) (without g.K.Key.is_less c.args.key.now entries)) c.index_in.ensures.entries;
})
    (both_on_ok _ _ c.remove.result c.remove.ensures.index c.remove.ensures.entries)
