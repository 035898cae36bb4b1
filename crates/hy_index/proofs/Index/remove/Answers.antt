use Rattle.std.proofs.Common.{◌∙◌}
use Rattle.std.proofs.lemmas.Result.{on_ok_weaker}
use Rattle.hy_undo.proofs.WriteLaws.{both_on_ok}
use Rattle.hy_index.proofs.CallLaws.{none-below, taken-index}
use Rattle.hy_index.proofs.Index.remove.Goals as goal

pub returns-clause-index : goal.returns-clause-index
returns-clause-index g c =
    on_ok_weaker c.remove.result (λ done. (taken-index g.row.N g.K.Key.BYTES c.args.self.now g.K.Key.bytes_of_key g.K.Key.key_of_bytes g.K.Key.IsKey g.K.Key.is_less g.met.K.Key.ordered g.met.K.Key.reads_back c.args.space.now c.requires.index c.tree.result c.tree.ensures c.args.key.now c.bytes_of-bytes.ensures.is_key c.as_slice.result.now (c.as_slice.ensures.value ∙ c.bytes_of-bytes.ensures.bytes) c.remove.new.space done).0) (both_on_ok _ _ c.remove.result c.remove.ensures.tree c.remove.ensures.entries)

pub returns-clause-entries : goal.returns-clause-entries
returns-clause-entries g c =
    on_ok_weaker c.remove.result (λ done. (taken-index g.row.N g.K.Key.BYTES c.args.self.now g.K.Key.bytes_of_key g.K.Key.key_of_bytes g.K.Key.IsKey g.K.Key.is_less g.met.K.Key.ordered g.met.K.Key.reads_back c.args.space.now c.requires.index c.tree.result c.tree.ensures c.args.key.now c.bytes_of-bytes.ensures.is_key c.as_slice.result.now (c.as_slice.ensures.value ∙ c.bytes_of-bytes.ensures.bytes) c.remove.new.space done).1) (both_on_ok _ _ c.remove.result c.remove.ensures.tree c.remove.ensures.entries)

pub returns-clause-absent : goal.returns-clause-absent
returns-clause-absent g c =
    λ none. c.remove.ensures.absent (none-below g.row.N g.K.Key.BYTES c.args.self.now g.K.Key.bytes_of_key g.K.Key.key_of_bytes g.K.Key.IsKey g.K.Key.is_less g.met.K.Key.ordered g.met.K.Key.reads_back c.args.space.now c.requires.index c.tree.result c.tree.ensures c.args.key.now c.bytes_of-bytes.ensures.is_key c.as_slice.result.now (c.as_slice.ensures.value ∙ c.bytes_of-bytes.ensures.bytes) none)
