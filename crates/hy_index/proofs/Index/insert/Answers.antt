use Rattle.std.proofs.Common.{◌∙◌, inl, inr}
use Rattle.std.proofs.lemmas.Result.{on_ok_weaker}
use Rattle.hy_undo.proofs.WriteLaws.{both_on_ok}
use Rattle.hy_index.proofs.CallLaws.{fills, keeps-pages, none-above, put-index, same-pages, some-below}
use Rattle.hy_index.proofs.Index.insert.Goals as goal

pub returns-clause-index : goal.returns-clause-index
returns-clause-index g c =
    on_ok_weaker c.insert.result (λ done. (put-index g.row.N g.K.Key.BYTES c.args.self.now g.K.Key.bytes_of_key g.K.Key.key_of_bytes g.K.Key.IsKey g.K.Key.is_less g.met.K.Key.ordered g.met.K.Key.reads_back c.args.space.now c.requires.index c.tree.result c.tree.ensures c.args.key.now c.bytes_of-bytes.ensures.is_key c.as_slice.result.now (c.as_slice.ensures.value ∙ c.bytes_of-bytes.ensures.bytes) c.args.slot c.insert.new.space done).0) (both_on_ok _ _ c.insert.result c.insert.ensures.tree c.insert.ensures.entries)

pub returns-clause-entries : goal.returns-clause-entries
returns-clause-entries g c =
    on_ok_weaker c.insert.result (λ done. (put-index g.row.N g.K.Key.BYTES c.args.self.now g.K.Key.bytes_of_key g.K.Key.key_of_bytes g.K.Key.IsKey g.K.Key.is_less g.met.K.Key.ordered g.met.K.Key.reads_back c.args.space.now c.requires.index c.tree.result c.tree.ensures c.args.key.now c.bytes_of-bytes.ensures.is_key c.as_slice.result.now (c.as_slice.ensures.value ∙ c.bytes_of-bytes.ensures.bytes) c.args.slot c.insert.new.space done).1) (both_on_ok _ _ c.insert.result c.insert.ensures.tree c.insert.ensures.entries)

pub returns-clause-pages : goal.returns-clause-pages
returns-clause-pages g c =
    keeps-pages g.row.N g.K.Key.BYTES c.args.self.now g.K.Key.bytes_of_key g.K.Key.key_of_bytes g.K.Key.IsKey g.K.Key.is_less g.met.K.Key.ordered g.met.K.Key.reads_back c.args.space.now c.requires.index c.tree.result c.tree.ensures c.insert.new.space c.insert.ensures.pages

pub returns-clause-replaces : goal.returns-clause-replaces
returns-clause-replaces g c =
    λ found. same-pages g.row.N g.K.Key.BYTES c.args.self.now g.K.Key.bytes_of_key g.K.Key.key_of_bytes g.K.Key.IsKey g.K.Key.is_less g.met.K.Key.ordered g.met.K.Key.reads_back c.args.space.now c.requires.index c.tree.result c.tree.ensures c.insert.new.space c.requires.there c.insert.ensures.writes.segments (c.insert.ensures.replaces (some-below g.row.N g.K.Key.BYTES c.args.self.now g.K.Key.bytes_of_key g.K.Key.key_of_bytes g.K.Key.IsKey g.K.Key.is_less g.met.K.Key.ordered g.met.K.Key.reads_back c.args.space.now c.requires.index c.tree.result c.tree.ensures c.args.key.now c.bytes_of-bytes.ensures.is_key c.as_slice.result.now (c.as_slice.ensures.value ∙ c.bytes_of-bytes.ensures.bytes) found))

pub returns-clause-wanted : goal.returns-clause-wanted
returns-clause-wanted g c =
    λ lacks. elim (c.insert.ensures.wanted lacks) [
      | inl child ↦ inl child
      | inr absent ↦ inr (none-above g.row.N g.K.Key.BYTES c.args.self.now g.K.Key.bytes_of_key g.K.Key.key_of_bytes g.K.Key.IsKey g.K.Key.is_less g.met.K.Key.ordered g.met.K.Key.reads_back c.args.space.now c.requires.index c.tree.result c.tree.ensures c.args.key.now c.bytes_of-bytes.ensures.is_key c.as_slice.result.now (c.as_slice.ensures.value ∙ c.bytes_of-bytes.ensures.bytes) absent.0, fills g.row.N g.K.Key.BYTES c.args.self.now g.K.Key.bytes_of_key g.K.Key.key_of_bytes g.K.Key.IsKey g.K.Key.is_less g.met.K.Key.ordered g.met.K.Key.reads_back c.args.space.now c.requires.index c.tree.result c.tree.ensures absent.1 absent.2)
    ]
