use Rattle.std.proofs.Common.{◌≡◌, ◌∙◌, ap, sym, subst, OnErr}
use Rattle.std.proofs.lemmas.Result.{on_err_weaker, on_ok_weaker}
use Rattle.hy_space.specs.Space.{SpaceState, owner_bytes}
use Rattle.hy_undo.specs.Writes.{IsOutOfFrames}
use Rattle.hy_undo.proofs.JoinedLaws.{across-written}
use Rattle.hy_undo.proofs.WriteLaws.{by_outcome, can_undo-none, can_undo-written, on_failure, out_of_frames}
use Rattle.hy_undo.proofs.Undo.write_part.Goals as goal

pub returns-clause-across : goal.returns-clause-across
returns-clause-across g c = on_ok_weaker c.write.result (λ written.
    across-written g.row.N c.args.space.now c.write.new.space c.args.segment c.args.page c.args.offset c.args.bytes.now c.sound.ensures c.requires.there c.requires.within written)
    c.write.ensures.bytes

pub returns-clause-can_undo : goal.returns-clause-can_undo
returns-clause-can_undo g c =
    let n = g.row.N in
    let old = c.args.space.now in
    let new = c.write.new.space in
    by_outcome c.write.result c.write.ensures.logs c.write.ensures.err
    (λ done. can_undo-written n old new c.args.self.now c.write.new.self _ _ _ done.made.children done.made done.log c.write.ensures.undoes.undone c.write.ensures.undoes.undo_log)
    (λ same. can_undo-none n 1 old new c.args.self.now c.write.new.self same.1 same.0 c.write.ensures.undoes.undo_log)

pub returns-clause-no_frame : goal.returns-clause-no_frame
returns-clause-no_frame g c failed =
    subst IsOutOfFrames (sym (on_failure c.write.result _ failed c.write.ensures.err).1)
    (out_of_frames g.row.N c.args.space.now c.args.segment c.args.page c.sound.ensures c.requires.there (c.write.ensures.full.0 failed))

pub returns-clause-err : goal.returns-clause-err
returns-clause-err g c = on_err_weaker c.write.result (λ same. (same.0, ap (λ (s : SpaceState). owner_bytes s) same.1)) c.write.ensures.err
