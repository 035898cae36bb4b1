use Rattle.std.proofs.Common.{rules, ℕ, sym, subst}
use Rattle.hy_space.specs.Space.{HasPage}
use Rattle.hy_undo.proofs.WriteLaws.{by_outcome, can_undo-none, can_undo-written, out_of_frames}
use Rattle.hy_relation.proofs.SpaceLaws.{has_page}
use Rattle.hy_relation.proofs.slots.write_count.Goals as goal

pub write-requires : goal.write-requires
write-requires g c =
    let there : HasPage c.args.space.now c.SEGMENT.result 0 =
    subst (λ (s : ℕ). HasPage c.args.space.now s 0) (sym c.SEGMENT.ensures)
    (has_page g.row.N g.R.Row.SEGMENT c.args.space.now c.sound.ensures c.requires.there 0 c.requires.there) in
    (search rules, (search rules, (there, search rules)))

pub returns-clause-can_undo : goal.returns-clause-can_undo
returns-clause-can_undo g c =
    by_outcome c.write.result c.write.ensures.logs c.write.ensures.err
    (λ done. can_undo-written g.row.N c.args.space.now c.write.new.space c.args.undo.now c.write.new.self _ _ _ done.made.children done.made done.log c.write.ensures.undoes.undone c.write.ensures.undoes.undo_log)
    (λ same. can_undo-none g.row.N 1 c.args.space.now c.write.new.space c.args.undo.now c.write.new.self same.1 same.0 c.write.ensures.undoes.undo_log)

pub returns-clause-no_frame : goal.returns-clause-no_frame
returns-clause-no_frame g c failed =
    let old = c.args.space.now in
    let there : HasPage old c.SEGMENT.result 0 =
    subst (λ (s : ℕ). HasPage old s 0) (sym c.SEGMENT.ensures) (has_page g.row.N g.R.Row.SEGMENT old c.sound.ensures c.requires.there 0 c.requires.there) in
    out_of_frames g.row.N old c.SEGMENT.result 0 c.sound.ensures there (c.write.ensures.full.0 failed)
