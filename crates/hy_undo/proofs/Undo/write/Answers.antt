use Rattle.std.proofs.Common.{◌+◌, ◌≤◌, List, ℕ, length, arith, ap, ap₂, ◌∙◌}
use Rattle.hy_page.specs.Bytes.{overwritten}
use Rattle.hy_space.specs.Space.{owner_bytes, page_at, page_bytes, with_page}
use Rattle.hy_undo.specs.UndoLog.{undone}
use Rattle.hy_undo.proofs.UndoneLaws.{undone-written}
use Rattle.hy_undo.proofs.PrivatePageLaws.{length-page_bytes, KeepsPages-written, IsUndoLog-kept}
use Rattle.hy_undo.proofs.Undo.write.Goals as goal

pub returns-clause-undoes : goal.returns-clause-undoes
returns-clause-undoes g c =
    let old = c.args.space.now in
    let mid = c.keep_touched.new.space in
    let new = c.write_in_place.new.self in
    let bytes = c.args.bytes.now in
    let writes = c.write_in_place.ensures.writes in
    let within : c.args.offset + length bytes ≤ length (page_bytes old c.args.segment c.args.page) = omega (arith, c.requires.within, length-page_bytes g.row.N old c.args.segment c.args.page c.sound.ensures c.requires.there) in
    let new_of = λ (all : List (List (List ℕ))). with_page all c.args.segment c.args.page (overwritten (page_at all c.args.segment c.args.page) c.args.offset bytes) in
    record {
      undone =
          ap₂ undone (writes.bytes ∙ ap new_of c.in_ok-keep_touched.ensures.bytes) c.in_ok-keep_touched.ensures.logs.log
          ∙ undone-written (owner_bytes old) c.args.self.now c.args.segment c.args.page c.args.offset bytes within;
      undo_log = IsUndoLog-kept g.row.N mid new c.keep_touched.new.self (KeepsPages-written mid new c.args.segment c.args.page _ writes.bytes c.write_in_place.ensures.kept) c.keep_touched.ensures.undoes.undo_log;
    }
