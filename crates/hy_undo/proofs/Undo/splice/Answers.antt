use Rattle.std.proofs.Common.{◌≡◌, ℕ, ◌+◌, ◌≤◌, ◌++◌, List, [], length, length-append, arith, ap, ap₂, ◌∙◌}
use Rattle.hy_page.specs.Bytes.{bytes_at, overwritten}
use Rattle.hy_page.proofs.ByteLaws.{length-bytes_at}
use Rattle.hy_space.specs.Space.{owner_bytes, page_at, page_bytes, with_page}
use Rattle.hy_undo.specs.UndoLog.{UndoLog, image_at, undone}
use Rattle.hy_undo.specs.inside.Pieces.{last_bytes}
use Rattle.hy_undo.proofs.PrivatePageLaws.{length-page_bytes, KeepsPages-written, IsUndoLog-kept}
use Rattle.hy_undo.proofs.SpliceLaws.{last_bytes-push, part-of_kept, undone-part}
use Rattle.hy_undo.proofs.Undo.splice.Goals as goal
use Rattle.hy_undo.proofs.Undo.splice.Given as given

pub last_part-moved-requires-clause-within : goal.last_part-moved-requires-clause-within
last_part-moved-requires-clause-within g c =
    let here = page_bytes c.args.space.now c.args.segment c.args.page in
    let size : ℕ = c.max.result + c.args.count in
    let kept : last_bytes c.self.inside.images ≡ bytes_at here c.args.offset size =
    ap (λ (log : UndoLog). last_bytes log.images) (c.self.view_is ∙ c.in_ok-keep_touched.ensures.logs.log)
    ∙ last_bytes-push [] c.args.self.now.images (image_at c.args.space.now c.args.segment c.args.page c.args.offset size) in
    let within : c.args.offset + size ≤ length here = omega (arith, c.max.ensures, c.requires.within, length-page_bytes g.row.N c.args.space.now c.args.segment c.args.page c.sound.ensures c.requires.there) in
    omega (arith, ap length kept, length-bytes_at here c.args.offset size within, c.max.ensures)

-- the bytes that move are those that stood behind the gap
moved : (g : given.Over) (c : goal.After-write_both g) → c.last_part-moved.result.now ≡ bytes_at (page_bytes c.args.space.now c.args.segment c.args.page) (c.args.offset + c.args.gap) c.args.count
moved g c =
    let here = page_bytes c.args.space.now c.args.segment c.args.page in
    let size : ℕ = c.max.result + c.args.count in
    let kept : last_bytes c.self.inside.images ≡ bytes_at here c.args.offset size =
    ap (λ (log : UndoLog). last_bytes log.images) (c.self.view_is ∙ c.in_ok-keep_touched.ensures.logs.log)
    ∙ last_bytes-push [] c.args.self.now.images (image_at c.args.space.now c.args.segment c.args.page c.args.offset size) in
    let within : c.args.offset + size ≤ length here = omega (arith, c.max.ensures, c.requires.within, length-page_bytes g.row.N c.args.space.now c.args.segment c.args.page c.sound.ensures c.requires.there) in
    c.last_part-moved.ensures.bytes
    ∙ ap (λ (bytes : List ℕ). bytes_at bytes c.args.gap c.args.count) kept
    ∙ part-of_kept here c.args.offset c.args.gap size c.args.count (omega (arith, c.max.ensures)) within

-- and so the page is what the clause says
written : (g : given.Over) (c : goal.After-write_both g) → owner_bytes c.write_both.new.space ≡ with_page (owner_bytes c.args.space.now) c.args.segment c.args.page (overwritten (page_bytes c.args.space.now c.args.segment c.args.page) c.args.offset (c.args.bytes.now ++ c.last_part-moved.result.now))
written g c =
    c.write_both.ensures.writes.bytes
    ∙ ap (λ (all : List (List (List ℕ))). with_page all c.args.segment c.args.page (overwritten (page_at all c.args.segment c.args.page) c.args.offset (c.args.bytes.now ++ c.last_part-moved.result.now))) c.in_ok-keep_touched.ensures.bytes

pub returns-clause-bytes : goal.returns-clause-bytes
returns-clause-bytes g c =
    written g c
    ∙ ap (λ (behind : List ℕ). with_page (owner_bytes c.args.space.now) c.args.segment c.args.page (overwritten (page_bytes c.args.space.now c.args.segment c.args.page) c.args.offset (c.args.bytes.now ++ behind))) (moved g c)

pub returns-clause-undoes : goal.returns-clause-undoes
returns-clause-undoes g c =
    let old = c.args.space.now in
    let mid = c.keep_touched.new.space in
    let new = c.write_both.new.space in
    let here = page_bytes old c.args.segment c.args.page in
    let size : ℕ = c.max.result + c.args.count in
    let content = c.args.bytes.now ++ c.last_part-moved.result.now in
    let within : c.args.offset + size ≤ length here = omega (arith, c.max.ensures, c.requires.within, length-page_bytes g.row.N old c.args.segment c.args.page c.sound.ensures c.requires.there) in
    let part : length content ≤ size = omega (arith, length-append c.args.bytes.now c.last_part-moved.result.now, c.last_part-moved.ensures.size, c.max.ensures) in
    record {
      undone = ap₂ undone (written g c) c.in_ok-keep_touched.ensures.logs.log ∙ undone-part (owner_bytes old) c.args.self.now c.args.segment c.args.page c.args.offset content size part within;
      undo_log = IsUndoLog-kept g.row.N mid new c.keep_touched.new.self (KeepsPages-written mid new c.args.segment c.args.page _ c.write_both.ensures.writes.bytes c.write_both.ensures.kept) c.keep_touched.ensures.undoes.undo_log;
    }
