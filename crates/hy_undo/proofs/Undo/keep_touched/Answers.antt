use Rattle.std.proofs.Common.{rules, ◌≡◌, ◌+◌, ◌-◌, ◌≤◌, List, length, take, arith, sym, ap, ap₂, ◌∙◌, subst, ℕ}
use Rattle.hy_page.proofs.ByteLaws.{length-bytes_at}
use Rattle.hy_space.specs.Space.{SpaceState, owner_bytes, page_bytes}
use Rattle.hy_undo.specs.UndoLog.{Image, UndoLog, undone, image_at, with_image}
use Rattle.hy_undo.specs.PrivatePages.{IsOfPrivatePage, IsUndoLog}
use Rattle.hy_undo.proofs.UndoneLaws.{undone-kept}
use Rattle.hy_undo.proofs.PrivatePageLaws.{length-page_bytes, KeepsPages-unseen, HasPage-kept, IsUndoLog-with_image, IsUndoLog-kept}
use Rattle.hy_undo.proofs.PieceLaws.{take-front}
use Rattle.hy_undo.proofs.Undo.keep_touched.Goals as goal
use Rattle.hy_undo.proofs.Undo.keep_touched.Given as given

pub returns-in-Ok-clause-undoes : goal.returns-in-Ok-clause-undoes
returns-in-Ok-clause-undoes g c =
    let old = c.args.space.now in
    let new = c.touch.new.self in
    let here = page_bytes old c.args.segment c.args.page in
    let image = image_at old c.args.segment c.args.page c.args.offset c.args.count in
    let kept : c.keep.new.self ≡ with_image c.args.self.now image = search rules in
    let within : c.args.offset + c.args.count ≤ length here = omega (arith, c.requires.within, length-page_bytes g.row.N old c.args.segment c.args.page c.sound.ensures c.requires.there) in
    let keeps = KeepsPages-unseen old new c.in-Ok.ensures.bytes c.in-Ok.ensures.made.kept in
    let private : IsOfPrivatePage g.row.N new image = record {
      there = HasPage-kept old new c.args.segment c.args.page keeps c.requires.there;
      private = c.in-Ok.ensures.made.private;
      within = omega (arith, c.requires.within, length-bytes_at here c.args.offset c.args.count within);
    } in
    record {
      undone = ap₂ undone c.in-Ok.ensures.bytes kept ∙ undone-kept (owner_bytes old) c.args.self.now c.args.segment c.args.page c.args.offset c.args.count within;
      undo_log = subst (λ (log : UndoLog). IsUndoLog g.row.N new log) (sym kept) (IsUndoLog-with_image g.row.N new c.args.self.now image (IsUndoLog-kept g.row.N old new c.args.self.now keeps c.requires.undo_log) private);
    }

-- without the image that was added, the log is what it was
same_log : (g : given.Over) (c : goal.After-drop_last g) → record { counts = c.self.inside.counts.items; images = c.drop_last.new.self } ≡ c.args.self.now
same_log g c =
    let image = image_at c.args.space.now c.args.segment c.args.page c.args.offset c.args.count in
    let kept : c.keep.new.self ≡ with_image c.args.self.now image = search rules in
    let now = c.self.view_is ∙ kept in
    let log_of = λ (counts : List ℕ) (images : List Image). let log : UndoLog = record { counts = counts; images = images } in log in
    let images : c.drop_last.new.self ≡ c.args.self.now.images = c.drop_last.ensures ∙ ap (λ (log : UndoLog). take (length log.images - 1) log.images) now ∙ take-front c.args.self.now.images image in
    ap₂ log_of (ap (λ (log : UndoLog). log.counts) now) images

pub returns-in-Err-clause-undoes : goal.returns-in-Err-clause-undoes
returns-in-Err-clause-undoes g c = record {
  undone = ap₂ (λ (s : SpaceState) (log : UndoLog). undone (owner_bytes s) log) c.in-Err.ensures.err (same_log g c);
  undo_log = subst (λ (log : UndoLog). IsUndoLog g.row.N c.touch.new.self log) (sym (same_log g c)) (subst (λ (s : SpaceState). IsUndoLog g.row.N s c.args.self.now) (sym c.in-Err.ensures.err) c.requires.undo_log);
}
