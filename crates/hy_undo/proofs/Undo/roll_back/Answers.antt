use Rattle.std.proofs.Common.{rules, ◌≡◌, ◌∙◌, sym, ap, ap₂, subst, List, ℕ, [], length}
use Rattle.std.proofs.lemmas.List.{nil_from_length}
use Rattle.hy_space.specs.Space.{owner_bytes}
use Rattle.hy_undo.specs.UndoLog.{Image, UndoLog, restored}
use Rattle.hy_undo.specs.PrivatePages.{IsUndoLog}
use Rattle.hy_undo.proofs.PrivatePageLaws.{IsUndoLog-empty, GivesUpPages-then, GivesUpPages-none}
use Rattle.hy_undo.proofs.RollBackLaws.{page_counts-rolled_back}
use Rattle.hy_undo.proofs.Undo.roll_back.Goals as goal

-- nothing is left to put back, and the page counts are those of the begin
pub returns-clause-log : goal.returns-clause-log
returns-clause-log g c =
    let none : length c.loop-self.self.images ≡ 0 = search rules in
    let images : c.loop-self.self.images ≡ [] = nil_from_length c.loop-self.self.images none in
    let bytes = ap (restored (owner_bytes c.loop-self.space)) (sym images) ∙ c.loop-self.invariant.bytes in
    let counts = page_counts-rolled_back g.row.N c.args.space.now c.loop-self.space c.args.self.now c.requires bytes in
    let log_of = λ (n : List ℕ) (all : List Image). let log : UndoLog = record { counts = n; images = all } in log in
    ap₂ log_of (c.loop-self.invariant.counts ∙ sym counts) images

pub returns-clause-undo_log : goal.returns-clause-undo_log
returns-clause-undo_log g c = subst (λ (log : UndoLog). IsUndoLog g.row.N c.loop-self.space log) (sym (returns-clause-log g c)) (IsUndoLog-empty g.row.N c.loop-self.space)

pub loop-self-preserved : goal.loop-self-preserved
loop-self-preserved g c =
    let before = c.loop-self.invariant in
    let put = c.put_back_last.ensures in
    record {
      bytes = put.restored ∙ before.bytes;
      counts = ap (λ (log : UndoLog). log.counts) put.log ∙ before.counts;
      gives_up = GivesUpPages-then c.args.space.now c.loop-self.space c.put_back_last.new.space before.gives_up (GivesUpPages-none c.loop-self.space c.put_back_last.new.space put.keeps);
      private = put.private;
    }
