use Rattle.std.proofs.Common.{◌≡◌, length}
use Rattle.std.specs.List.{AllByRecursion}
use Rattle.hy_space.specs.Space.{owner_bytes}
use Rattle.hy_undo.specs.UndoLog.{undone, restored}
use Rattle.hy_undo.specs.PrivatePages.{GivesUpPages}
use Rattle.hy_undo.specs.inside.RollBack.{IsPrivateWhereThere}
use Rattle.hy_undo.proofs.Undo.roll_back.Given as goal

-- what is left to put back gives the pages as they were at the begin
abbrev pub invariant-loop-self : goal.invariant-loop-self
invariant-loop-self g l = record {
  bytes : restored (owner_bytes l.space) l.self.images ≡ undone (owner_bytes l.fn.space) l.fn.self;
  counts : l.self.counts ≡ l.fn.self.counts;
  private : AllByRecursion (IsPrivateWhereThere g.row.N l.space) l.self.images;
  gives_up : GivesUpPages l.fn.space l.space;
}

abbrev pub decreases-loop-self : goal.decreases-loop-self
decreases-loop-self g l = length l.self.images
