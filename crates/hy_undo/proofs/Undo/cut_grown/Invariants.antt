use Rattle.std.proofs.Common.{◌≡◌, take}
use Rattle.std.specs.List.{AllByRecursion}
use Rattle.hy_space.specs.Space.{owner_bytes}
use Rattle.hy_undo.specs.UndoLog.{first_pages}
use Rattle.hy_undo.specs.PrivatePages.{GivesUpPages}
use Rattle.hy_undo.specs.inside.RollBack.{IsPrivateWhereThere}
use Rattle.hy_undo.proofs.Undo.cut_grown.Given as goal

-- the segments so far have their first pages only
abbrev pub invariant-loop-segment : goal.invariant-loop-segment
invariant-loop-segment g l = record {
  bytes : owner_bytes l.space ≡ first_pages (take l.segment l.self.counts) (owner_bytes l.fn.space);
  gives_up : GivesUpPages l.fn.space l.space;
  private : AllByRecursion (IsPrivateWhereThere g.row.N l.space) l.self.images;
}
