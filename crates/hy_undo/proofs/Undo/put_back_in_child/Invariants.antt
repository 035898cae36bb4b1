use Rattle.std.proofs.Common.{◌≡◌, take}
use Rattle.hy_undo.proofs.ChildBackLaws.{IsPutBackTo, bytes_in}
use Rattle.hy_undo.proofs.Undo.put_back_in_child.Given as goal

-- what is left to put back gives the pages as they were at the begin
abbrev pub invariant-loop-left : goal.invariant-loop-left
invariant-loop-left g l = record {
  back : IsPutBackTo l.self l.fn.space l.space l.child l.left;
  end : l.end ≡ bytes_in (take l.left l.self.images);
}

abbrev pub decreases-loop-left : goal.decreases-loop-left
decreases-loop-left g l = l.left
