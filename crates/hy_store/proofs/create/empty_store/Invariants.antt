use Rattle.std.proofs.Common.{◌≡◌, ◌+◌, ◌-◌, ◌≤◌, []}
use Rattle.hy_frames.specs.FrameTable.{free_of}
use Rattle.hy_store.specs.Stored.{all_segments}
use Rattle.hy_space.specs.Space.{owner_bytes}
use Rattle.hy_store.proofs.EmptyLaws.{filled}
use Rattle.hy_store.proofs.create.empty_store.Given as goal

-- the segments so far have a page of zeros
abbrev pub invariant-loop-segment : goal.invariant-loop-segment
invariant-loop-segment g l = record {
  within : l.segment ≤ all_segments;
  bytes : owner_bytes l.space ≡ filled g.row.N l.segment (all_segments - l.segment);
  children : l.space.children ≡ [];
  max : l.space.frames.max ≡ l.fn.max_frames;
  free : free_of l.space.frames + l.segment ≡ l.fn.max_frames;
}
