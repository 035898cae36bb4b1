-- The inner rule of a space: the users of frames are the places of tables that have them.
use Rattle.std.specs.Prelude.{◌≡◌, ℕ, ◌+◌, ◌<◌, ◌≤◌, ◌^◌, length, sum_by}
use Rattle.hy_frames.specs.FrameTable.{count_of}
use Rattle.hy_space.specs.Space.{SpaceState, times, child_table, child_times}

-- each frame's count is the number of places that have it, and each table has it once at most
pub record IsCounted (page_size : ℕ) (s : SpaceState) : Type 0 where
  pub exact : (f : ℕ) → count_of s.frames f ≡ times f s.owner + sum_by (child_times f) s.children
  pub owner_once : (f : ℕ) → times f s.owner ≤ 1
  pub child_once : (f child : ℕ) → child_times f (child_table s child) ≤ 1
  pub largest : page_size ≤ 65536
  pub segments : length s.owner < 2 ^ 32
