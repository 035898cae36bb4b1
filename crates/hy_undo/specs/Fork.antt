-- A child of the begin that couldn't be opened.
use Rattle.std.specs.Prelude.{◌≡◌, ℕ, ◌<◌}
use Rattle.hy_frames.specs.FrameTable.{count_of, lent_at, free_of}
use Rattle.hy_space.specs.Space.{SpaceState, KeepsOwn, SameForOwner, child_table, child_bytes}

-- every table, every page that a table has, and every frame's users are as before, and so is each page that is lent
pub record IsAsBefore (old new : SpaceState) : Type 0 where
  pub owner : SameForOwner old new
  pub tables : (child : ℕ) → child_table new child ≡ child_table old child
  pub bytes : (child : ℕ) → child_bytes new child ≡ child_bytes old child
  pub counts : (f : ℕ) → count_of new.frames f ≡ count_of old.frames f
  pub lent : (f : ℕ) → 0 < count_of old.frames f → lent_at new.frames f ≡ lent_at old.frames f
  pub kept : KeepsOwn old new
  pub free : free_of new.frames ≡ free_of old.frames
