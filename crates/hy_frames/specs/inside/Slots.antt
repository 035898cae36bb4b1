-- How the slots of a table and the list of unused numbers fit together.
use Rattle.std.specs.Prelude.{◌≡◌, ℕ, ◌+◌, ◌<◌, ◌≤◌, ◌⊎◌, ◌==◌, List, [], ◌∷◌, false, ◌++◌, length, slice_index_or, slice_set, replicate, Option, Some, None, if◌then◌else◌}
use Rattle.hy_frames.specs.FrameTable.{Frame, FrameTable, max_frames, empty_frame, in_use, shared_of, occurrences, IsSoundTable}

-- 1 at a number whose slot exists and is unused, else 0
abbrev pub unused_at : List Frame → ℕ → ℕ
unused_at slots f =
    if (slice_index_or slots f (record { count = 1; bytes = []; lent = false })).count == 0 then 1 else 0

-- the list names each unused slot once, has room for every slot, and the counters are right; there are no more spare
-- pages than unused slots, and there is room for one of every slot
pub record IsSoundSlots (page_size : ℕ) (slots : FrameTable) (unused : List ℕ)
    (room shared spares spare_room : ℕ) : Type 0 where
  pub table : IsSoundTable page_size slots
  pub each_once : (f : ℕ) → occurrences f unused ≡ unused_at slots.frames f
  pub partition : in_use slots + length unused ≡ length slots.frames
  pub fits : length slots.frames ≤ room
  pub small : length slots.frames ≤ max_frames
  pub sharing : shared ≡ shared_of slots
  pub few_spares : spares ≤ length unused
  pub spares_fit : length slots.frames ≤ spare_room

-- a slot is unused, or there is room for one more slot and its number
abbrev pub HasRoom : List Frame → ℕ → List ℕ → ℕ → Type 0
HasRoom slots slot_room unused unused_room =
    (unused ≡ [] → (length slots < slot_room) × (length slots < unused_room))

-- a slot was put where the last unused number says, or behind all slots where no number is unused
abbrev pub IsPut : List Frame → List ℕ → List Frame → List ℕ → Frame → ℕ → Type 0
IsPut slots unused slots' unused' frame f =
    ((unused ≡ unused' ++ f ∷ []) × (slots' ≡ slice_set slots f frame))
    ⊎ ((unused ≡ []) × (unused' ≡ []) × (f ≡ length slots) × (slots' ≡ slots ++ frame ∷ []))

-- the bytes in the frame of a number, or a page of zeros
abbrev pub bytes_or_zeros : ℕ → List Frame → Option ℕ → List ℕ
bytes_or_zeros page_size frames (Some f) = (slice_index_or frames f empty_frame).bytes
bytes_or_zeros page_size frames None = replicate page_size 0
