-- Room for a commit, and what is left of a part that was refused.
use Rattle.std.specs.Prelude.{◌≡◌, ◌⊎◌, ℕ, false, ◌&&◌, ◌==◌, not, if◌then◌else◌, Option, None, Some}
use Rattle.hy_schema.specs.declared.refusal.Refusal.{Refusal}
use Rattle.hy_schema.specs.declared.refusal.Refusal.TheVariants as refusals
use Rattle.hy_commands.specs.declared.command.Command.{Command}
use Rattle.hy_commands.specs.Commands.{is_reader}
use Rattle.hy_space.specs.Space.{SameForChildren, SpaceState, owner_bytes}
use Rattle.hy_undo.specs.UndoLog.{UndoLog, empty_log}
use Rattle.hy_undo.specs.PrivatePages.{IsUndoLog}

-- why a command isn't begun where so many commits are kept, and so many may be
abbrev pub room_refusal : Command → ℕ → ℕ → Option Refusal
room_refusal command kept most =
    if not (is_reader command) && (kept == most) then Some refusals.HistoryFull else None

-- the same, or memory for the commit is refused
abbrev pub LacksRoom : Command → ℕ → ℕ → Refusal → Type 0
LacksRoom command kept most why = (room_refusal command kept most ≡ Some why)
    ⊎ ((room_refusal command kept most ≡ None) × (is_reader command ≡ false) × (why ≡ refusals.NoMemory))

-- what a part wrote was undone again, where nothing was to be undone before it
pub record IsUndone (n : ℕ) (old new : SpaceState) (undo : UndoLog) : Type 0 where
  pub none : undo ≡ empty_log new
  pub undo_log : IsUndoLog n new undo
  pub bytes : owner_bytes new ≡ owner_bytes old
  pub children : SameForChildren old new
  pub max_frames : new.frames.max ≡ old.frames.max
