-- What the pages run out of, and as which refusal.
use Rattle.std.specs.Prelude.{◌≡◌, ℕ, zero, suc, Bool, true, false, IsSome, Result, Ok, Err}
use Rattle.hy_frames.specs.FrameTable.{free_of}
use Rattle.hy_frames.specs.declared.errors.Shortage.{Shortage}
use Rattle.hy_frames.specs.declared.errors.Shortage.TheVariants as shortages
use Rattle.hy_schema.specs.declared.refusal.Refusal.{Refusal}
use Rattle.hy_schema.specs.declared.refusal.Refusal.TheVariants as refusals
use Rattle.hy_commands.specs.declared.command.Command.{Command}
use Rattle.hy_commands.specs.declared.command.Command.TheVariants as commands
use Rattle.hy_commands.specs.Commands.{is_reader}
use Rattle.hy_space.specs.Space.{SpaceState, child_table}

abbrev pub refusal_of_shortage : Shortage → Refusal
refusal_of_shortage shortages.NoMemory = refusals.NoMemory
refusal_of_shortage shortages.NoFrame = refusals.NoFrame

-- an answer with the refusal for what lacked
abbrev pub with_refusal : {Answer : Type 0} → Result Answer Shortage → Result Answer Refusal
with_refusal (Ok answer) = Ok answer
with_refusal (Err shortage) = Err (refusal_of_shortage shortage)

-- whether the slice behind so many adds no page: that of a payment's customer puts a row in the place of another, and
-- those of a delivery do so too, and take a row of NEW-ORDER away with its entry
abbrev pub adds_no_page : Command → ℕ → Bool
adds_no_page (commands.NewOrder order) done = false
adds_no_page (commands.Payment payment) zero = false
adds_no_page (commands.Payment payment) (suc done) = true
adds_no_page (commands.OrderStatus status) done = false
adds_no_page (commands.Delivery delivery) done = true
adds_no_page (commands.StockLevel level) done = false

-- the slice behind so many of a command lacks a frame on the pages of a space: the command doesn't only read, no frame
-- is free, and where the slice adds no page, a child is open, which may share those that it writes
pub record FindsNoFrame (command : Command) (done : ℕ) (space : SpaceState) : Type 0 where
  pub writes : is_reader command ≡ false
  pub full : free_of space.frames ≡ 0
  pub open_child : adds_no_page command done ≡ true → (child : ℕ) × IsSome (child_table space child)
