-- The parts of a command over several warehouses that are done in partitions, and neither kept nor undone so far.
use Rattle.std.specs.Prelude.{ℕ, ◌+◌, ◌-◌, Option, None}
use Rattle.std.specs.Option.{option_or}
use Rattle.hy_ledger.specs.declared.view.ShareState.{ShareState}
use Rattle.hy_commands.specs.declared.command.Command.{Command}
use Rattle.hy_commands.specs.declared.edition.Edition.{Edition}
use Rattle.hy_commands.specs.declared.reply.Reply.{Reply}
use Rattle.hy_partition.specs.Partition.{PartState}

-- the command whose parts are done, and the edition by which they are; how many of them are neither kept nor undone; the
-- reply of those that are done or kept, and the share of those that are kept
pub record UnsettledState : Type 0 where
  pub edition : Edition
  pub command : Command
  pub count : ℕ
  pub reply : Option Reply
  pub share : Option ShareState

-- no part of the command is done
abbrev pub nothing_done : Edition → Command → UnsettledState
nothing_done edition command =
    record { edition = edition; command = command; count = 0; reply = None; share = None }

-- what stands in a partition where one of the parts is done
abbrev pub part_of : UnsettledState → PartState
part_of unsettled = record { edition = unsettled.edition; command = unsettled.command }

-- one part more is done, with its reply if it has one
abbrev pub with_part_done : UnsettledState → Option Reply → UnsettledState
with_part_done unsettled reply =
    record unsettled { count = unsettled.count + 1; reply = option_or reply unsettled.reply }

-- one of the parts is undone: what was undone answers nothing
abbrev pub with_part_undone : UnsettledState → UnsettledState
with_part_undone unsettled = record unsettled { count = unsettled.count - 1; reply = None }

-- one of the parts is kept, with its share if it gives one
abbrev pub with_part_kept : UnsettledState → Option ShareState → UnsettledState
with_part_kept unsettled share =
    record unsettled { count = unsettled.count - 1; share = option_or share unsettled.share }
