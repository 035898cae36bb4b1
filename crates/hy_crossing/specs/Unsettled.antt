-- How many parts of a command are done and neither kept nor undone, while it is led through its warehouses.
use Rattle.std.specs.Prelude.{◌≡◌, ℕ, zero, suc, ◌+◌, ◌-◌, ◌<◌, true, if◌then◌else◌, List, length, slice_get, Option, None, Some, IfSome}
use Rattle.std.specs.Option.{option_or}
use Rattle.hy_ledger.specs.declared.view.ShareState.{ShareState}
use Rattle.hy_commands.specs.declared.command.Command.{Command}
use Rattle.hy_commands.specs.declared.edition.Edition.{Edition}
use Rattle.hy_commands.specs.declared.reply.Reply.{Reply}
use Rattle.hy_partition.specs.Jobs.{Log}
use Rattle.hy_partition.specs.Partition.{PartState, PartitionState}
use Rattle.hy_partition.specs.Unsettled.{UnsettledState}
use Rattle.hy_crossing.specs.Crossings.{DoesHere, KeepsHere, RepliesFrom, is_named}
use Rattle.hy_crossing.specs.Lists.{ChangesAt}

-- 1 where a command names the warehouse with a number, and else 0
abbrev pub one_if_named : Command → ℕ → ℕ
one_if_named command number = if is_named command number then 1 else 0

-- how many of the first warehouses a command names
abbrev pub named_before : Command → ℕ → ℕ
named_before command zero = 0
named_before command (suc place) = named_before command place + one_if_named command (suc place)

-- so many parts of a command that is done by an edition, with their reply and share
abbrev pub unsettled_of : Edition → Command → ℕ → Option Reply → Option ShareState → UnsettledState
unsettled_of edition command count reply share =
    record { edition = edition; command = command; count = count; reply = reply; share = share }

-- the parts of a command in the first warehouses are done, and nothing is kept
abbrev pub AreCounted : Edition → Command → ℕ → UnsettledState → Type 0
AreCounted edition command place unsettled =
    unsettled ≡ unsettled_of edition command (named_before command place) unsettled.reply None

-- the part of the warehouse with a number is done, where the command names it, and counted
pub record DoesAt (edition : Edition) (command : Command) (number : ℕ) (old new : UnsettledState)
    (olds news : List PartitionState) : Type 0 where
  pub reply : Option Reply
  pub changes : ChangesAt (λ old new. DoesHere edition command number old new reply) (number - 1) olds news
  pub counted : new ≡ record old { count = old.count + one_if_named command number; reply = option_or reply old.reply }

-- all parts of a command are done, and nothing is kept, with the reply of the warehouse whose customer it names
pub record AreAllDone (edition : Edition) (command : Command) (parts : List PartitionState)
    (unsettled : UnsettledState) : Type 0 where
  pub reply : Reply
  pub replies : RepliesFrom edition command parts (Some reply)
  pub counted : unsettled ≡ unsettled_of edition command (named_before command (length parts)) (Some reply) None

-- one of the parts is done in each of the first warehouses that a command names
abbrev pub AreHeldBefore : Command → ℕ → PartState → List PartitionState → Type 0
AreHeldBefore command end part parts = (place : ℕ) → place < end
    → IfSome (slice_get parts place) (λ p. is_named command (suc place) ≡ true → p.part ≡ Some part)

-- the part of the warehouse with a number is kept, where the command names it, and counted no more
pub record KeepsAt (edition : Edition) (command : Command) (crossing : ℕ) (log : Log) (number : ℕ)
    (old new : UnsettledState) (olds news : List PartitionState) : Type 0 where
  pub share : Option ShareState
  pub changes : ChangesAt (λ old new. KeepsHere edition command crossing log number old new share) (number - 1) olds news
  pub settled : new ≡ record old { count = old.count - one_if_named command number; share = option_or share old.share }
