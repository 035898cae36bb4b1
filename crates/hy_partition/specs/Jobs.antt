-- Jobs on their way to a partition, those that run, and answers on their way back.
use Rattle.std.specs.Prelude.{ℕ, ◌+◌, ◌==◌, Bool, List, if◌then◌else◌, map, length, Option, None, Some}
use Rattle.hy_passes.specs.Worlds.{PassState}
use Rattle.hy_passes.specs.declared.entry.Entry.{Entry}
use Rattle.hy_ledger.specs.declared.view.ShareState.{ShareState}
use Rattle.hy_schema.specs.declared.refusal.Refusal.{Refusal}
use Rattle.hy_commands.specs.declared.command.Command.{Command}
use Rattle.hy_commands.specs.declared.command.Commit.{Commit}
use Rattle.hy_commands.specs.declared.edition.Edition.{Edition}
use Rattle.hy_commands.specs.declared.reply.Reply.{Reply}
use Rattle.hy_commands.specs.declared.reply.Reply.TheVariants as replies
use Rattle.hy_commands.specs.Commands.{cents_of, is_reader, kept_of, slice_count}

-- what a client has seen of the serial list of commits
abbrev pub Log : Type 0
Log = List (Entry Commit)

-- a command that is to be done once, by an edition, with the pass of the client who wants it
pub record JobState : Type 0 where
  pub edition : Edition
  pub command : Command
  pub pass : PassState Commit

-- a command that runs, its edition, how many of its slices are done, and the pass of its client
pub record RunningJob : Type 0 where
  pub edition : Edition
  pub command : Command
  pub slices : ℕ
  pub pass : PassState Commit

-- the answer to a job: its reply, the client's pass, and a share where the command was accepted and doesn't only read
pub record DoneState : Type 0 where
  pub reply : Reply
  pub pass : PassState Commit
  pub share : Option ShareState

-- a job that has begun, and with one slice more done
abbrev pub begun : JobState → RunningJob
begun job = record { edition = job.edition; command = job.command; slices = 0; pass = job.pass }

abbrev pub with_slice_done : RunningJob → RunningJob
with_slice_done job = record job { slices = job.slices + 1 }

-- whether the next slice is the last one
abbrev pub is_last : RunningJob → Bool
is_last job = job.slices + 1 == slice_count job.command

-- ---- what an accepted command leaves

-- what it adds to the serial list, stamped with the number of commits that its client knew when it began: nothing where
-- it only reads
abbrev pub entered_by : Edition → Command → PassState Commit → Log
entered_by edition command pass =
    map (λ commit. record { commit = commit; stamp = length pass.seen }) (kept_of edition command)

-- its share in the accounts of a warehouse
abbrev pub share_of : ℕ → Command → Option ShareState
share_of warehouse command =
    if is_reader command then None else Some (record { warehouse = warehouse; cents = cents_of command })

-- ---- answers

-- a client's pass that was told the whole serial list
abbrev pub told : PassState Commit → Log → PassState Commit
told pass log = record pass { seen = log }

-- an accepted command is answered by its reply, a pass that knows the list, and its share
abbrev pub accepted_answer : RunningJob → ℕ → Reply → Log → DoneState
accepted_answer job warehouse reply log =
    record { reply = reply; pass = told job.pass log; share = share_of warehouse job.command }

-- a refused one by the refusal, the pass as it was, and no share
abbrev pub refused_answer : PassState Commit → Refusal → DoneState
refused_answer pass refusal = record { reply = replies.Refused refusal; pass = pass; share = None }
