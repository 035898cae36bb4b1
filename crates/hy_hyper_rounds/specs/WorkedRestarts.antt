-- Examples of what is alike, of what tells a want of frames or memory, and of events that ask for numbers of frames; the checker
-- computes them.
use Rattle.std.specs.Prelude.{[], ◌∷◌, codes, refl, None, Some}
use Rattle.std.proofs.Common.{inl, inr}
use Rattle.hy_schema.specs.declared.refusal.Refusal.TheVariants as refusals
use Rattle.hy_commands.specs.declared.command.Command.{Command}
use Rattle.hy_events.specs.declared.event.Event.TheVariants as events
use Rattle.hy_hyper_input.specs.Received.{Said}
use Rattle.hy_hyper_answers.specs.declared.answers.Style.TheVariants as styles
use Rattle.hy_partition.specs.Jobs.{RunningJob}
use Rattle.hy_hyper_rounds.specs.Restarts.{AsksOfFrames, IsShortage, LineAsksOfFrames, PrintAlike, RunTheSame, TellsShortage}

-- ---- events

touched : AsksOfFrames (events.Touched 1)
touched = tt

free : AsksOfFrames (events.Free 1)
free = tt

shared : AsksOfFrames (events.Shared 1)
shared = tt

limit : AsksOfFrames (events.Limit 1 20)
limit = tt

command : (command : Command) → AsksOfFrames (events.Run command) → ⊥
command run asks = asks

begin : (command : Command) → AsksOfFrames (events.Begin command) → ⊥
begin run asks = asks

step : AsksOfFrames (events.Step 1) → ⊥
step asks = asks

done : AsksOfFrames (events.Done 1) → ⊥
done asks = asks

fork : AsksOfFrames (events.Fork (codes "A")) → ⊥
fork asks = asks

fork_from : AsksOfFrames (events.ForkFrom (codes "B") (codes "A")) → ⊥
fork_from asks = asks

query : AsksOfFrames (events.Query (codes "A") (codes "from item select count")) → ⊥
query asks = asks

check : AsksOfFrames (events.Check (codes "A")) → ⊥
check asks = asks

close : AsksOfFrames (events.Close (codes "A")) → ⊥
close asks = asks

-- ---- lines

line : LineAsksOfFrames (Said.a_line 1 (codes "check A")) → ⊥
line asks = asks

no_event : LineAsksOfFrames (Said.a_line 1 (codes "pay")) → ⊥
no_event asks = asks

too_long : LineAsksOfFrames (Said.too_long 3) → ⊥
too_long asks = asks

-- ---- answers

no_frame : TellsShortage (codes "refused E2 NoFrame\n")
no_frame = (refusals.NoFrame, inl refl, refl)

no_memory : TellsShortage (codes "refused E1 NoMemory\n")
no_memory = (refusals.NoMemory, inr refl, refl)

another_refusal : IsShortage refusals.Busy → ⊥
another_refusal short = elim short [
  | inl frame ↦ cc
  | inr memory ↦ cc
]

both_checked : PrintAlike styles.Plain (Said.a_line 1 (codes "check A") ∷ []) (codes "closed A\n") (codes "closed A\n")
both_checked = (codes "closed A\n", codes "closed A\n", [], [], inr refl, refl, refl, (refl, refl))

nothing_said : PrintAlike styles.Plain [] [] (codes "more\n") → ⊥
nothing_said alike = let is = alike.1 in cc

-- ---- jobs

one_runs : (job : RunningJob) → RunTheSame None (Some job) → ⊥
one_runs job same = same

the_other_runs : (job : RunningJob) → RunTheSame (Some job) None → ⊥
the_other_runs job same = same
