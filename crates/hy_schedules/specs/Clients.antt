-- What clients have seen of the serial list, and what the model knows of that. A client hands its pass in with a job: it
-- lies in the job that runs and then in the answer that waits, and the client has it again once it takes that answer.
use Rattle.std.specs.Prelude.{ℕ, ◌≡◌, ◌≤◌, ◌==◌, Bool, List, ◌++◌, length, count_by, flat_map, All, Option, option_map, option_to_list}
use Rattle.hy_passes.specs.Worlds.{PassState}
use Rattle.hy_commands.specs.declared.command.Commit.{Commit}
use Rattle.hy_forks.specs.of_partition.Jobs.{DoneState, Log, RunningJob}
use Rattle.hy_forks.specs.of_partition.Partition.{PartitionState}
use Rattle.hy_schedules.specs.Schedules.{DoesAll, EventOfAll, IsWholeOf, Whole}

-- the passes that lie in a partition: in the job that runs, and in the answer that waits
abbrev pub passes_between : Option RunningJob → Option DoneState → List (PassState Commit)
passes_between running finished =
    option_to_list (option_map (λ job. job.pass) running)
    ++ option_to_list (option_map (λ answer. answer.pass) finished)

abbrev pub passes_of : PartitionState → List (PassState Commit)
passes_of p = passes_between p.running p.finished

-- and in some partitions
abbrev pub passes_in : List PartitionState → List (PassState Commit)
passes_in parts = flat_map passes_of parts

-- the model knows of a client what its pass has seen
abbrev pub IsTold : (ℕ → ℕ) → PassState Commit → Type 0
IsTold known pass = known pass.client ≡ length pass.seen

-- no two of some passes are of one client
abbrev pub is_of : ℕ → PassState Commit → Bool
is_of client pass = pass.client == client

abbrev pub AreApart : List (PassState Commit) → Type 0
AreApart passes = (client : ℕ) → count_by (is_of client) passes ≤ 1

-- passes of which no two are of one client, and of whose clients the model knows what they have seen
pub record KnowsClients (known : ℕ → ℕ) (passes : List (PassState Commit)) : Type 0 where
  pub told : All (IsTold known) passes
  pub apart : AreApart passes

-- a whole is that of some partitions; and of all passes, those in the partitions and those that clients hold, the model
-- knows what they have seen
abbrev pub IsWholeKnowing : ℕ → Log → List PartitionState → List (PassState Commit) → Whole → Type 0
IsWholeKnowing n log parts held whole =
    IsWholeOf n log parts whole × KnowsClients whole.known (passes_in parts ++ held)

-- an event happens in a whole, and leaves such a one
abbrev pub LeadsKnowing : ℕ → EventOfAll → Whole → Log → List PartitionState → List (PassState Commit) → Type 0
LeadsKnowing n event whole log parts held =
    (next : Whole) × DoesAll event whole next × IsWholeOf n log parts next
    × KnowsClients next.known (passes_in parts ++ held)
