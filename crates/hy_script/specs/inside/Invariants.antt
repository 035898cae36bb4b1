-- What holds of the database of a script between the events.
use Rattle.std.specs.Prelude.{◌≡◌, ⊤, ◌+◌, ◌≤◌, ℕ, true, List, [], ◌∷◌, Option, None, Some, All, IfSome, IsSome, slice_get}
use Rattle.hy_worlds.specs.Origins.{Origin}
use Rattle.hy_passes.specs.Worlds.{PassState}
use Rattle.hy_commands.specs.declared.command.Commit.{Commit}
use Rattle.hy_session.specs.of_partition.Partition.{PartitionState}
use Rattle.hy_rows.specs.Tables.{Lists}
use Rattle.hy_session.specs.of_crossing.Crossings.{ArePartitions}
use Rattle.hy_session.specs.of_forks.Forks.{AreOfKit, are_from}
use Rattle.hy_script.specs.declared.terminal.Terminal.{Terminal}
use Rattle.hy_script.specs.Databases.{OpenSnapshot}

-- ---- terminals

-- how many values are there
abbrev pub held : {X : Type 0} → Option X → ℕ
held None = 0
held (Some value) = 1

-- the limit on frames is the one that was set last; and the client's pass is with the job that runs, with the answer
-- that waits, or at the terminal
pub record IsServed {K : Type 0} (p : PartitionState) (terminal : Terminal K) : Type 0 where
  pub max_frames : p.space.frames.max ≡ terminal.max_frames
  pub one_pass : held p.running + held p.finished + held terminal.pass ≡ 1

-- a terminal of a client whose pass is here, under a limit on frames
pub record IsReady {K : Type 0} (frames : ℕ) (terminal : Terminal K) : Type 0 where
  pub max_frames : terminal.max_frames ≡ frames
  pub pass : IsSome terminal.pass

-- the limit on frames stays, and the client's pass is with the job or the answer where it was before
pub record KeepsServed (old new : PartitionState) : Type 0 where
  pub max_frames : new.space.frames.max ≡ old.space.frames.max
  pub passes : held old.running + held old.finished ≤ 1
      → held new.running + held new.finished ≡ held old.running + held old.finished

-- the partition at a place, if one is there, is served by a terminal
abbrev pub IsServedAt : {K : Type 0} → List PartitionState → ℕ → Terminal K → Type 0
IsServedAt parts place terminal = IfSome (slice_get parts place) (λ p. IsServed p terminal)

-- each partition has a terminal, at the same place
abbrev pub AreServed : {K : Type 0} → List PartitionState → List (Terminal K) → Type 0
AreServed [] [] = ⊤
AreServed [] (terminal ∷ terminals) = ⊥
AreServed (p ∷ parts) [] = ⊥
AreServed (p ∷ parts) (terminal ∷ terminals) = IsServed p terminal × AreServed parts terminals

-- ---- snapshots

-- a snapshot is one of the kit, and says that it is one of whatever partitions are those of the load
pub record IsTaken (kit : Origin) (lists : Lists) (snapshot : OpenSnapshot) : Type 0 where
  pub of_kit : AreOfKit kit snapshot.parts
  pub mine : (parts : List PartitionState) → ArePartitions lists parts → are_from kit snapshot.parts parts ≡ true

-- ---- the database

-- each partition has its terminal; the open snapshots are of all partitions; and the pass of the client who takes snapshots
-- is here
pub record IsDatabase {K : Type 0} (kit : Origin) (lists : Lists) (parts : List PartitionState)
    (terminals : List (Terminal K)) (snapshots : List OpenSnapshot) (pass : Option (PassState Commit)) : Type 0 where
  pub served : AreServed parts terminals
  pub taken : All (IsTaken kit lists) snapshots
  pub pass_is : IsSome pass
