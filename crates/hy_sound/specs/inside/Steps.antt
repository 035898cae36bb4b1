-- One step of a merge after the other, and what is sound from there on.
use Rattle.std.specs.Prelude.{◌≡◌, ℕ, suc, ◌<◌, true, false, List, MatchOption, is_some}
use Rattle.hy_rows.specs.Tables.{Lists}
use Rattle.hy_commands.specs.declared.command.Commit.{Commit}
use Rattle.hy_commands.specs.Commands.{number_of}
use Rattle.hy_sound.specs.declared.looking.Step.{Step}
use Rattle.hy_sound.specs.declared.looking.Step.TheVariants as steps
use Rattle.hy_sound.specs.Sound.{AreInStep, are_replayable, crossings_of}
use Rattle.hy_sound.specs.Merges.{MergeState, count_of, left_of, next_of}

-- what is left of the lists of so many warehouses is as a batch has to be, behind commits up to a number
pub record IsSoundFrom (lists : Lists) (before after : ℕ) (merge : MergeState) : Type 0 where
  pub in_step : AreInStep before after (count_of merge) (left_of merge)
  pub replayable : (place : ℕ) → place < count_of merge → are_replayable lists (left_of merge place) ≡ true

-- what is left now is so exactly where what was left before was
pub record Leads (lists : Lists) (before last : ℕ) (old new : MergeState) : Type 0 where
  pub forth : (after : ℕ) → IsSoundFrom lists before after old → IsSoundFrom lists last after new
  pub back : (after : ℕ) → IsSoundFrom lists last after new → IsSoundFrom lists before after old

abbrev pub IsUnsound : Lists → ℕ → MergeState → Type 0
IsUnsound lists last merge = (after : ℕ) → IsSoundFrom lists last after merge → ⊥

-- a list goes on with a commit of several warehouses, or is at its end
abbrev pub IsAtCrossing : List Commit → Type 0
IsAtCrossing commits = MatchOption (next_of commits) (Unit {0}) (λ commit. is_some (number_of commit) ≡ true)

-- commits of one warehouse were passed in a list up to such a place
pub record PassesLocals (lists : Lists) (old new : List Commit) : Type 0 where
  pub crossings : crossings_of old ≡ crossings_of new
  pub replayable : are_replayable lists old ≡ are_replayable lists new
  pub stops : IsAtCrossing new

-- the same in all lists
pub record PassesAllLocals (lists : Lists) (old new : MergeState) : Type 0 where
  pub count : count_of new ≡ count_of old
  pub each : (place : ℕ) → place < count_of old → PassesLocals lists (left_of old place) (left_of new place)

-- a list has a commit that isn't replayable
pub record IsRefusedAt (lists : Lists) (merge : MergeState) : Type 0 where
  pub place : ℕ
  pub within : place < count_of merge
  pub refused : are_replayable lists (left_of merge place) ≡ false

-- a step of a merge: a commit of several warehouses was passed, behind all of one that stood before it; or all lists are at
-- their end; or what is left isn't sound
abbrev pub Takes : Lists → ℕ → MergeState → MergeState → Step → Type 0
Takes lists last old new (steps.Passed number) = (number ≡ suc last) × Leads lists last number old new
Takes lists last old new steps.AtEnd = IsSoundFrom lists last last old
Takes lists last old new steps.Unsound = IsUnsound lists last old
