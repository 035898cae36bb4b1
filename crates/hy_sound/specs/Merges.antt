-- The lists of a batch on their way into one, in which a commit of several warehouses stands once.
use Rattle.std.specs.Prelude.{◌≡◌, ℕ, suc, ◌<◌, true, false, List, ◌∷◌, drop, length, Option, Some, slice_get, slice_index}
use Rattle.hy_commands.specs.declared.command.Command.{Command}
use Rattle.hy_commands.specs.declared.command.Commit.{Commit}
use Rattle.hy_commands.specs.declared.command.Commit.TheVariants as commits
use Rattle.hy_commands.specs.declared.edition.Edition.{Edition}
use Rattle.hy_batches.specs.Grammar.{names}
use Rattle.hy_sound.specs.Sound.{list_at}

-- the lists of a batch, and how many commits of each were passed
pub record MergeState : Type 0 where
  pub lists : List (List Commit)
  pub passed : List ℕ

-- how many lists there are, and what is left of the one at a place
abbrev pub count_of : MergeState → ℕ
count_of merge = length merge.lists

unfoldable pub left_of : MergeState → ℕ → List Commit
left_of merge place = drop (slice_index merge.passed place) (list_at merge.lists place)

-- the next commit of a list
abbrev pub next_of : List Commit → Option Commit
next_of commits = slice_get commits 0

-- the list at a place goes on with this command of several warehouses, of an edition and under a number, and the command
-- names its warehouse
pub record GoesOnAt (merge : MergeState) (edition : Edition) (number : ℕ) (command : Command) (place : ℕ)
    : Type 0 where
  pub within : place < count_of merge
  pub next : next_of (left_of merge place) ≡ Some (commits.Cross edition number command)
  pub named : names command (suc place) ≡ true

-- some list goes on so, with the number behind the last one
abbrev pub FindsCrossing : MergeState → ℕ → Edition → ℕ → Command → Type 0
FindsCrossing merge last edition number command =
    (number ≡ suc last) × ((place : ℕ) × GoesOnAt merge edition number command place)

-- none does
abbrev pub FindsNone : MergeState → ℕ → Type 0
FindsNone merge last =
    (place : ℕ) (edition : Edition) (command : Command) → GoesOnAt merge edition (suc last) command place → ⊥

-- each list whose warehouse the command names went on with it, and it was passed; the others stay
pub record PassesCrossing (edition : Edition) (number : ℕ) (command : Command) (old new : MergeState) : Type 0 where
  pub count : count_of new ≡ count_of old
  pub named : (place : ℕ) → place < count_of old → names command (suc place) ≡ true
      → left_of old place ≡ commits.Cross edition number command ∷ left_of new place
  pub others : (place : ℕ) → place < count_of old → names command (suc place) ≡ false → left_of new place ≡ left_of old place

-- one of them goes on otherwise
pub record LacksCrossing (edition : Edition) (number : ℕ) (command : Command) (merge : MergeState) : Type 0 where
  pub place : ℕ
  pub within : place < count_of merge
  pub named : names command (suc place) ≡ true
  pub another : next_of (left_of merge place) ≡ Some (commits.Cross edition number command) → ⊥
