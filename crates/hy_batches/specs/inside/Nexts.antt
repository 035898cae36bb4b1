-- The next batch of a log.
use Rattle.std.specs.Prelude.{◌≡◌, ℕ, IsTrue, List, ◌++◌, None, Option, Some, Result, Ok, Err}
use Rattle.hy_schema.specs.declared.refusal.Refusal.{Refusal}
use Rattle.hy_schema.specs.declared.refusal.Refusal.TheVariants as refusals
use Rattle.hy_commands.specs.declared.edition.Edition.{Edition}
use Rattle.hy_commands.specs.declared.edition.Edition.TheVariants as editions
use Rattle.hy_batches.specs.Batches.{Batch, may_follow}
use Rattle.hy_batches.specs.Encoding.{batch_bytes, log_bytes}
use Rattle.hy_batches.specs.Grammar.{IsBatch, are_batches, last_edition}
use Rattle.hy_batches.specs.Logs.{IsFaultyAt, IsLog}

-- no batch begins bytes that may stand behind one of an edition
abbrev pub BeginsNoBatch : Edition → List ℕ → Type 0
BeginsNoBatch edition rest =
    (batch : Batch) (more : List ℕ) → IsBatch batch → IsTrue (may_follow edition batch.edition)
    → rest ≡ batch_bytes batch ++ more → ⊥

-- the batch that bytes begin with behind one of an edition, and what is left, seen by `view`; the place of the bytes where
-- none does
abbrev pub IsNext : {X : Type 0} → (X → Batch × List ℕ) → Edition → ℕ → List ℕ → Result X Refusal → Type 0
IsNext view edition place rest (Ok read) =
    (rest ≡ batch_bytes (view read).0 ++ (view read).1) × IsBatch (view read).0
    × IsTrue (may_follow edition (view read).0.edition)
IsNext view edition place rest (Err (refusals.LogMalformed at)) = (at ≡ place) × BeginsNoBatch edition rest
IsNext view edition place rest (Err refusals.NoMemory) = Unit {0}
IsNext view edition place rest (Err refusal) = ⊥

-- the edition of the batch that bytes begin with behind one of an edition, and what is left, seen by `view`; nothing where
-- none does
abbrev pub Passes : {X : Type 0} → (X → Edition × List ℕ) → Edition → List ℕ → Option X → Type 0
Passes view edition rest (Some read) =
    (batch : Batch) × (rest ≡ batch_bytes batch ++ (view read).1) × IsBatch batch
    × IsTrue (may_follow edition batch.edition) × ((view read).0 ≡ batch.edition)
Passes view edition rest None = BeginsNoBatch edition rest

-- some batches stand before what is left, and the last of them is of this edition
pub record AreBefore (bytes : List ℕ) (edition : Edition) (rest : List ℕ) : Type 0 where
  pub batches : List Batch
  pub spelled : bytes ≡ log_bytes batches ++ rest
  pub whole : IsTrue (are_batches batches)
  pub last : edition ≡ last_edition editions.First batches

-- bytes are a log, or fail at a place
abbrev pub Faults : List ℕ → Option ℕ → Type 0
Faults bytes None = (batches : List Batch) × (rest : List ℕ) × IsLog bytes batches rest
Faults bytes (Some place) = IsFaultyAt bytes place

-- the same of a refusal
abbrev pub IsWhyUnread : List ℕ → Refusal → Type 0
IsWhyUnread bytes (refusals.LogMalformed place) = IsFaultyAt bytes place
IsWhyUnread bytes refusals.NoMemory = (batches : List Batch) × (rest : List ℕ) × IsLog bytes batches rest
IsWhyUnread bytes refusal = ⊥

-- bytes are read as their batches exactly where they are a log; else the place of what is no batch is told, unless memory
-- ran out before
abbrev pub ReadsSoFar : List ℕ → Result (List Batch) Refusal → Type 0
ReadsSoFar bytes (Ok batches) = (rest : List ℕ) × IsLog bytes batches rest
ReadsSoFar bytes (Err (refusals.LogMalformed place)) = IsFaultyAt bytes place
ReadsSoFar bytes (Err refusals.NoMemory) = Unit {0}
ReadsSoFar bytes (Err refusal) = ⊥
