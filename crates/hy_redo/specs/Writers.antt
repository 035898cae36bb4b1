-- What a writer tells, and what its calls change.
use Rattle.std.specs.Prelude.{◌≡◌, ℕ, ◌+◌, ◌<◌, ◌≤◌, List, ◌++◌, length, take, Result, Ok, Err}
use Rattle.hy_redo.specs.declared.out.Failed.{Failed}

pub record Told : Type 0 where
  -- the bytes that it took
  pub written : List ℕ
  -- how many of them are synced
  pub synced : ℕ
  -- how many of its calls have failed
  pub failures : ℕ

-- it took more bytes
abbrev pub with_more : Told → List ℕ → Told
with_more told front = record { written = told.written ++ front; synced = told.synced; failures = told.failures }

-- it took more bytes and failed
abbrev pub failed_behind : Told → List ℕ → Told
failed_behind told front =
    record { written = told.written ++ front; synced = told.synced; failures = told.failures + 1 }

-- all that it took is synced
abbrev pub with_sync : Told → Told
with_sync told = record { written = told.written; synced = length told.written; failures = told.failures }

-- these bytes come first among those
abbrev pub IsFront : List ℕ → List ℕ → Type 0
IsFront front whole = (lost : List ℕ) × (whole ≡ front ++ lost)

-- a write takes so many bytes, at least one unless there is none; where it fails, none, some or all of them
abbrev pub Takes : Told → Told → List ℕ → Result ℕ Failed → Type 0
Takes old new bytes (Ok count) =
    (count ≤ length bytes) × (0 < length bytes → 0 < count) × (new ≡ with_more old (take count bytes))
Takes old new bytes (Err failed) = (front : List ℕ) × IsFront front bytes × (new ≡ failed_behind old front)

-- a sync syncs all; where it fails, nothing is known to be synced but what was before
abbrev pub Syncs : Told → Told → Result (Unit {0}) Failed → Type 0
Syncs old new (Ok done) = new ≡ with_sync old
Syncs old new (Err failed) = new ≡ record old { failures = old.failures + 1 }
