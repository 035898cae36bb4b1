-- Files that a log is written to.
use Rattle.std.specs.Prelude.{ℕ, ◌+◌, List, [], length}
use Rattle.hy_redo.specs.Writers.{Told}

-- a file that is held for a log: its path, and the bytes that were read of it since
pub record Holding : Type 0 where
  pub path : List ℕ
  pub seen : List ℕ

-- nothing is told of a file but that it is empty
abbrev pub nothing_told : Told
nothing_told = record { written = []; synced = 0; failures = 0 }

-- a file has these bytes, all of them are synced, and no call has failed
abbrev pub all_synced : List ℕ → Told
all_synced bytes = record { written = bytes; synced = length bytes; failures = 0 }

-- a call has failed, and nothing was taken
abbrev pub failed_once : Told → Told
failed_once told = record told { failures = told.failures + 1 }
