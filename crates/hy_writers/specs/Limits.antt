-- How far the rows of a warehouse can have grown when a transaction meets them: by all commits that may be kept, and by
-- the one that runs.
use Rattle.std.specs.Prelude.{ℕ}
use Rattle.hy_rows.specs.Tables.{Tables}
use Rattle.hy_commands.specs.Growth.{HasGrownBy}

-- the commits that may be kept, and the one that runs
abbrev pub most_applied : ℕ
most_applied = 100_000_001

abbrev pub AreInBounds : Tables → Type 0
AreInBounds tables = HasGrownBy most_applied tables
