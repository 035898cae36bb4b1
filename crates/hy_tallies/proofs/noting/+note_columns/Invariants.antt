use Rattle.std.proofs.Common.{length}
use Rattle.hy_tallies.proofs.noting.+note_columns.Given as goal

-- the columns that are left
abbrev pub decreases-note_columns : goal.decreases-note_columns
decreases-note_columns l = length l.aggregates.now
