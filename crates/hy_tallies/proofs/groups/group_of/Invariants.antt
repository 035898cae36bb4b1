use Rattle.std.proofs.Common.{◌≡◌, ◌-◌, ◌<◌, ◌≤◌, ℕ, map}
use Rattle.hy_tallies.specs.Lines.{column_in, row_at}
use Rattle.hy_tallies.specs.inside.Keys.{AreFound, IsIn, code_from}
use Rattle.hy_tallies.proofs.groups.group_of.Given as goal

-- a group with the key is among those that are left
abbrev pub invariant-loop-row : goal.invariant-loop-row
invariant-loop-row l =
    l.groups.count ≤ l.groups.room → AreFound l.groups.buckets.buckets l.groups.room l.groups.keys.items l.groups.count
    → l.code ≡ code_from 0 (row_at (map column_in l.columns) l.line)
    → (group : ℕ) → group < l.groups.count → row_at l.groups.keys.items group ≡ row_at (map column_in l.columns) l.line
    → IsIn (l.groups.room - 1 - group) l.row-iterator
