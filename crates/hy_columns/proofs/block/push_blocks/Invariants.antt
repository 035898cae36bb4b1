use Rattle.std.proofs.Common.{◌≡◌, ◌-◌, ◌<◌, ◌≤◌, length}
use Rattle.hy_rows.specs.Spelling.{list_at}
use Rattle.hy_columns.specs.inside.Cuts.{Adds, Slots}
use Rattle.hy_columns.proofs.block.push_blocks.Given as goal

-- the slots that are left
abbrev pub decreases-loop-first : goal.decreases-loop-first
decreases-loop-first l = l.used - l.first

-- the blocks so far have the slots before the next one
abbrev pub invariant-loop-first : goal.invariant-loop-first
invariant-loop-first l = record {
  within : l.first ≤ l.used;
  adds : (slots : Slots) → l.warehouse < length slots → l.used ≡ length (list_at slots l.warehouse)
      → Adds slots l.warehouse l.first l.fn.blocks.items l.blocks.items;
}
