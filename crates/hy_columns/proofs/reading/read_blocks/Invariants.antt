use Rattle.std.proofs.Common.{◌≡◌, map, take}
use Rattle.std.specs.List.{flat_map}
use Rattle.hy_columns.specs.inside.Scans.{read_in}
use Rattle.hy_columns.proofs.reading.read_blocks.Given as goal

-- the values of the blocks so far
abbrev pub invariant-loop-block : goal.invariant-loop-block
invariant-loop-block g l =
    map g.D.Decode.value_of l.values.items
    ≡ flat_map (read_in g.row.N l.segment (g.D.Decode.value_in l.column) l.scan.pages) (take l.block-index l.blocks)
