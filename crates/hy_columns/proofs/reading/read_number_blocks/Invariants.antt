use Rattle.std.proofs.Common.{◌≡◌, map, take}
use Rattle.std.specs.List.{flat_map}
use Rattle.hy_columns.specs.inside.Scans.{read_in}
use Rattle.hy_columns.specs.inside.Spanned.{bits_in}
use Rattle.hy_columns.proofs.reading.read_number_blocks.Given as goal

-- the numbers of the blocks so far
abbrev pub invariant-loop-block : goal.invariant-loop-block
invariant-loop-block g l =
    map g.B.FromBits.value_of l.numbers.items
    ≡ flat_map (read_in g.row.N l.segment (bits_in g.B.FromBits.value_of_bits l.column) l.scan.pages) (take l.block-index l.blocks)
