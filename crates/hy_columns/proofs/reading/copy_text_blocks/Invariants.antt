use Rattle.std.proofs.Common.{◌≡◌, take}
use Rattle.std.specs.List.{flat_map}
use Rattle.hy_columns.specs.inside.Scans.{read_in}
use Rattle.hy_columns.specs.inside.Spanned.{text_in}
use Rattle.hy_columns.proofs.reading.copy_text_blocks.Given as goal

-- the texts of the blocks so far
abbrev pub invariant-loop-block : goal.invariant-loop-block
invariant-loop-block g l =
    l.texts ≡ flat_map (read_in g.row.N l.segment (text_in l.column) l.scan.pages) (take l.block-index l.blocks)
