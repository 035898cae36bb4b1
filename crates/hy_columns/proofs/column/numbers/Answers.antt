use Rattle.std.proofs.Common.{arith}
use Rattle.hy_columns.proofs.FieldLaws.{width-eight}
use Rattle.hy_columns.proofs.ResultLaws.{numbers-same}
use Rattle.hy_columns.proofs.column.numbers.Goals as goal

pub returns-in-1 : goal.returns-in-1
returns-in-1 g c =
    numbers-same g.row.N c.args.segment c.args.offset c.args.scan.now.pages c.args.blocks.now c.read_blocks.result c.in-1.is c.read_blocks.ensures

pub returns-in-2 : goal.returns-in-2
returns-in-2 g c =
    numbers-same g.row.N c.args.segment c.args.offset c.args.scan.now.pages c.args.blocks.now c.read_blocks-in-2.result c.in-2.is
    c.read_blocks-in-2.ensures

pub returns-in-4 : goal.returns-in-4
returns-in-4 g c =
    numbers-same g.row.N c.args.segment c.args.offset c.args.scan.now.pages c.args.blocks.now c.read_blocks-in-4.result c.in-4.is
    c.read_blocks-in-4.ensures

-- eight is the width that is left
pub returns-in_default : goal.returns-in_default
returns-in_default g c =
    let last = width-eight c.args.width c.requires.read (λ is. omega (arith, is)) (λ is. omega (arith, is))
    (λ is. omega (arith, is)) in
    numbers-same g.row.N c.args.segment c.args.offset c.args.scan.now.pages c.args.blocks.now c.read_blocks-in_default.result last
    c.read_blocks-in_default.ensures
