use Rattle.std.proofs.Common.{sym, ◌∙◌, arith}
use Rattle.hy_columns.proofs.TableLaws.{count-in, length-in, part-of, segment-is_table}
use Rattle.hy_columns.proofs.count.count_block.Goals as goal

pub count_in-requires : goal.count_in-requires
count_in-requires g c =
    let found = sym c.in-Some.ensures in
    (omega arith, (segment-is_table c.args.table c.in-Some.segment found, part-of g.row.N c.args.scan.now c.args.table c.in-Some.segment found c.args.block c.requires))

pub returns-in-Some : goal.returns-in-Some
returns-in-Some g c =
    c.count_in.ensures
    ∙ sym (length-in g.row.N c.args.scan.now c.args.table c.in-Some.segment (sym c.in-Some.ensures) c.args.block c.requires)

pub returns-in-None : goal.returns-in-None
returns-in-None g c = count-in g.row.N c.args.scan.now c.args.table (sym c.in-None.ensures) c.args.block c.requires
