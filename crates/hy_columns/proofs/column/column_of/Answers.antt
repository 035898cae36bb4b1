use Rattle.std.proofs.Common.{List, ap, ◌∙◌}
use Rattle.std.specs.List.{flat_map}
use Rattle.hy_columns.specs.Blocks.{rows_in_block}
use Rattle.hy_columns.specs.Columns.{column_at}
use Rattle.hy_columns.specs.declared.block.Block.{Block}
use Rattle.hy_columns.proofs.ResultLaws.{values-same}
use Rattle.hy_columns.proofs.column.column_of.Goals as goal

-- the blocks have all rows
pub returns : goal.returns
returns g c =
    values-same c.values_in.result
    (ap (λ (blocks : List Block). column_at c.args.column.now.place (flat_map (rows_in_block g.row.N c.args.scan.now c.args.column.now.table) blocks))
    c.deref.ensures.value
    ∙ ap (column_at c.args.column.now.place) c.in_ok-blocks.ensures.rows)
    c.values_in.ensures
