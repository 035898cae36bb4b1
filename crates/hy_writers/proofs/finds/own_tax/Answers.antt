use Rattle.hy_rows.specs.declared.warehouse.Warehouse.{Warehouse}
use Rattle.hy_rows.specs.Rows.{warehouse_of}
use Rattle.hy_indexes.specs.of_store.Writes.{stored_in}
use Rattle.hy_writers.proofs.FindLaws.{found-warehouse}
use Rattle.hy_writers.proofs.finds.own_tax.Goals as goal

pub returns : goal.returns
returns g c =
    let row : Warehouse = warehouse_of c.row_bytes_at.result.now in (
      row,
      found-warehouse c.args.layout.now.warehouse (stored_in g.row.N c.args.space.now).tables row c.requires.rows
          c.row_bytes_at.ensures.row,
      c.tax_in.ensures,
    )
