use Rattle.hy_rows.specs.declared.district.District.{District}
use Rattle.hy_rows.specs.Rows.{district_of}
use Rattle.hy_indexes.specs.of_store.Writes.{stored_in}
use Rattle.hy_writers.proofs.FindLaws.{found-district}
use Rattle.hy_writers.proofs.finds.own_district_tax.Goals as goal

pub returns : goal.returns
returns g c =
    let row : District = district_of c.row_bytes_at.result.now in (
      row,
      found-district c.args.layout.now.warehouse c.args.district (stored_in g.row.N c.args.space.now).tables row
          c.requires.rows c.requires.district c.row_bytes_at.ensures.row,
      c.tax_in.ensures,
    )
