use Rattle.std.proofs.Common.{◌∙◌, ap, arith, Some}
use Rattle.std.proofs.lemmas.List.{length-map}
use Rattle.hy_rows.specs.Catalogue.{columns_of, names_of}
use Rattle.hy_csv.specs.Fields.{AllFitFields, field_of, fields_of}
use Rattle.hy_csv.specs.Texts.{is_header, row_under}
use Rattle.hy_csv.proofs.HeaderLaws.{names-is_header, row_under-names}
use Rattle.hy_csv.proofs.RoundTripLaws.{rows-reads_back}
use Rattle.hy_csv.proofs.RowLaws.{row-reads}
use Rattle.hy_csv.proofs.TableLaws.{columns-many, names-begin}
use Rattle.hy_csv.proofs.writing.reads_back.Goals as goal

pub returns : goal.returns
returns g c all =
    let table = g.R.Record.TABLE in
    let values = g.R.Record.values_of in
    let with = g.R.Record.row_with in
    let laws = g.met.R.Record in
    rows-reads_back (λ row. AllFitFields (columns_of table) (values row)) (names_of table) (λ row. fields_of (values row))
    (is_header table) (row_under table with) (names-begin table) (names-is_header table)
    (λ row. omega (arith, length-map (values row) field_of, laws.has_all row, columns-many table))
    (λ row fits. row_under-names table with (fields_of (values row)) ∙ row-reads table with (values row) fits ∙ ap (λ row. Some row) (laws.same_row row)) c.args.rows.now all
