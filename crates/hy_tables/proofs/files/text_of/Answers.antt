use Rattle.std.proofs.Common.{◌∙◌, ap, sym}
use Rattle.hy_csv.proofs.ReadingLaws.{if_ok}
use Rattle.hy_csv.specs.Texts.{table_text}
use Rattle.hy_tables.proofs.FilesLaws.{text-values}
use Rattle.hy_tables.proofs.files.text_of.Goals as goal

pub returns : goal.returns
returns g c =
    let table = g.R.Record.TABLE in
    let values = g.R.Record.values_of in
    let rows = g.R.Listed.list_in c.args.load.now in
    if_ok c.write.result (λ text is. is ∙ ap (table_text table values) c.list.ensures ∙ sym (text-values table values rows))
    c.write.ensures
