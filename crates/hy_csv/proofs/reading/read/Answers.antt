use Rattle.std.proofs.Common.{◌≡◌, ◌∙◌, ◌-◌, ap, arith, length, sym, false, true}
use Rattle.std.proofs.lemmas.List.{length-map}
use Rattle.csv.specs.Reading.{default_config, records, strip_bom}
use Rattle.csv.specs.Records.{fields_of}
use Rattle.hy_rows.specs.Catalogue.{columns_of}
use Rattle.hy_rows.specs.Columns.{defined}
use Rattle.hy_csv.specs.Texts.{is_header, row_under}
use Rattle.hy_csv.proofs.ReadingLaws.{header_none, header_right, header_wrong, if_ok}
use Rattle.hy_csv.proofs.reading.read.Goals as goal
use Rattle.hy_csv.proofs.reading.read.Goals.{else-branch-via-then-branch+else-is_header, else-branch-via-else-branch}

pub returns-then-is_header : goal.returns-then-is_header
returns-then-is_header g c =
    let all = records default_config (strip_bom c.args.text.now) in
    let table = g.R.Record.TABLE in
    let with = g.R.Record.row_with in
    let header = fields_of c.next_record.new.fields in
    let next = rw c.if-branch.true at (c.in_ok-next_record.ensures all c.reader_of-reader.ensures) in
    let right : is_header table header ≡ true =
    rw c.TABLE.ensures at (sym c.is_header.ensures) ∙ c.if-is_header.true in
    let columns : length c.columns.result.now ≡ length (columns_of table) =
    sym (length-map c.columns.result.now defined)
    ∙ ap length (c.columns.ensures ∙ ap columns_of c.TABLE-then-is_header.ensures) in
    let lacking : c.saturating_sub-lacking.result ≡ length (columns_of table) - length header =
    omega (arith, c.saturating_sub-lacking.ensures, c.len.ensures, columns) in
    if_ok c.read_rows.result (λ found rows. (rw lacking at rows) next.0 next.2
    ∙ header_right (is_header table) (row_under table with) header all next.0 next.1 right)
    c.read_rows.ensures

pub returns : goal.returns
returns g c =
    let all = records default_config (strip_bom c.args.text.now) in
    let table = g.R.Record.TABLE in
    let with = g.R.Record.row_with in
    let found = c.in_ok-next_record.ensures all c.reader_of-reader.ensures in
    rw c.new.ensures.items (elim c.else-branch.branch [
      | else-branch-via-then-branch+else-is_header w ↦
          let next = rw w.if-branch.true at found in
          let wrong : is_header table (fields_of c.next_record.new.fields) ≡ false =
          rw w.TABLE.ensures at (sym w.is_header.ensures) ∙ w.if-is_header.false in
          header_wrong (is_header table) (row_under table with) (fields_of c.next_record.new.fields) all next.0 next.1 wrong
      | else-branch-via-else-branch w ↦
          header_none (is_header table) (row_under table with) all (rw w.if-branch.false at found)
    ])
