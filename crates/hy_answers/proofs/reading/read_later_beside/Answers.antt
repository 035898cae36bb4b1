use Rattle.std.proofs.Common.{◌∙◌, Bor, ap, subst, sym}
use Rattle.std.specs.List.{AllZip}
use Rattle.hy_columns.specs.Scans.{lists_in_scan}
use Rattle.hy_query.specs.declared.column.Column.{Column}
use Rattle.hy_query.specs.Rows.{rows_of}
use Rattle.rayon.proofs.ToStd.{slice-AllZip}
use Rattle.hy_answers.specs.inside.Pieces.{AllRows}
use Rattle.hy_answers.proofs.BesideLaws.{IsRead, later-beside}
use Rattle.hy_answers.proofs.ResultLaws.{IfOk-then}
use Rattle.hy_answers.proofs.reading.read_later_beside.Goals as goal

pub returns : goal.returns
returns g c =
    let lists : AllRows = rows_of (lists_in_scan g.row.N c.args.scan.now) in
    let first = c.args.first in
    let slices =
    ap (λ it. it.base.slice.now) c.map.ensures.base ∙ ap (λ it. it.slice.now) c.with_min_len.ensures.base
    ∙ c.par_iter.ensures in
    let h = c.in_ok-read.ensures in
    let each = subst (λ f. AllZip (λ (column : Bor Column) read. IsRead (rows_of (lists_in_scan g.row.N f.1.now)) f.2.now column.now read)
    h.1.0 h.0) c.map.ensures.f h.1.2 in
    IfOk-then _ _ c.all_ok.result (λ made are.
    later-beside lists first c.args.names.now made.items
    (subst (AllZip (IsRead lists first) c.args.names.now) (sym h.2 ∙ are)
    (slice-AllZip h.1.0 c.args.names.now (h.1.1 ∙ slices) (IsRead lists first) h.0 each)))
    c.all_ok.ensures
