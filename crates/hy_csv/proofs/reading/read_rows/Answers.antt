use Rattle.std.proofs.Common.{rules, ◌≡◌, ◌∙◌, length, sym}
use Rattle.hy_csv.proofs.ReadingLaws.{rows_end, rows_more, rows_stop}
use Rattle.hy_csv.specs.Fields.{row_lacking}
use Rattle.hy_csv.proofs.reading.read_rows.Goals as goal

pub returns-then-not-branch : goal.returns-then-not-branch
returns-then-not-branch g c records stands =
    let (later, standing, same, long) = c.loop.invariant records stands in
    let none = rw c.if-not-branch.true at (c.in_ok-next_record.ensures later standing) in
    rows_end (row_lacking g.R.Record.TABLE g.R.Record.row_with c.args.lacking) c.loop.rows.items records later same long none

pub returns-in-None : goal.returns-in-None
returns-in-None g c records stands =
    let (later, standing, same, long) = c.loop.invariant records stands in
    let next = rw c.if-not-branch.false at (c.in_ok-next_record.ensures later standing) in
    let count : c.len.result ≡ length c.loop.rows.items = search (rules, c.len.ensures) in
    rw count (rows_stop (row_lacking g.R.Record.TABLE g.R.Record.row_with c.args.lacking) c.loop.rows.items records later same long _ next.0 next.1
    (sym c.in-None.is ∙ c.in_ok-row.ensures))

pub loop-preserved : goal.loop-preserved
loop-preserved g c records stands =
    let (later, standing, same, long) = c.loop.invariant records stands in
    let next = rw c.if-not-branch.false at (c.in_ok-next_record.ensures later standing) in
    let more = rows_more (row_lacking g.R.Record.TABLE g.R.Record.row_with c.args.lacking) c.loop.rows.items records later same long _ next.0 c.in-Some.row next.1
    (sym c.in-Some.is ∙ c.in_ok-row.ensures) in
    (next.0, next.2, rw c.in_ok-push-in-Some.ensures.items more.0, rw c.in_ok-push-in-Some.ensures.items more.1)
