use Rattle.std.proofs.Common.{rules, arith}
use Rattle.std.proofs.lemmas.Result.{err_from_is_err_and}
use Rattle.hy_batches.specs.inside.Reading.{commits_at}
use Rattle.hy_batches.proofs.Fronts.{row_fails, row_more, rows_done}
use Rattle.hy_batches.proofs.RowReading.{commit_of, commits_of, more_commits, no_commits}
use Rattle.hy_batches.proofs.reading.commits_at.Goals as goal

pub returns-in_err-rest : goal.returns-in_err-rest
returns-in_err-rest c =
    let p = err_from_is_err_and c.from_residual-in_err-rest.result c.from_residual-in_err-rest.ensures.1 in
    let edition = c.args.edition in
    let warehouse = c.args.warehouse in
    rw (p.1, p.2) (row_fails (commit_of edition warehouse) (commits_of edition warehouse) (no_commits edition warehouse) (more_commits edition warehouse)
    c.in_err-rest.field-0.0 c.loop.commits.items 0 c.args.count c.loop.counter c.loop.rest.now
    (commits_at edition warehouse c.args.count c.args.bytes.now) (omega arith) c.in_err-rest.ensures c.loop.invariant)

pub loop-preserved : goal.loop-preserved
loop-preserved c =
    let edition = c.args.edition in
    let warehouse = c.args.warehouse in
    let added = c.in_ok-rest.ensures in
    rw added.2
    (row_more (commit_of edition warehouse) (commits_of edition warehouse) (no_commits edition warehouse) (more_commits edition warehouse)
    c.loop.commits.items 0 c.args.count c.loop.counter c.loop.rest.now added.0 c.in_ok-rest.rest.now
    (commits_at edition warehouse c.args.count c.args.bytes.now) (omega arith) added.1 c.loop.invariant)

pub returns : goal.returns
returns c =
    let edition = c.args.edition in
    let warehouse = c.args.warehouse in
    let h = rows_done (commit_of edition warehouse) (commits_of edition warehouse) (no_commits edition warehouse) (more_commits edition warehouse)
    c.loop.commits.items 0 c.args.count c.loop.counter c.loop.rest.now
    (commits_at edition warehouse c.args.count c.args.bytes.now) (omega arith) c.loop.invariant in
    search (rules, h)
