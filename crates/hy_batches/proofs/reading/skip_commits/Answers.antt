use Rattle.std.proofs.Common.{arith}
use Rattle.std.proofs.lemmas.Result.{err_from_is_err_and}
use Rattle.hy_batches.specs.inside.Reading.{commit_at, commits_at, left}
use Rattle.hy_batches.proofs.Fronts.{left_done, left_fails, left_more}
use Rattle.hy_batches.proofs.RowReading.{commit_of, commits_of, more_commits, no_commits}
use Rattle.hy_batches.proofs.SkipLaws.{left-found, left-none}
use Rattle.hy_batches.proofs.reading.skip_commits.Goals as goal

pub returns-in_err-rest : goal.returns-in_err-rest
returns-in_err-rest c edition =
    let p = err_from_is_err_and c.from_residual.result c.from_residual.ensures.1 in
    let warehouse = c.args.warehouse in
    rw p.1 (left_fails (commit_of edition warehouse) (commits_of edition warehouse) (no_commits edition warehouse) (more_commits edition warehouse)
    0 c.args.count c.loop.counter c.loop.rest.now (left (commits_at edition warehouse c.args.count c.args.bytes.now)) (omega arith)
    (left-none (commit_at edition warehouse c.loop.rest.now) (c.in_err-rest.ensures edition)) (c.loop.invariant edition))

pub loop-preserved : goal.loop-preserved
loop-preserved c edition =
    let warehouse = c.args.warehouse in
    let found = left-found (commit_at edition warehouse c.loop.rest.now) c.in_ok-rest.rest.now (c.in_ok-rest.ensures edition) in
    left_more (commit_of edition warehouse) (commits_of edition warehouse) (no_commits edition warehouse) (more_commits edition warehouse)
    0 c.args.count c.loop.counter c.loop.rest.now found.0 c.in_ok-rest.rest.now
    (left (commits_at edition warehouse c.args.count c.args.bytes.now)) (omega arith) found.1 (c.loop.invariant edition)

pub returns : goal.returns
returns c edition =
    let warehouse = c.args.warehouse in
    left_done (commit_of edition warehouse) (commits_of edition warehouse) (no_commits edition warehouse) (more_commits edition warehouse)
    0 c.args.count c.loop.counter c.loop.rest.now (left (commits_at edition warehouse c.args.count c.args.bytes.now)) (omega arith)
    (c.loop.invariant edition)
