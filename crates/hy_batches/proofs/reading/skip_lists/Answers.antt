use Rattle.std.proofs.Common.{◌+◌, arith}
use Rattle.std.proofs.lemmas.Result.{err_from_is_err_and}
use Rattle.hy_batches.specs.inside.Reading.{left, list_at, lists_at}
use Rattle.hy_batches.proofs.Fronts.{left_done, left_fails, left_more}
use Rattle.hy_batches.proofs.RowReading.{more_lists, no_lists}
use Rattle.hy_batches.proofs.SkipLaws.{left-found, left-none}
use Rattle.hy_batches.proofs.reading.skip_lists.Goals as goal

pub returns-in_err-rest : goal.returns-in_err-rest
returns-in_err-rest c edition =
    let p = err_from_is_err_and c.from_residual.result c.from_residual.ensures.1 in
    rw p.1 (left_fails (list_at edition) (lists_at edition) (no_lists edition) (more_lists edition)
    (c.loop-place.place + 1) c.args.count c.loop-place.place c.loop-place.rest.now (left (lists_at edition 1 c.args.count c.args.bytes.now))
    (omega arith) (left-none (list_at edition (c.loop-place.place + 1) c.loop-place.rest.now) (c.in_err-rest.ensures edition))
    (c.loop-place.invariant edition))

pub loop-place-preserved : goal.loop-place-preserved
loop-place-preserved c edition =
    let found = left-found (list_at edition (c.loop-place.place + 1) c.loop-place.rest.now) c.in_ok-rest.rest.now (c.in_ok-rest.ensures edition) in
    left_more (list_at edition) (lists_at edition) (no_lists edition) (more_lists edition)
    (c.loop-place.place + 1) c.args.count c.loop-place.place c.loop-place.rest.now found.0 c.in_ok-rest.rest.now
    (left (lists_at edition 1 c.args.count c.args.bytes.now)) (omega arith) found.1 (c.loop-place.invariant edition)

pub returns : goal.returns
returns c edition =
    left_done (list_at edition) (lists_at edition) (no_lists edition) (more_lists edition)
    (c.loop-place.place + 1) c.args.count c.loop-place.place c.loop-place.rest.now (left (lists_at edition 1 c.args.count c.args.bytes.now))
    (omega arith) (c.loop-place.invariant edition)
