use Rattle.std.proofs.Common.{[], ◌∷◌, ◌+◌, map, rules, arith}
use Rattle.std.proofs.lemmas.List.{map-append}
use Rattle.std.proofs.lemmas.Result.{err_from_is_err_and}
use Rattle.hy_batches.specs.inside.Reading.{list_at, lists_at}
use Rattle.hy_batches.proofs.Fronts.{row_fails, row_more, rows_done}
use Rattle.hy_batches.proofs.RowReading.{more_lists, no_lists}
use Rattle.hy_batches.proofs.reading.lists_at.Goals as goal

pub returns-in_err-list : goal.returns-in_err-list
returns-in_err-list c =
    let p = err_from_is_err_and c.from_residual.result c.from_residual.ensures.1 in
    rw (p.1, p.2) (row_fails (list_at c.args.edition) (lists_at c.args.edition) (no_lists c.args.edition) (more_lists c.args.edition) c.in_err-list.field-0.0 (map (λ commits. commits.items) c.loop-place.lists.items)
    (c.loop-place.place + 1) c.args.count c.loop-place.place c.loop-place.rest.now
    (lists_at c.args.edition 1 c.args.count c.args.bytes.now) (omega arith) c.in_err-list.ensures c.loop-place.invariant)

pub loop-place-preserved : goal.loop-place-preserved
loop-place-preserved c =
    rw (c.in_ok-push.ensures.items, map-append (λ commits. commits.items) c.loop-place.lists.items (c.in_ok-list.list ∷ []))
    (row_more (list_at c.args.edition) (lists_at c.args.edition) (no_lists c.args.edition) (more_lists c.args.edition) (map (λ commits. commits.items) c.loop-place.lists.items)
    (c.loop-place.place + 1) c.args.count c.loop-place.place c.loop-place.rest.now c.in_ok-list.list.items c.in_ok-list.after.now
    (lists_at c.args.edition 1 c.args.count c.args.bytes.now) (omega arith) c.in_ok-list.ensures c.loop-place.invariant)

pub returns : goal.returns
returns c =
    let h = rows_done (list_at c.args.edition) (lists_at c.args.edition) (no_lists c.args.edition) (more_lists c.args.edition) (map (λ commits. commits.items) c.loop-place.lists.items)
    (c.loop-place.place + 1) c.args.count c.loop-place.place c.loop-place.rest.now (lists_at c.args.edition 1 c.args.count c.args.bytes.now) (omega arith) c.loop-place.invariant in
    search (rules, h)
