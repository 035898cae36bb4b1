use Rattle.std.proofs.Common.{List, Some, ◌<◌, length, take, ap, ◌∙◌, arith}
use Rattle.std.proofs.lemmas.List.{take_more_set, length-set}
use Rattle.std.proofs.lemmas.Result.{err_from_is_err_and}
use Rattle.hy_batches.specs.declared.fault.ReadFault.TheVariants as faults
use Rattle.hy_batches.specs.inside.Reading.{lines_at}
use Rattle.hy_commands.specs.declared.command.PurchaseLine.{PurchaseLine}
use Rattle.hy_batches.proofs.ListLaws.{take-past}
use Rattle.hy_batches.proofs.Fronts.{row_fails, row_more, rows_done}
use Rattle.hy_batches.proofs.RowReading.{line_of, lines_of, more_lines, no_lines}
use Rattle.hy_batches.proofs.values.lines_at.Goals as goal

pub returns-in_err-line : goal.returns-in_err-line
returns-in_err-line c =
    let p = err_from_is_err_and c.from_residual.result c.from_residual.ensures.1 in
    rw p.1 (row_fails line_of lines_of no_lines more_lines faults.Malformed (take c.loop-place.place c.loop-place.lines)
    0 (length c.loop-place.lines) c.loop-place.place c.loop-place.rest.now (lines_at (length c.args.lines.now) c.args.bytes.now)
    (omega arith) c.in_err-line.ensures c.loop-place.invariant)

pub loop-place-preserved : goal.loop-place-preserved
loop-place-preserved c =
    let within : c.loop-place.place < length c.loop-place.lines = omega arith in
    rw (take_more_set, length-set)
    (row_more line_of lines_of no_lines more_lines (take c.loop-place.place c.loop-place.lines) 0 (length c.loop-place.lines)
    c.loop-place.place c.loop-place.rest.now c.in_ok-line.line c.in_ok-line.after.now
    (lines_at (length c.args.lines.now) c.args.bytes.now) within c.in_ok-line.ensures c.loop-place.invariant)

pub returns : goal.returns
returns c =
    rows_done line_of lines_of no_lines more_lines (take c.loop-place.place c.loop-place.lines) 0 (length c.loop-place.lines)
    c.loop-place.place c.loop-place.rest.now (lines_at (length c.args.lines.now) c.args.bytes.now) (omega arith) c.loop-place.invariant
    ∙ ap (λ (lines : List PurchaseLine). Some (lines, c.loop-place.rest.now))
    (take-past c.loop-place.place c.loop-place.lines (omega arith))
