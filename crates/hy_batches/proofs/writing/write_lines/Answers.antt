use Rattle.std.proofs.Common.{sym, subst, take}
use Rattle.std.specs.List.{flat_map}
use Rattle.hy_batches.specs.Encoding.{line_bytes}
use Rattle.hy_batches.proofs.ListLaws.{flat_map-taken}
use Rattle.hy_batches.proofs.writing.write_lines.Goals as goal

-- a line more
pub loop-place-preserved : goal.loop-place-preserved
loop-place-preserved g c =
    subst (g.S.Sink.takes c.args.sink.now c.write_line.new.sink)
    (sym (flat_map-taken line_bytes c.args.lines.now c.loop-place.place c.line.result c.line.ensures))
    (g.met.S.Sink.takes_both _ _ _ (flat_map line_bytes (take c.loop-place.place c.args.lines.now))
    (line_bytes c.line.result) c.loop-place.invariant c.write_line.ensures)
