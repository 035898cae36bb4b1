use Rattle.std.proofs.Common.{◌<◌, ◌≤◌, [], length, get_or, replicate, arith, ap, ◌∙◌}
use Rattle.hy_space.specs.Space.{owner_bytes}
use Rattle.hy_undo.specs.UndoLog.{undone}
use Rattle.hy_undo.proofs.UndoneLaws.{undone-grown}
use Rattle.hy_undo.proofs.PrivatePageLaws.{length-segment-owner_bytes, IsUndoLog-kept, KeepsPages-grown}
use Rattle.hy_undo.proofs.Undo.grow.Goals as goal

-- the new page lies behind those that were there at the begin
pub returns-clause-undoes : goal.returns-clause-undoes
returns-clause-undoes g c =
    let log = c.args.self.now in
    let old = c.args.space.now in
    let new = c.grow.new.self in
    let grows = c.in_ok-page.ensures.grows in
    let counted : c.args.segment < length log.counts = omega (arith, c.requires.there, c.requires.undo_log.segments) in
    let few : get_or log.counts c.args.segment 0 ≤ length (get_or (owner_bytes old) c.args.segment []) = omega (arith, c.requires.undo_log.counts c.args.segment, length-segment-owner_bytes old c.args.segment) in
    record {
      undone = ap (λ bytes. undone bytes log) grows.bytes ∙ undone-grown (owner_bytes old) log c.args.segment (replicate g.row.N 0) counted few;
      undo_log = IsUndoLog-kept g.row.N old new log (KeepsPages-grown old new c.args.segment (replicate g.row.N 0) grows.bytes grows.kept) c.requires.undo_log;
    }
