use Rattle.std.proofs.Common.{ap₂, ap, ◌∙◌, ℕ, List, ◌≡◌, ◌<◌, length, arith}
use Rattle.std.proofs.lemmas.List.{take_all, length-map}
use Rattle.hy_space.specs.Space.{owner_bytes}
use Rattle.hy_undo.specs.UndoLog.{Image, UndoLog, page_counts, undone}
use Rattle.hy_undo.proofs.RollBackLaws.{undone-empty_log}
use Rattle.hy_undo.proofs.PrivatePageLaws.{page_counts-more}
use Rattle.hy_undo.proofs.Undo.new.Goals as goal

pub loop-segment-preserved : goal.loop-segment-preserved
loop-segment-preserved g c =
    let within : c.loop-segment.segment < length c.args.space.now.owner = omega arith in
    let more = page_counts-more c.args.space.now c.loop-segment.segment within in
    cc (c.in_ok-push.ensures.items, c.loop-segment.invariant, c.pages.ensures, more)

pub returns-clause-undone : goal.returns-clause-undone
returns-clause-undone g c =
    let space = c.args.space.now in
    let log_of = λ (n : List ℕ) (all : List Image). let log : UndoLog = record { counts = n; images = all } in log in
    let counts : c.loop-segment.counts.items ≡ page_counts space = c.loop-segment.invariant ∙ take_all c.loop-segment.segment (page_counts space) (omega (arith, length-map space.owner length)) in
    ap (undone (owner_bytes space)) (ap₂ log_of counts c.new.ensures) ∙ undone-empty_log space
