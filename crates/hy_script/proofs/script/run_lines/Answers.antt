use Rattle.std.proofs.Common.{ℕ, List, subst}
use Rattle.hy_events.specs.Lines.{lines, numbered}
use Rattle.hy_script.specs.inside.Held.{contents_behind}
use Rattle.hy_script.proofs.RunLaws.{SoFar, so_far-bad, so_far-end, so_far-kept, so_far-more}
use Rattle.hy_script.proofs.script.run_lines.Goals as goal

pub loop-line-preserved : goal.loop-line-preserved
loop-line-preserved g c =
    let all = numbered 1 (lines c.args.script.now) in
    let first = c.args.database.now in
    let bytes = contents_behind g.O.Output.contents c.args.held.now in
    let line : ℕ × List ℕ = (c.in-Some.line.number, c.in-Some.line.bytes.now) in
    let old = contents_behind g.O.Output.contents c.loop-line.held in
    let new = contents_behind g.O.Output.contents c.answer_line.new.out in
    let before = subst (λ (left : List (ℕ × List ℕ)). SoFar g.row.N all first bytes left c.loop-line.database old)
    c.in-Some.ensures.steps c.loop-line.invariant.2 in
    let after = so_far-more g.row.N all first bytes line c.next.new.self c.loop-line.database
    c.answer_line.new.database old new before c.in-Ok.ensures.answered in (
      tt,
      tt,
      so_far-kept g.row.N all first bytes c.next.new.self c.answer_line.new.database new
          (contents_behind g.O.Output.contents c.hand_on_many.new.self) after c.in_ok-hand_on_many-in-Ok.ensures.kept,
    )

pub returns-in-Err-BadEvent-clause-fault : goal.returns-in-Err-BadEvent-clause-fault
returns-in-Err-BadEvent-clause-fault g c =
    let all = numbered 1 (lines c.args.script.now) in
    let first = c.args.database.now in
    let bytes = contents_behind g.O.Output.contents c.args.held.now in
    let line : ℕ × List ℕ = (c.in-Some.line.number, c.in-Some.line.bytes.now) in
    let old = contents_behind g.O.Output.contents c.loop-line.held in
    let before = subst (λ (left : List (ℕ × List ℕ)). SoFar g.row.N all first bytes left c.loop-line.database old)
    c.in-Some.ensures.steps c.loop-line.invariant.2 in
    let fault = rw c.in-Err-BadEvent.field-0-is at c.in-Err-BadEvent.ensures.fault in
    so_far-bad g.row.N all first bytes line c.next.new.self c.loop-line.database old
    (contents_behind g.O.Output.contents c.answer_line.new.out) before fault.0 fault.1.0

pub returns-clause-done : goal.returns-clause-done
returns-clause-done g c =
    let all = numbered 1 (lines c.args.script.now) in
    let first = c.args.database.now in
    let bytes = contents_behind g.O.Output.contents c.args.held.now in
    let old = contents_behind g.O.Output.contents c.loop-line.held in
    let before = subst (λ (left : List (ℕ × List ℕ)). SoFar g.row.N all first bytes left c.loop-line.database old)
    c.in-None.ensures.steps.0 c.loop-line.invariant.2 in
    so_far-end g.row.N all first bytes c.loop-line.database old before
