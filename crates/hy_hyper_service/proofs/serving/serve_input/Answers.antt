-- One round more, and how a service comes to its end.
use Rattle.std.proofs.Common.{◌≡◌, [], Ok, ap, refl, sym, subst}
use Rattle.hy_hyper_input.specs.Received.{Hears}
use Rattle.hy_hyper_input.proofs.HearsLaws.{hears-nothing}
use Rattle.hy_hyper_service.specs.declared.lines.RoundEnd.{RoundEnd}
use Rattle.hy_hyper_service.specs.Endings.{EndsLife}
use Rattle.hy_hyper_service.specs.Endings.EndsLife.{by_round, unread}
use Rattle.hy_hyper_service.specs.Rounds.IsOver.{at_end, by_line}
use Rattle.hy_hyper_service.specs.Rounds.{said_in, told_at}
use Rattle.hy_hyper_service.proofs.RoundLaws.{handed-on, nothing-served, rounds, served-all, served-more}
use Rattle.hy_hyper_service.proofs.serving.serve_input.Goals.{in-Full, in-Waits+in-Ok-true}
use Rattle.hy_hyper_service.proofs.serving.serve_input.Goals as goal

pub loop-init : goal.loop-init
loop-init g c = nothing-served 4_096 g.K.Loaded.load c.args.service c.args.input.now

pub returns-in-Quit-clause-served : goal.returns-in-Quit-clause-served
returns-in-Quit-clause-served g c =
    let input = c.round.new.input in
    served-all 4_096 g.K.Loaded.load c.args.service c.loop.service c.args.input.now c.loop.input c.loop.counter
    c.loop.invariant c.in_ok-next.next input c.in_ok-next.end c.in_ok-next.ensures.went input refl (hears-nothing input)
    (by_line c.in-Quit.is)

pub returns-in-Ok-false-clause-served : goal.returns-in-Ok-false-clause-served
returns-in-Ok-false-clause-served g c =
    let input = c.round.new.input in
    let later = c.has_more.new.input in
    let all = rounds 4_096 g.K.Loaded.load c.args.service c.loop.service c.args.input.now c.loop.input c.loop.counter
    c.loop.invariant c.in_ok-next.next input c.in_ok-next.end c.in_ok-next.ensures.went in
    let over = c.in-Ok-false.ensures.over (ap Ok c.in-Ok-false.field-0-test) in
    served-all 4_096 g.K.Loaded.load c.args.service c.loop.service c.args.input.now c.loop.input c.loop.counter
    c.loop.invariant c.in_ok-next.next input c.in_ok-next.end c.in_ok-next.ensures.went later
    (subst (λ (end : RoundEnd). told_at end input.number (said_in all) ≡ told_at end later.number (said_in all))
    (sym c.in-Waits.is) refl)
    c.has_more.ensures.heard (at_end c.in-Waits.is over.0 over.1)

pub returns-in-Err-clause-ended : goal.returns-in-Err-clause-ended
returns-in-Err-clause-ended g c =
    let input = c.round.new.input in
    let all = rounds 4_096 g.K.Loaded.load c.args.service c.loop.service c.args.input.now c.loop.input c.loop.counter
    c.loop.invariant c.in_ok-next.next input c.in_ok-next.end c.in_ok-next.ensures.went in
    let served = served-more 4_096 g.K.Loaded.load c.args.service c.loop.service c.args.input.now c.loop.input
    c.loop.counter c.loop.invariant c.in_ok-next.next input c.in_ok-next.end c.in_ok-next.ensures.went
    c.has_more.new.input
    (subst (λ (end : RoundEnd). told_at end input.number (said_in all) ≡ said_in all) (sym c.in-Waits.is) refl)
    c.has_more.ensures.heard in
    unread served.rounds c.in_ok-next.next served.are served.heard c.in-Err.error c.end_unread.ensures.why input
    c.in-Err.ensures.failed c.end_unread.ensures.log c.end_unread.ensures.out

pub returns-in_err-next-clause-ended : goal.returns-in_err-next-clause-ended
returns-in_err-next-clause-ended g c =
    let ended = c.in_err-next.field-0.0 in
    handed-on c.from_residual.result ended (λ ended. EndsLife 4_096 g.K.Loaded.load c.args.service c.args.input.now
    c.round.new.input ended.log (g.O.Output.contents ended.out) (g.O.Output.has_failed ended.out) ended.why)
    c.from_residual.ensures.1
    (by_round c.loop.invariant.rounds c.loop.service c.loop.invariant.are c.loop.input c.loop.invariant.heard
    c.in_err-next.ensures.ended)

pub loop-preserved : goal.loop-preserved
loop-preserved g c =
    let input = c.round.new.input in
    let all = rounds 4_096 g.K.Loaded.load c.args.service c.loop.service c.args.input.now c.loop.input c.loop.counter
    c.loop.invariant c.in_ok-next.next input c.in_ok-next.end c.in_ok-next.ensures.went in
    elim c.match-end.branch [
      | in-Full w ↦
          served-more 4_096 g.K.Loaded.load c.args.service c.loop.service c.args.input.now c.loop.input c.loop.counter
          c.loop.invariant c.in_ok-next.next input c.in_ok-next.end c.in_ok-next.ensures.went c.match-end.input
          (subst (λ (end : RoundEnd). told_at end input.number (said_in all) ≡ said_in all) (sym w.in-Full.is) refl)
          (subst (λ later. Hears input later []) (sym w.input-is) (hears-nothing input))
      | in-Waits+in-Ok-true w ↦
          served-more 4_096 g.K.Loaded.load c.args.service c.loop.service c.args.input.now c.loop.input c.loop.counter
          c.loop.invariant c.in_ok-next.next input c.in_ok-next.end c.in_ok-next.ensures.went c.match-end.input
          (subst (λ (end : RoundEnd). told_at end input.number (said_in all) ≡ said_in all) (sym w.in-Waits.is) refl)
          (subst (λ later. Hears input later []) (sym w.input-is) w.has_more.ensures.heard)
    ]
