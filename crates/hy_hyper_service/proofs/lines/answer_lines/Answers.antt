-- One line more, and how a round of lines ends.
use Rattle.std.proofs.Common.{◌≡◌, ◌∷◌, [], ap, ap₂, inl, inr, refl, sym, subst, ◌∙◌, arith, length}
use Rattle.hy_script.specs.Databases.{DatabaseState}
use Rattle.hy_hyper_input.specs.Received.{Said}
use Rattle.hy_hyper_answers.specs.Served.{AnswersSaid, bad_event_text}
use Rattle.hy_hyper_service.specs.Rounds.{quit_line}
use Rattle.hy_hyper_service.proofs.LinesLaws.{full, no-more, none-answered, one-more, quits}
use Rattle.hy_hyper_service.proofs.lines.answer_lines.Goals.{in-Line+else-is_quit+in_ok-answer-in-Line, in-TooLong+in_ok-answer_too_long-in-TooLong}
use Rattle.hy_hyper_service.proofs.lines.answer_lines.Goals as goal

pub loop-init : goal.loop-init
loop-init g c = none-answered 4_096 c.args.database.now c.args.answers.now c.args.input.now

pub returns-then-text-ge-MAX_HELD-clause-answered : goal.returns-then-text-ge-MAX_HELD-clause-answered
returns-then-text-ge-MAX_HELD-clause-answered g c =
    full 4_096 c.args.database.now c.args.answers.now c.args.input.now c.loop.database c.loop.answers c.loop.input
    c.loop.counter c.loop.invariant c.loop.auto.counter-end
    (inr (omega (arith, c.if-text-ge-MAX_HELD.true, ap length c.text.ensures)))

pub returns-then-is_quit-clause-answered : goal.returns-then-is_quit-clause-answered
returns-then-is_quit-clause-answered g c =
    let line : c.next.new.self.line ≡ quit_line = sym c.line.ensures ∙ c.is_quit.ensures.0 c.if-is_quit.true in
    quits 4_096 c.args.database.now c.args.answers.now c.args.input.now c.loop.database c.loop.answers c.loop.input
    c.loop.counter c.loop.invariant c.loop.auto.counter-end c.next.new.self _ c.in-Line.ensures
    (ap (λ line. Said.a_line c.next.new.self.number line ∷ []) line)

pub returns-in-Nothing-clause-answered : goal.returns-in-Nothing-clause-answered
returns-in-Nothing-clause-answered g c =
    no-more 4_096 c.args.database.now c.args.answers.now c.args.input.now c.loop.database c.loop.answers c.loop.input
    c.loop.counter c.loop.invariant c.loop.auto.counter-end c.next.new.self _ c.in-Nothing.ensures refl

pub loop-preserved : goal.loop-preserved
loop-preserved g c = elim c.match-next.branch [
  | in-Line+else-is_quit+in_ok-answer-in-Line w ↦
      let answered = w.in_ok-answer-in-Line.ensures.answered in
      let one : Said = Said.a_line w.number.result w.line-in-Line.result.now in
      one-more 4_096 c.args.database.now c.args.answers.now c.args.input.now c.loop.database c.loop.answers c.loop.input
      c.loop.counter c.loop.invariant c.loop.auto.counter-end c.next.new.self _ w.in-Line.ensures one
      (ap₂ (λ number line. Said.a_line number line ∷ []) (sym w.number.ensures) (sym w.line-in-Line.ensures))
      (λ is. absurd (cc (w.is_quit.ensures.1 (w.line.ensures ∙ sym w.line-in-Line.ensures ∙ is), w.if-is_quit.false)))
      c.match-next.database answered.0 c.match-next.answers
      (subst (λ (next : DatabaseState). AnswersSaid 4_096 one c.loop.database next answered.0) (sym w.database-is)
      answered.1)
      (w.answers-is ∙ answered.2)
  | in-TooLong+in_ok-answer_too_long-in-TooLong w ↦
      let one : Said = Said.too_long w.number-in-TooLong.result in
      one-more 4_096 c.args.database.now c.args.answers.now c.args.input.now c.loop.database c.loop.answers c.loop.input
      c.loop.counter c.loop.invariant c.loop.auto.counter-end c.next.new.self _ w.in-TooLong.ensures one
      (ap (λ number. Said.too_long number ∷ []) (sym w.number-in-TooLong.ensures)) (λ is. is) c.match-next.database
      (bad_event_text w.number-in-TooLong.result) c.match-next.answers (w.database-is, refl)
      (w.answers-is ∙ w.in_ok-answer_too_long-in-TooLong.ensures.answered)
]

pub returns-clause-answered : goal.returns-clause-answered
returns-clause-answered g c =
    full 4_096 c.args.database.now c.args.answers.now c.args.input.now c.loop.database c.loop.answers c.loop.input
    c.loop.counter c.loop.invariant c.loop.auto.counter-end
    (inl (c.loop.invariant.counted ∙ (let all : c.loop.counter ≡ 4096 = omega (arith, c.loop-test.false, c.loop.auto.counter-end) in all)))
