-- What was written for a line is all that is held of it.
use Rattle.std.proofs.Common.{◌≡◌, ◌++◌, ◌∙◌, [], ap, inl}
use Rattle.hy_hyper_answers.specs.Served.{HeldAnswers, printed}
use Rattle.hy_hyper_answers.proofs.ServedLaws.{ok-then}
use Rattle.hy_hyper_answers.proofs.answers.Answers.answer.Goals as goal

pub returns-in-Ok-clause-answered : goal.returns-in-Ok-clause-answered
returns-in-Ok-clause-answered g c =
    let answered = c.in-Ok.ensures.answered in
    let before : HeldAnswers = record { style = c.self.inside.style; text = c.self.inside.held.items } in
    let empty : c.new-out.result.writer.items ≡ [] =
    ap (λ writer. writer.items) (c.new-out.ensures.writer ∙ c.replace.ensures.value) ∙ c.self.invariant in
    let text : c.into_writer.result.items ≡ answered.0 =
    ap (λ writer. writer.items) c.into_writer.ensures ∙ answered.2 ∙ ap (λ front. front ++ answered.0) empty in
    ok-then c.hold.result
    (λ held. (
      answered.0,
      inl answered.1,
      held ∙ ap (λ all. record before { text = before.text ++ printed before.style c.args.number all }) text
          ∙ ap (λ (old : HeldAnswers). record old { text = old.text ++ printed old.style c.args.number answered.0 }) c.self.view_is,
    ))
    c.hold.ensures.held
