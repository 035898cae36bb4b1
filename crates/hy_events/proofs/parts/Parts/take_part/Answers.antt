use Rattle.std.specs.Prelude.{◌≡◌, ◌+◌}
use Rattle.std.proofs.Common.{ap, sym, ◌∙◌}
use Rattle.hy_events.specs.Words.{first_word, later_words, parts}
use Rattle.hy_events.proofs.PartLaws.{behind, parts-first, parts-last}
use Rattle.hy_events.proofs.parts.Parts.take_part.Goals as goal

pub returns-then-end-rest-clause-part : goal.returns-then-end-rest-clause-part
returns-then-end-rest-clause-part c =
    let whole : parts c.self.inside.separator c.in_ok-rest.rest.now ≡ c.args.self.now = rw c.in_ok-rest.was at c.self.view_is in
    ap first_word (sym (parts-first _ _ _ c.first_end-end.ensures c.if-end-rest.true) ∙ whole)

pub returns-then-end-rest-clause-later : goal.returns-then-end-rest-clause-later
returns-then-end-rest-clause-later c =
    let whole : parts c.self.inside.separator c.in_ok-rest.rest.now ≡ c.args.self.now = rw c.in_ok-rest.was at c.self.view_is in
    ap (parts c.self.inside.separator) (behind c.in_ok-rest.rest.now (c.first_end-end.result + 1))
    ∙ ap later_words (sym (parts-first _ _ _ c.first_end-end.ensures c.if-end-rest.true) ∙ whole)

pub returns-else-end-rest-clause-part : goal.returns-else-end-rest-clause-part
returns-else-end-rest-clause-part c =
    let whole : parts c.self.inside.separator c.in_ok-rest.rest.now ≡ c.args.self.now = rw c.in_ok-rest.was at c.self.view_is in
    ap first_word (sym (parts-last _ _ _ c.first_end-end.ensures c.if-end-rest.false) ∙ whole)

pub returns-else-end-rest-clause-later : goal.returns-else-end-rest-clause-later
returns-else-end-rest-clause-later c =
    let whole : parts c.self.inside.separator c.in_ok-rest.rest.now ≡ c.args.self.now = rw c.in_ok-rest.was at c.self.view_is in
    ap later_words (sym (parts-last _ _ _ c.first_end-end.ensures c.if-end-rest.false) ∙ whole)
