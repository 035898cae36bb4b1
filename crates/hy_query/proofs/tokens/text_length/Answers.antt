use Rattle.std.proofs.Common.{◌==◌, ◌+◌, ap, ◌∙◌, sym, rules, tests}
use Rattle.std.proofs.lemmas.Iterator.{YieldsList-from_slice}
use Rattle.std.proofs.lemmas.Iterator.Search.{position_from_yields_List}
use Rattle.hy_query.specs.Tokens.{word_length}
use Rattle.hy_query.proofs.TokenLaws.{text_length-closed, text_length-open}
use Rattle.hy_query.proofs.tokens.text_length.Goals as goal

pub returns-in-Some-clause-same : goal.returns-in-Some-clause-same
returns-in-Some-clause-same c =
    let text = c.args.text.now in
    let found = position_from_yields_List (λ byte. byte == 39) _ _ c.position.result c.position.ensures.ran
    (YieldsList-from_slice text cc) (λ x b q k. search (rules, tests)) in
    ap (λ length. c.in-Some.place + 1 + length) (c.word_length.ensures.same ∙ ap word_length c.split_at.ensures.back)
    ∙ sym (text_length-closed text c.position.result c.in-Some.place found c.in-Some.is)

pub returns-in-None-clause-same : goal.returns-in-None-clause-same
returns-in-None-clause-same c =
    let text = c.args.text.now in
    let found = position_from_yields_List (λ byte. byte == 39) _ _ c.position.result c.position.ensures.ran
    (YieldsList-from_slice text cc) (λ x b q k. search (rules, tests)) in
    sym (text_length-open text c.position.result found c.in-None.is)
