use Rattle.std.proofs.Common.{◌==◌, not, length, unwrap_or, ap, ◌∙◌, rules, tests}
use Rattle.std.proofs.lemmas.Iterator.{YieldsList-from_slice}
use Rattle.std.proofs.lemmas.Iterator.Search.{position_from_yields_List}
use Rattle.hy_rows.proofs.TextLaws.{unwrap_or-position}
use Rattle.hy_query.proofs.TokenLaws.{space_count-place}
use Rattle.hy_query.proofs.tokens.space_count.Goals as goal

pub returns-clause-same : goal.returns-clause-same
returns-clause-same c =
    let text = c.args.text.now in
    let first = position_from_yields_List (λ byte. not (byte == 32)) _ _ c.position.result c.position.ensures.ran
    (YieldsList-from_slice text cc) (λ x b q k. search (rules, tests)) in
    c.unwrap_or.ensures ∙ ap (λ place. unwrap_or place (length text)) first
    ∙ unwrap_or-position (λ byte. not (byte == 32)) text ∙ space_count-place text
