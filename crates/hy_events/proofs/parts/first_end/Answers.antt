use Rattle.std.proofs.Common.{◌==◌, length, unwrap_or, ap, ◌∙◌, rules, tests}
use Rattle.std.proofs.lemmas.Iterator.{YieldsList-from_slice}
use Rattle.std.proofs.lemmas.Iterator.Search.{position_from_yields_List}
use Rattle.hy_rows.proofs.TextLaws.{unwrap_or-position}
use Rattle.hy_events.proofs.parts.first_end.Goals as goal

pub returns : goal.returns
returns c =
    let bytes = c.args.line.now in
    let first = position_from_yields_List (λ byte. byte == c.args.separator) _ _ c.position.result c.position.ensures.ran (YieldsList-from_slice bytes cc) (λ x b q k. search (rules, tests)) in
    c.unwrap_or.ensures ∙ ap (λ place. unwrap_or place (length bytes)) first ∙ unwrap_or-position (λ byte. byte == c.args.separator) bytes
