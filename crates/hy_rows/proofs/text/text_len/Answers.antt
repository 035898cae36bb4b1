use Rattle.std.proofs.Common.{◌==◌, length, take, unwrap_or, ap, ◌∙◌, rules, tests}
use Rattle.std.proofs.lemmas.Iterator.{YieldsList-from_slice}
use Rattle.std.proofs.lemmas.Iterator.Search.{position_from_yields_List}
use Rattle.hy_rows.proofs.TextLaws.{unwrap_or-position, take-text}
use Rattle.hy_rows.proofs.text.text_len.Goals as goal

-- the text ends at the first zero byte, or at the end of the field where there is none
pub returns-clause-text : goal.returns-clause-text
returns-clause-text c =
    let bytes = c.args.bytes.now in
    let first = position_from_yields_List (λ byte. byte == 0) _ _ c.position.result c.position.ensures.ran (YieldsList-from_slice bytes cc) (λ x b q k. search (rules, tests)) in
    ap (λ place. take place bytes) (c.unwrap_or.ensures ∙ ap (λ place. unwrap_or place (length bytes)) first ∙ unwrap_or-position (λ byte. byte == 0) bytes)
    ∙ take-text bytes
