use Rattle.std.proofs.Common.{◌==◌, length, take, unwrap_or, ap, ◌∙◌, rules, tests}
use Rattle.std.proofs.lemmas.Iterator.{YieldsList-from_slice}
use Rattle.std.proofs.lemmas.Iterator.Search.{position_from_yields_List}
use Rattle.hy_rows.proofs.TextLaws.{unwrap_or-position, take-text}
use Rattle.hy_columns.proofs.decode.text_in.Goals as goal

-- the text ends at the first zero byte, or at the end of the field where there is none
pub returns : goal.returns
returns c =
    let bytes = c.args.field.now in
    let first = position_from_yields_List (λ byte. byte == 0) _ _ c.position.result c.position.ensures.ran (YieldsList-from_slice bytes cc) (λ x b q k. search (rules, tests)) in
    ap (λ place. take place bytes) (c.unwrap_or-len.ensures ∙ ap (λ place. unwrap_or place (length bytes)) first ∙ unwrap_or-position (λ byte. byte == 0) bytes)
    ∙ take-text bytes
