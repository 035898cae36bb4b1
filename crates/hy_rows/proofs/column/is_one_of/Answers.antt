use Rattle.std.proofs.Common.{ℕ, List, bytes_eq, ◌∙◌, rules, tests}
use denote.Ref.{Bor}
use Rattle.std.proofs.lemmas.Iterator.{YieldsList-from_slice}
use Rattle.std.proofs.lemmas.Iterator.Search.{any_from_yields_List}
use Rattle.hy_rows.proofs.ListLaws.{list_any-map}
use Rattle.hy_rows.proofs.column.is_one_of.Goals as goal

-- each word was compared
pub returns : goal.returns
returns c =
    let words = c.args.words.now in
    let text = c.args.text.now in
    any_from_yields_List (λ (word : Bor (List ℕ)). bytes_eq word.now text) _ _ c.any.result c.any.ensures.ran
    (YieldsList-from_slice words cc) (λ x b q k. search (rules, tests))
    ∙ list_any-map (λ (word : Bor (List ℕ)). word.now) (λ word. bytes_eq word text) words
