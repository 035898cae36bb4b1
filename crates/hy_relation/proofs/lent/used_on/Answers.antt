use Rattle.std.proofs.Common.{◌≡◌, ℕ, List, [], sym, ap, ◌∙◌}
use Rattle.std.proofs.lemmas.List.{get_or_default}
use Rattle.hy_rows.specs.Columns.{number_at}
use Rattle.hy_rows.specs.Spelling.{list_at}
use Rattle.hy_relation.proofs.RelationLaws.{length-slots_of}
use Rattle.hy_relation.proofs.lent.used_on.Goals as goal

pub returns-clause-number : goal.returns-clause-number
returns-clause-number g c =
    let pages : List (List ℕ) = c.args.pages.now in
    let page : c.page.result.now ≡ list_at pages 0 = c.page.ensures.bytes ∙ c.index-pages-0.is ∙ get_or_default pages 0 c.index-pages-0.result [] c.requires.slots.first in
    c.field.ensures.value ∙ ap (λ (bytes : List ℕ). number_at bytes 0 8) page

pub returns-clause-count : goal.returns-clause-count
returns-clause-count g c = returns-clause-number g c ∙ sym (length-slots_of g.row.N g.R.Row.BYTES g.R.Row.row_of_bytes c.args.pages.now)
