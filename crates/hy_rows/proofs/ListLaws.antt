-- Tests of lists that were made of others, and what passes a test.
use Rattle.std.proofs.Common.{◌≡◌, ℕ, ◌+◌, ◌<◌, Bool, ◌||◌, List, [], ◌∷◌, ◌++◌, filter, length, map, refl, slice_index_or, sym, take, ap, ◌∙◌}
use Rattle.std.proofs.lemmas.List.Elements.{filter_more}
use Rattle.std.specs.List.{list_any}

pub list_any-map : {One Other : Type 0} (seen : One → Other) (test : Other → Bool) (items : List One)
    → list_any (λ item. test (seen item)) items ≡ list_any test (map seen items)
list_any-map seen test [] = refl
list_any-map seen test (item ∷ items) = ap (λ later. test (seen item) || later) (list_any-map seen test items)

-- of the rows up to a place, and of the one there
pub filter-more : {Row : Type 0} (test : Row → Bool) (rows found next : List Row) (place : ℕ) (row : Row)
    → place < length rows → row ≡ slice_index_or rows place row → found ≡ filter test (take place rows)
    → next ≡ found ++ filter test (row ∷ []) → next ≡ filter test (take (place + 1) rows)
filter-more test rows found next place row within is before more =
    more ∙ ap (λ list. list ++ filter test (row ∷ [])) before
    ∙ ap (λ last. filter test (take place rows) ++ filter test (last ∷ [])) is
    ∙ sym (filter_more test rows place row within)
