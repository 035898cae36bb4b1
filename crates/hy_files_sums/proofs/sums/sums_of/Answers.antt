-- One text more.
use Rattle.std.proofs.Common.{◌≡◌, ◌<◌, ◌++◌, ℕ, List, map, get_or, length, take, sym, ap, ap₂, ◌∙◌, arith}
use Rattle.hy_rows.specs.Catalogue.{tables_by_file}
use Rattle.hy_rows.specs.declared.catalogue.Table.TheVariants as table
use Rattle.hy_files_sums.specs.Sums.{sum_line, sums_text}
use Rattle.hy_files_sums.proofs.SumsLaws.{count-map, get-map, sums-next}
use Rattle.hy_files_sums.proofs.sums.sums_of.Goals as goal

pub loop-place-preserved : goal.loop-place-preserved
loop-place-preserved c =
    let place = c.loop-place.place in
    let all = c.args.texts.now in
    let texts : List (List ℕ) = map (λ text. text.items) all in
    let one = c.index-texts-place.result in
    let own = get_or tables_by_file place table.Warehouse in
    let within : place < length texts =
    omega (arith, c.loop-place-test.true, c.requires, count-map (λ text. text.items) all) in
    let text : c.deref.result.now ≡ get_or texts place one.items =
    c.deref.ensures.value ∙ ap (λ text. text.items) c.index-texts-place.is
    ∙ sym (get-map (λ text. text.items) all place one) in
    c.in_ok-push_str.ensures.bytes
    ∙ ap₂ (λ a b. a ++ b) c.loop-place.invariant (c.as_str.ensures.value ∙ c.in_ok-line.ensures)
    ∙ ap (λ all. sums_text (take place tables_by_file) (take place texts) ++ sum_line own all) text
    ∙ sym (sums-next tables_by_file texts place table.Warehouse one.items (omega (arith, c.loop-place-test.true)) within)
