use Rattle.std.proofs.Common.{◌≡◌, ℕ, ◌<◌, Bor, List, [], length, map, ap, sym, subst, ◌∙◌, arith}
use Rattle.std.specs.Prelude.{All}
use Rattle.std.proofs.lemmas.List.{get_or-map}
use Rattle.hy_columns.proofs.KnownLaws.{known-more}
use Rattle.hy_columns.proofs.scan.know_all_sizes.Goals as goal

-- the pages of the next segment have theirs too
pub loop-pages-preserved : goal.loop-pages-preserved
loop-pages-preserved g c =
    let index : ℕ = c.loop-pages.pages-index in
    let Sized : List (List ℕ) → Type 0 = All (λ page. length page ≡ g.row.N) in
    let pages_of : Bor (List (List ℕ)) → List (List ℕ) = λ segment. segment.now in
    let within : index < length c.args.segments.now = omega (arith, c.loop-pages-test.true, c.loop-pages.auto.pages-index-end) in
    known-more Sized (map pages_of c.args.segments.now) index c.loop-pages.invariant
    (subst Sized (ap pages_of c.pages-item.is ∙ sym (get_or-map pages_of c.args.segments.now index c.pages-item.result [] within))
    c.know_sizes.ensures)
