use Rattle.std.proofs.Common.{◌≡◌, ◌+◌, ◌++◌, ◌∷◌, [], take, ap, subst, sym, ◌∙◌, arith}
use Rattle.std.proofs.lemmas.List.{take_more}
use Rattle.std.specs.Prelude.{⊤}
use Rattle.hy_schema.specs.Loads.{IsRight}
use Rattle.hy_loads.proofs.ListLaws.{IsRight-all, right-one_more}
use Rattle.hy_loads.proofs.list.first_wrong.Goals as goal

-- one more row is right, and was seen
pub loop-place-preserved : goal.loop-place-preserved
loop-place-preserved g c =
    let rows = c.rows-rows.result.now in
    let place = c.loop-place.place in
    let row = c.index-rows-place.result in
    let here = c.in_ok-is_right.ensures in
    let one_more : take (place + 1) rows ≡ take place rows ++ row ∷ [] =
    take_more rows place row c.loop-place-test.true
    ∙ ap (λ last. take place rows ++ last ∷ []) (sym c.index-rows-place.is) in
    let seen = here.seen c.if-not-branch.false in
    record {
      right =
          right-one_more (g.L.Rule.right c.args.rule.now) rows place row c.loop-place-test.true c.index-rows-place.is
          c.loop-place.invariant.right (here.decides.0 c.if-not-branch.false);
      seen =
          subst (g.L.Rule.has_seen c.is_right.new.seen) (ap (λ all. take place all ++ row ∷ []) (sym c.rows-rows.ensures)
          ∙ sym one_more) seen;
      few = omega (arith, c.if-place-eq-MAX_ROWS.false, c.loop-place.invariant.few);
    }

-- all rows are right
pub returns-clause-right : goal.returns-clause-right
returns-clause-right g c =
    let rows = c.rows-rows.result.now in
    let right = g.L.Rule.right c.args.rule.now in
    subst (λ all. IsRight right ⊤ all) c.rows-rows.ensures
    (IsRight-all right rows ⊤ (omega (arith, c.loop-place-test.false, c.loop-place.invariant.few))
    (λ place within. c.loop-place.invariant.right place (omega (arith, within, c.loop-place-test.false))) tt)
